-- `modes::rows::row_of` meets its contract: each of these returns is a law of `Calls`. Assumes nothing.
use Rattle.modes.proofs.Calls.{call_rows}
use Rattle.modes.proofs.rows.row_of.Goals as goal

pub returns-in-Step : goal.returns-in-Step
returns-in-Step c = search call_rows

pub returns-in-Number : goal.returns-in-Number
returns-in-Number c = search call_rows

pub returns-in-Single : goal.returns-in-Single
returns-in-Single c = search call_rows

pub returns-in-Double : goal.returns-in-Double
returns-in-Double c = search call_rows
