-- `modes::rows::script_row` meets its contract: each of these returns is a law of `Calls`. Assumes nothing.
use Rattle.modes.proofs.Calls.{script_rows}
use Rattle.modes.proofs.rows.script_row.Goals as goal

pub returns-then-src-at : goal.returns-then-src-at
returns-then-src-at c = search script_rows

pub returns-in-39 : goal.returns-in-39
returns-in-39 c = search script_rows

pub returns-in-34 : goal.returns-in-34
returns-in-34 c = search script_rows

pub returns-in-46 : goal.returns-in-46
returns-in-46 c = search script_rows

pub returns-in_default : goal.returns-in_default
returns-in_default c = search script_rows
