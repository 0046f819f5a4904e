-- `modes::plan_of` meets its contract: each of these returns is a law of `Calls`. Assumes nothing.
use Rattle.modes.proofs.Calls.{planned}
use Rattle.modes.specs.Code.{way_outcome}
use Rattle.modes.proofs.plan_of.Goals as goal

pub returns-in-Number : goal.returns-in-Number
unfolding way_outcome
returns-in-Number c = search planned

pub returns-in-Text : goal.returns-in-Text
unfolding way_outcome
returns-in-Text c = search planned

pub returns-in-Sheet : goal.returns-in-Sheet
unfolding way_outcome
returns-in-Sheet c = search planned

pub returns-in-Initial : goal.returns-in-Initial
unfolding way_outcome
returns-in-Initial c = search planned

pub returns-in-Scripting : goal.returns-in-Scripting
unfolding way_outcome
returns-in-Scripting c = search planned

pub returns-in-Varname : goal.returns-in-Varname
unfolding way_outcome
returns-in-Varname c = search planned

pub returns-in-Property : goal.returns-in-Property
unfolding way_outcome
returns-in-Property c = search planned

pub returns-in-Offset : goal.returns-in-Offset
unfolding way_outcome
returns-in-Offset c = search planned
