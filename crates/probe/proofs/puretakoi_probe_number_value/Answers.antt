-- `probe::puretakoi_probe_number_value` meets its contract: a refusal comes before any write. Assumes nothing.
use Rattle.probe.proofs.Literals.{number_values}
use Rattle.probe.proofs.puretakoi_probe_number_value.Goals as goal

pub returns-then-src-gt65536 : goal.returns-then-src-gt65536
returns-then-src-gt65536 c = search number_values

pub returns-then-src-at : goal.returns-then-src-at
returns-then-src-at c = search number_values

pub returns-in_default : goal.returns-in_default
returns-in_default c = search number_values

pub returns-then-found-value : goal.returns-then-found-value
returns-then-found-value c = search number_values

pub returns : goal.returns
returns c = search number_values
