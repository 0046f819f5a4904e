-- `puretakoi::puretakoi_skip` meets its contract: what is written back is the turn of the session in the host's numbers.
use Rattle.std.proofs.Common.{rules}
use Rattle.puretakoi.proofs.Calls.{crossings}
use Rattle.puretakoi.proofs.puretakoi_skip.Goals as goal

pub returns : goal.returns
returns c = search (crossings, rules)
