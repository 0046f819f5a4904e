-- `modes::lookings::varname` meets its contract: each of these returns is a law of `Looks`. Assumes nothing.
use Rattle.std.proofs.Common.{rules}
use Rattle.modes.proofs.Looks.{varnames}
use Rattle.modes.proofs.lookings.varname.Goals as goal

pub returns-then-is_bracketed : goal.returns-then-is_bracketed
returns-then-is_bracketed c = search (varnames, rules)
