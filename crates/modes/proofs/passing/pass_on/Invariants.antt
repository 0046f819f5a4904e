-- `modes::passing::pass_on` meets its contract: the loop keeps `Running`. Assumes nothing.
use Rattle.modes.proofs.Runs.{Running}
use Rattle.modes.proofs.passing.pass_on.Given as goal

abbrev pub invariant-loop-left : goal.invariant-loop-left
invariant-loop-left l = Running l.call l.src l.f l.fn.p l.fn.most l.span l.left
