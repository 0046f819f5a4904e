use Rattle.std.proofs.Common.{◌-◌}
use Rattle.token.proofs.Copies.{Copying}
use Rattle.token.proofs.copy.Given as goal

-- so many bytes of the part are written
abbrev pub invariant-loop-i : goal.invariant-loop-i
invariant-loop-i l = Copying l.part l.fn.rest l.rest l.i

abbrev pub decreases-loop-i : goal.decreases-loop-i
decreases-loop-i l = l.last - l.i
