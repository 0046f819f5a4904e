use Rattle.token.proofs.Copies.{Copying}
use Rattle.token.proofs.copy_few.Given as goal

-- so many bytes of the part are written
abbrev pub invariant-loop-i : goal.invariant-loop-i
invariant-loop-i l = Copying l.part l.fn.rest l.rest l.i
