use Rattle.layout.proofs.Sessions.{Puts}
use Rattle.layout.proofs.put_frames.Given as goal

-- so many slots are written
abbrev pub invariant-loop-i : goal.invariant-loop-i
invariant-loop-i l = Puts l.fn.s.frames l.fn.numbers l.numbers l.i
