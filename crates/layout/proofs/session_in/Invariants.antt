use Rattle.layout.proofs.Sessions.{Reads}
use Rattle.layout.proofs.session_in.Given as goal

-- so many slots are read
abbrev pub invariant-loop-i : goal.invariant-loop-i
invariant-loop-i l = Reads l.numbers l.frames l.i
