use Rattle.token.proofs.Files.{Filing}
use Rattle.token.proofs.put_numbers.Given as goal

-- so many numbers of the list are written
abbrev pub invariant-loop-i : goal.invariant-loop-i
invariant-loop-i l = Filing l.list l.fn.file l.file l.i
