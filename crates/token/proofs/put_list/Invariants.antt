use Rattle.token.proofs.Files.{Listing}
use Rattle.token.proofs.put_list.Given as goal

-- so many numbers of the file are written
abbrev pub invariant-loop-i : goal.invariant-loop-i
invariant-loop-i l = Listing l.file l.count l.fn.list l.list l.i
