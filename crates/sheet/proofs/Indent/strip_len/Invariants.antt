-- So many bytes are left of the lines passed. Assumes nothing.
use Rattle.std.proofs.Common.{length, ◌-◌}
use Rattle.sheet.proofs.Turns.{Stripping}
use Rattle.sheet.proofs.Indent.strip_len.Given as goal

abbrev pub invariant-loop-i : goal.invariant-loop-i
invariant-loop-i l = Stripping l.self l.body l.at l.i l.len

abbrev pub decreases-loop-i : goal.decreases-loop-i
decreases-loop-i l = length l.body - l.i
