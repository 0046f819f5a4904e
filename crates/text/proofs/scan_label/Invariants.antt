-- All bytes up to a place are text. Assumes nothing.
use Rattle.std.proofs.Common.{length, ◌-◌}
use Rattle.text.proofs.Lines.{Lining}
use Rattle.text.proofs.scan_label.Given as goal

abbrev pub invariant-loop-i : goal.invariant-loop-i
invariant-loop-i l = Lining l.label l.end l.src l.at l.i

abbrev pub decreases-loop-i : goal.decreases-loop-i
decreases-loop-i l = length l.src - l.i
