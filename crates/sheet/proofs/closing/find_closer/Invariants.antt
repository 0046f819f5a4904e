-- `sheet::closing::find_closer` meets its contract: the loop keeps `Finding`. Assumes nothing.

use Rattle.std.proofs.Common.{length, ◌-◌}
use Rattle.sheet.proofs.Turns.{Finding}
use Rattle.sheet.proofs.closing.find_closer.Given as goal

abbrev pub invariant-loop-i : goal.invariant-loop-i
invariant-loop-i l = Finding l.label l.src l.at l.end l.i

abbrev pub decreases-loop-i : goal.decreases-loop-i
decreases-loop-i l = length l.src - l.i
