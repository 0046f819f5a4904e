-- `initial::find_tag` meets its contract: the loop keeps `Finding`. Assumes nothing.
use Prim.Native.Nat.{◌-◌}
use lib.ListN.{length}
use Rattle.initial.proofs.Tags.{Finding}
use Rattle.initial.proofs.find_tag.Given as goal

abbrev pub invariant-loop-i : goal.invariant-loop-i
invariant-loop-i l = Finding l.src l.end l.at l.from

abbrev pub decreases-loop-i : goal.decreases-loop-i
decreases-loop-i l = length l.src - l.from
