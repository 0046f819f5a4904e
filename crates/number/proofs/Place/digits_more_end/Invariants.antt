-- `number::Place::digits_more_end` meets its contract: the loop keeps `Passing`. Assumes nothing.
use Prim.Native.Nat.{◌-◌}
use lib.ListN.{length}
use Rattle.number.proofs.Runs.{Passing}
use Rattle.number.proofs.Place.digits_more_end.Given as goal

abbrev pub invariant-loop-width : goal.invariant-loop-width
invariant-loop-width l = Passing l.base l.self.end l.self.src.now l.self.at l.at

abbrev pub decreases-loop-width : goal.decreases-loop-width
decreases-loop-width l = length l.self.src.now - l.at
