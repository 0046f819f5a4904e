-- `comment::comment_end` meets its contract: the loop keeps `Searching`. Assumes nothing.
use Prim.Native.Nat.{◌-◌}
use lib.ListN.{length}
use Rattle.comment.proofs.Ends.{Searching}
use Rattle.comment.proofs.comment_end.Given as goal

abbrev pub invariant-loop-n : goal.invariant-loop-n
invariant-loop-n l = Searching l.kind l.end l.src l.at l.k l.from

abbrev pub decreases-loop-n : goal.decreases-loop-n
decreases-loop-n l = length l.src - l.from
