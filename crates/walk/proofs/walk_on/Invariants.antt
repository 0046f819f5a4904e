-- `walk::walk_on` meets its contract: the loop keeps `Walking`. Assumes nothing.
use Rattle.walk.proofs.Walking.{Walking}
use Rattle.walk.proofs.walk_on.Given as goal

abbrev pub invariant-loop-left : goal.invariant-loop-left
invariant-loop-left l = Walking l.initial.call l.most l.src l.end l.initial.session l.initial.list l.initial.pool l.left l.call l.at.mark l.at.depth l.f l.choices l.session l.list l.pool

abbrev pub decreases-loop-left : goal.decreases-loop-left
decreases-loop-left l = l.left
