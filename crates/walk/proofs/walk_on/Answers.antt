-- `walk::walk_on` meets its contract: the loop keeps `Walking`. Assumes nothing.
use mathlib.Core.Path.{◌≡◌}
use mathlib.Core.Bool.{Bool, true, false, not}
use Rattle.walk.proofs.Walking.{walking_deep, walking_first, walking_end}
use Rattle.walk.proofs.Passed.{walking_asks, passed_end, passed_standing, passed_least, passed_less, passed_list}
use Rattle.walk.proofs.Passed.{passed_pool, passed_over, passed_changes, passed_next, passed_on}
use Rattle.walk.proofs.walk_on.Goals as goal
use Rattle.walk.proofs.walk_on.Goals.{else-loop-left-test, then-loop-left-test+then-left-eq0}

not_done : (b : Bool) → b ≡ false → not b ≡ true
not_done b e = rw e

not_left : (b : Bool) → b ≡ true → not b ≡ false
not_left b e = rw e

pub top_in-f-requires : goal.top_in-f-requires
top_in-f-requires c = search walking_deep

pub loop-left-init : goal.loop-left-init
loop-left-init c = search walking_first

pub go_along-r-requires : goal.go_along-r-requires
go_along-r-requires c = search walking_asks

pub step_at-x-requires : goal.step_at-x-requires
step_at-x-requires c = passed_standing _ _ _ _ _ _ _ _ _ _ _ _ _ _ _ _ _ _ c.go_along-r.ensures c.loop-left.invariant

pub overflow_sub-result : goal.overflow_sub-result
overflow_sub-result c = passed_least _ _ _ _ _ _ _ _ _ _ _ _ _ _ _ _ _ _ c.go_along-r.ensures c.loop-left.invariant

pub shape_of-list-then-not-is_done : goal.shape_of-list-then-not-is_done
shape_of-list-then-not-is_done c = passed_list _ _ _ _ _ _ _ _ _ _ _ _ _ _ _ _ _ _ c.go_along-r.ensures c.loop-left.invariant
    c.if-left-eq0.false _ _ _ c.step_at-x.ensures

pub shape_of-pool-then-not-is_done : goal.shape_of-pool-then-not-is_done
shape_of-pool-then-not-is_done c = passed_pool _ _ _ _ _ _ _ _ _ _ _ _ _ _ _ _ _ _ c.go_along-r.ensures c.loop-left.invariant
    c.if-left-eq0.false _ _ _ c.step_at-x.ensures

pub returns-then-not-is_done : goal.returns-then-not-is_done
returns-then-not-is_done c = passed_over _ _ _ _ _ _ _ _ _ _ _ _ _ _ _ _ _ _ c.go_along-r.ensures c.loop-left.invariant
    c.if-left-eq0.false _ _ _ c.step_at-x.ensures
    _ c.is_done.ensures _
    (not_done _ c.if-not-is_done.true) c.put_end.ensures

pub change_frame-requires : goal.change_frame-requires
change_frame-requires c = passed_changes _ _ _ _ _ _ _ _ _ _ _ _ _ _ _ _ _ _ c.go_along-r.ensures c.loop-left.invariant
    c.if-left-eq0.false _ _ _ c.step_at-x.ensures _ c.is_done.ensures

pub frame_after-f-requires : goal.frame_after-f-requires
frame_after-f-requires c = passed_next _ _ _ _ _ _ _ _ _ _ _ _ _ _ _ _ _ _ c.go_along-r.ensures c.loop-left.invariant
    c.if-left-eq0.false _ _ _ c.step_at-x.ensures
    _ c.is_done.ensures
    (not_left _ c.if-not-is_done.false) _ _ c.change_frame.ensures

pub loop-left-smaller : goal.loop-left-smaller
loop-left-smaller c = passed_less _ _ _ _ _ _ _ _ _ _ _ _ _ _ _ _ _ _ c.go_along-r.ensures c.loop-left.invariant
    c.if-left-eq0.false

pub loop-left-preserved : goal.loop-left-preserved
loop-left-preserved c = passed_on _ _ _ _ _ _ _ _ _ _ _ _ _ _ _ _ _ _ c.go_along-r.ensures c.loop-left.invariant
    c.if-left-eq0.false _ _ _ c.step_at-x.ensures
    _ c.is_done.ensures
    (not_left _ c.if-not-is_done.false) _ _
    c.change_frame.ensures _ c.frame_after-f.ensures

pub returns : goal.returns
returns c =
    elim c.loop-left-test.branch [
      | else-loop-left-test w ↦
          walking_end _ _ _ _ _ _ _ _ _ _ _ _ _ _ _ _ c.loop-left.invariant _ w.loop-left-test.false
          (rw w.at-is at c.put_at.ensures)
      | then-loop-left-test+then-left-eq0 w ↦
          passed_end _ _ _ _ _ _ _ _ _ _ _ _ _ _ _ _ _ _ w.go_along-r.ensures c.loop-left.invariant _ w.if-left-eq0.true
          (rw w.at-is at c.put_at.ensures)
    ]
