use Rattle.std.proofs.Common.{arith}
use Rattle.state.proofs.Bounds.{looked_bottom, looked_first, looked_on, looked_stop, looked_end}
use Rattle.state.proofs.are_frames.Goals as goal

pub returns-then-not-is_bottom : goal.returns-then-not-is_bottom
returns-then-not-is_bottom g c = looked_bottom _ _ _ _ _ c.is_bottom.ensures c.frame_at.ensures c.if-not-is_bottom.true

pub returns-then-not-is_frame : goal.returns-then-not-is_frame
returns-then-not-is_frame g c =
    looked_stop _ _ _ _ c.loop-i.invariant (omega arith) _ _ c.is_frame.ensures c.frame_at-in-loop-i.ensures
    c.if-not-is_frame.true

pub loop-i-init : goal.loop-i-init
loop-i-init g c =
    looked_first c.args.src.now (g.F.Frames.frame c.args.frames.now) c.args.depth _ _ c.is_bottom.ensures
    c.frame_at.ensures c.if-not-is_bottom.false

pub loop-i-preserved : goal.loop-i-preserved
loop-i-preserved g c =
    looked_on _ _ _ _ c.loop-i.invariant (omega arith) _ _ c.is_frame.ensures c.frame_at-in-loop-i.ensures
    c.if-not-is_frame.false

pub returns : goal.returns
returns g c = looked_end _ _ _ _ c.loop-i.invariant (omega arith)
