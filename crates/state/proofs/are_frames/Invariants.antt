use Rattle.state.proofs.Bounds.{Looked}
use Rattle.state.proofs.are_frames.Given as goal

-- those so far are frames
abbrev pub invariant-loop-i : goal.invariant-loop-i
invariant-loop-i g l = Looked l.src (g.F.Frames.frame l.frames) l.depth l.i
