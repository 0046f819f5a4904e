use Rattle.layout.proofs.Lent.{frame_told_past}
use Rattle.layout.proofs.LentFramesFrames.frame_at.Goals as goal

pub returns-then-i-ge64 : goal.returns-then-i-ge64
returns-then-i-ge64 c = frame_told_past c.args.self.now.numbers.now _ c.if-i-ge64.true
