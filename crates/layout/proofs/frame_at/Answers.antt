use Rattle.layout.proofs.Lent.{frame_in_at}
use Rattle.layout.proofs.frame_at.Goals as goal

pub returns : goal.returns
returns c = frame_in_at _ _ _ c.requires c.slot_in-slot.ensures
