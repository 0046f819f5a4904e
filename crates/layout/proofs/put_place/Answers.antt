use Rattle.std.proofs.Common.{refl}
use Rattle.byte.proofs.Laid.{laid_front}
use Rattle.layout.proofs.put_place.Goals as goal

pub returns : goal.returns
returns c = laid_front _ _ _ _ c.copy_from_slice.ensures.after refl
