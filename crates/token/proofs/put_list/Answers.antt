use Rattle.std.proofs.Common.{arith}
use Rattle.token.proofs.Files.{listing_first, listing_on}
use Rattle.token.proofs.put_list.Goals as goal

pub loop-i-init : goal.loop-i-init
loop-i-init c = listing_first _ _ _

pub loop-i-preserved : goal.loop-i-preserved
loop-i-preserved c = listing_on _ _ _ _ _ c.loop-i.invariant _ (omega arith) (omega arith) c.number_at.ensures
