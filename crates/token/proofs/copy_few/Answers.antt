use Rattle.std.proofs.Common.{arith}
use Rattle.token.proofs.Copies.{copying_first, copying_byte}
use Rattle.token.proofs.copy_few.Goals as goal

pub loop-i-init : goal.loop-i-init
loop-i-init c = copying_first _ _ c.requires

pub loop-i-preserved : goal.loop-i-preserved
loop-i-preserved c = copying_byte _ _ c.requires _ _ c.loop-i.invariant (omega arith)
