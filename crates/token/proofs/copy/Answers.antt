use Rattle.std.proofs.Common.{rules, arith}
use Rattle.token.proofs.Copies.{copying_first, copying_block, copying_last}
use Rattle.token.proofs.copy.Goals as goal

pub loop-i-init : goal.loop-i-init
loop-i-init c = copying_first _ _ c.requires

pub loop-i-preserved : goal.loop-i-preserved
loop-i-preserved c = copying_block _ _ c.requires _ _ c.loop-i.invariant _ c.loop-i-test.true c.copy_8.ensures

-- the last block lies over what is there
pub returns : goal.returns
returns c = copying_last _ _ c.requires _ _ c.loop-i.invariant _ (omega arith) (omega arith) (search rules)
