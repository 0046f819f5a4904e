use Rattle.std.proofs.Common.{rules, arith}
use Rattle.layout.proofs.Sessions.{puts_first, puts_on, puts_end}
use Rattle.layout.proofs.put_frames.Goals as goal

pub loop-i-init : goal.loop-i-init
loop-i-init c = puts_first _ _ c.requires

pub loop-i-preserved : goal.loop-i-preserved
loop-i-preserved c = puts_on _ _ c.requires _ _ c.loop-i.invariant _ (omega arith) (search rules)

pub returns : goal.returns
returns c = puts_end _ _ c.requires _ _ c.loop-i.invariant (omega arith)
