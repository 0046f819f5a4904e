use Rattle.std.proofs.Common.{rules, arith}
use Rattle.layout.proofs.Sessions.{reads_first, reads_on, reads_session}
use Rattle.layout.proofs.session_in.Goals as goal

pub loop-i-init : goal.loop-i-init
loop-i-init c = reads_first _ _ (search rules)

pub loop-i-preserved : goal.loop-i-preserved
loop-i-preserved c = reads_on _ _ _ c.loop-i.invariant _ (omega arith) (search rules)

pub returns : goal.returns
returns c = reads_session _ _ _ c.loop-i.invariant _ _ (omega arith) (search rules) (search rules)
