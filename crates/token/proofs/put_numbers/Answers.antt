use Rattle.std.proofs.Common.{rules, arith}
use Rattle.token.proofs.Files.{filing_first, filing_on}
use Rattle.token.proofs.put_numbers.Goals as goal

pub loop-i-init : goal.loop-i-init
loop-i-init c = filing_first _ _ c.requires

pub loop-i-preserved : goal.loop-i-preserved
loop-i-preserved c = filing_on _ _ c.requires _ _ c.loop-i.invariant _ (omega arith) (search rules)
