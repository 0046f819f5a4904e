use Rattle.std.proofs.Common.{rules, arith}
use Rattle.byte.proofs.Laid.{laid_part}
use Rattle.layout.proofs.put_slot.Goals as goal

pub returns : goal.returns
returns c = laid_part _ _ _ _ _ (search rules) (omega arith)
