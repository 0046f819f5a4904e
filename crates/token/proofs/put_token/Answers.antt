use Rattle.std.proofs.Common.{rules, arith}
use Rattle.byte.proofs.Laid.{laid_part}
use Rattle.token.proofs.put_token.Goals as goal

-- the record is copied to its place
pub returns : goal.returns
returns c = laid_part _ _ _ _ _ (search rules) (omega arith)
