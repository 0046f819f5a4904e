use Rattle.std.proofs.Common.{rules, arith}
use Rattle.byte.proofs.Laid.{laid_part}
use Rattle.token.specs.Files.{little_endian}
use Rattle.token.proofs.put_number.Goals as goal

-- the bytes of the number are copied to their place
pub returns : goal.returns
unfolding little_endian
returns c = laid_part _ _ _ _ _ (search rules) (omega arith)
