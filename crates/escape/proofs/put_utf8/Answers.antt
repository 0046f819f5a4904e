-- `escape::put_utf8` meets its contract: there is room for a code point's bytes. Assumes nothing.
use Rattle.std.proofs.Common.{arith}
use Rattle.escape.proofs.Digits.{utf8_writes}
use Rattle.escape.proofs.put_utf8.Goals as goal

pub put-requires : goal.put-requires
put-requires c = (omega arith, search utf8_writes)

pub put-requires-then-code-lt2048 : goal.put-requires-then-code-lt2048
put-requires-then-code-lt2048 c = (omega arith, search utf8_writes)

pub put-requires-then-code-lt65536 : goal.put-requires-then-code-lt65536
put-requires-then-code-lt65536 c = (omega arith, search utf8_writes)

pub put-requires-2 : goal.put-requires-2
put-requires-2 c = (omega arith, search utf8_writes)
