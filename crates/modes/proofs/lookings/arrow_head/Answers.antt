-- `modes::lookings::arrow_head` meets its contract: each of these returns is a law of `Looks`. Assumes nothing.
use Rattle.std.proofs.Common.{rules}
use Rattle.modes.proofs.Looks.{arrow_heads}
use Rattle.modes.proofs.lookings.arrow_head.Goals as goal

pub returns-then-src-i : goal.returns-then-src-i
returns-then-src-i c = search (arrow_heads, rules)

pub returns-then-src-i-eq62 : goal.returns-then-src-i-eq62
returns-then-src-i-eq62 c = search (arrow_heads, rules)
