-- Each goal is one law of `Stripping`. Assumes nothing.
use Rattle.std.proofs.Common.{rules}
use Rattle.sheet.proofs.Turns.{stripping}
use Rattle.sheet.proofs.Indent.strip_len.Goals as goal

pub returns-then-self-eq0 : goal.returns-then-self-eq0
returns-then-self-eq0 c = search (stripping, rules)

pub loop-i-init : goal.loop-i-init
loop-i-init c = search (stripping, rules)

pub overflow_add-k : goal.overflow_add-k
overflow_add-k c = search (stripping, rules)

pub returns-then-is_stray : goal.returns-then-is_stray
returns-then-is_stray c = search (stripping, rules)

pub overflow_sub-len : goal.overflow_sub-len
overflow_sub-len c = search (stripping, rules)

pub loop-i-preserved : goal.loop-i-preserved
loop-i-preserved c = search (stripping, rules)

pub returns : goal.returns
returns c = search (stripping, rules)
