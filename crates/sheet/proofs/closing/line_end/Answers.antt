-- After its break, or at the end. Assumes nothing.
use Rattle.std.proofs.Common.{rules}
use Rattle.sheet.proofs.Steps.{line_ends, line_end_empty}
use Rattle.sheet.proofs.closing.line_end.Goals as goal

pub returns-then-n-src : goal.returns-then-n-src
returns-then-n-src c = search (line_ends, rules)

pub returns-else-n-src : goal.returns-else-n-src
returns-else-n-src c = search (line_ends, rules)

pub returns-then-src-at-eq10 : goal.returns-then-src-at-eq10
returns-then-src-at-eq10 c = line_end_empty _ _ c.requires c.if-src-at-eq10.true
