-- All of the indentation comes off, or what is left of the line tells it. Assumes nothing.
use Rattle.std.proofs.Common.{rules}
use Rattle.closer.proofs.Lines.{rest_from}
use Rattle.sheet.proofs.Steps.{strays, stray_over}
use Rattle.sheet.proofs.Indent.is_stray.Goals as goal

pub slice_bounds-is_over-count : goal.slice_bounds-is_over-count
slice_bounds-is_over-count c = search (strays, rules)

pub slice_bounds-is_over-start : goal.slice_bounds-is_over-start
slice_bounds-is_over-start c = search (strays, rules)

pub returns-then-off-self : goal.returns-then-off-self
returns-then-off-self c =
    stray_over _ _ _ c.requires _ c.if-off-self.true (rw (rest_from c.args.off c.args.line.now) at c.is_over.ensures)

pub returns-else-off-self : goal.returns-else-off-self
returns-else-off-self c = search (strays, rules)
