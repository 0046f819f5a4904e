-- The label, and what stands after it. Assumes nothing.
use Rattle.std.proofs.Common.{rules, arith, refl, length, ◌+◌}
use Rattle.closer.proofs.Lines.{rest_from}
use Rattle.sheet.proofs.Steps.{labels, label_inside, label_whole}
use Rattle.sheet.proofs.closing.closing_label.Goals as goal

pub slice_bounds-behind_label-count : goal.slice_bounds-behind_label-count
slice_bounds-behind_label-count c = omega (arith, label_inside _ _ _ c.args.end _ c.in-Whole.ensures c.requires.0 refl)

pub slice_bounds-behind_label-start : goal.slice_bounds-behind_label-start
slice_bounds-behind_label-start c = omega (arith, label_inside _ _ _ c.args.end _ c.in-Whole.ensures c.requires.0 refl)

pub returns-in-Whole : goal.returns-in-Whole
returns-in-Whole c =
    label_whole _ _ _ _ _ c.in-Whole.ensures c.behind_label.result refl
    (rw (rest_from (c.args.at + length c.args.label.now) c.args.line.now) at c.behind_label.ensures)

pub returns-in-Other : goal.returns-in-Other
returns-in-Other c = search (labels, rules)

pub returns-in-Undecided : goal.returns-in-Undecided
returns-in-Undecided c = search (labels, rules)
