-- What the line is, arm by arm. Assumes nothing.
use Rattle.unit.specs.Closers.{judged}
use Rattle.unit.specs.declared.Match.{Match}
use Rattle.std.proofs.Common.{◌∙◌, add-one}
use Rattle.closer.proofs.Lines.{line_told}
use Rattle.closer.proofs.line_at.Goals as goal

pub returns-in-Whole : goal.returns-in-Whole
unfolding judged
returns-in-Whole c =
    line_told _ c.args.src.now c.args.end c.args.n _ Match.Whole _ c.blank_end-i.ensures c.in-Whole.ensures (c.closer_of.ensures ∙ rw c.indentation_of.ensures)

pub returns-in-Undecided : goal.returns-in-Undecided
unfolding judged
returns-in-Undecided c =
    line_told _ c.args.src.now c.args.end c.args.n _ Match.Undecided _ c.blank_end-i.ensures c.in-Undecided.ensures
    (rw c.if-not-end.true)

-- the text ends in the label's beginning
pub returns-in-Undecided-2 : goal.returns-in-Undecided-2
unfolding judged
returns-in-Undecided-2 c =
    line_told _ c.args.src.now c.args.end c.args.n _ Match.Undecided _ c.blank_end-i.ensures c.in-Undecided.ensures
    (rw (c.if-not-end.false, add-one c.args.n))

-- the label does not stand there
pub returns-in-Other : goal.returns-in-Other
unfolding judged
returns-in-Other c =
    line_told _ c.args.src.now c.args.end c.args.n _ Match.Other _ c.blank_end-i.ensures c.in-Other.ensures
    (rw (add-one c.args.n))
