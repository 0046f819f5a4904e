-- Each goal is one law of `Lining`. Assumes nothing.
use Rattle.std.proofs.Common.{rules, refl, ap, ◌∙◌, not}
use Rattle.text.proofs.Labels.{looking, looking_stop, looking_on}
use Rattle.text.proofs.scan_label.Goals as goal
use Rattle.text.proofs.scan_label.Goals.{then-src-k-eq10+else-is_none, else-src-k-eq10}

pub loop-i-init : goal.loop-i-init
loop-i-init c = search (looking, rules)

pub returns-then-src-n : goal.returns-then-src-n
returns-then-src-n c = search (looking, rules)

pub before_blanks-k-requires : goal.before_blanks-k-requires
before_blanks-k-requires c = search (looking, rules)

pub returns-then-is_none : goal.returns-then-is_none
returns-then-is_none c =
    looking_stop _ _ _ _ _ c.loop-i.invariant _ c.break_end-lf.ensures c.requires.2 _ refl _ c.stop_end-n.ensures _
    c.before_blanks-k.ensures c.if-src-k-eq10.true _ c.line_at-u.ensures _ _ c.piece_of.ensures
    (c.is_none.ensures ∙ ap not c.if-is_none.true) c.ended_as.ensures

pub loop-i-preserved : goal.loop-i-preserved
loop-i-preserved c =
    elim c.if-src-k-eq10.branch [
      | then-src-k-eq10+else-is_none w ↦
          looking_on _ _ _ _ _ c.loop-i.invariant _ c.break_end-lf.ensures c.requires.2 _ refl _ c.stop_end-n.ensures _
          c.before_blanks-k.ensures w.if-src-k-eq10.true _ w.line_at-u.ensures _ w.piece_of.ensures
          (w.is_none.ensures ∙ ap not w.if-is_none.false)
      | else-src-k-eq10 w ↦ search (looking, rules)
    ]

pub returns : goal.returns
returns c = search (looking, rules)
