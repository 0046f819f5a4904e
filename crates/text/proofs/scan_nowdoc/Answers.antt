-- The label is looked for, or the text is read unit by unit. Assumes nothing.
use Rattle.std.proofs.Common.{◌∙◌, sym}
use Rattle.text.proofs.Gathers.{scans_read, scans_label, searched_facts}
use Rattle.text.proofs.scan_nowdoc.Goals as goal

pub scan_label-requires : goal.scan_label-requires
scan_label-requires c =
    (c.requires.0, c.requires.1, searched_facts c.args.label.now c.requires.2 (sym c.is_searched.ensures ∙ c.if-is_searched.true))

pub returns-then-is_searched : goal.returns-then-is_searched
returns-then-is_searched c =
    scans_label _ _ _ _ _ _ _ (sym c.is_searched.ensures ∙ c.if-is_searched.true) c.scan_label.ensures

pub returns : goal.returns
returns c =
    scans_read _ _ _ _ _ _ _ _ (sym c.is_searched.ensures ∙ c.if-is_searched.false) c.read_text.ensures
