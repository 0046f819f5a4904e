-- In the other modes no label is looked for. Assumes nothing.
use Rattle.text.proofs.Gathers.{scans_read, unsearched}
use Rattle.text.proofs.scan_text.Goals as goal

pub returns-in_default : goal.returns-in_default
returns-in_default c =
    scans_read _ _ _ _ _ _ _ _ (unsearched c.args.m c.args.label.now c.in_default.not-Nowdoc) c.read_text.ensures
