-- The scan is measured, and the part that it fills holds the value.
use Rattle.std.proofs.Common.{rules}
use Rattle.drafts.proofs.Texts.{texts}
use Rattle.drafts.proofs.text.Goals as goal

pub read_plan-requires : goal.read_plan-requires
read_plan-requires c = search (texts, rules)

pub returns : goal.returns
returns c = search texts
