-- Each answer of the scan is one clause of the plan.
use Rattle.std.proofs.Common.{rules}
use Rattle.drafts.specs.Code.{text_work}
use Rattle.drafts.proofs.Works.{sheeting}
use Rattle.drafts.proofs.sheet_mode.Goals as goal

pub returns-in-Text : goal.returns-in-Text
unfolding text_work
returns-in-Text c = search (sheeting, rules)

pub returns-in-Refused : goal.returns-in-Refused
unfolding text_work
returns-in-Refused c = search (sheeting, rules)

pub returns-in-Wait : goal.returns-in-Wait
unfolding text_work
returns-in-Wait c = search (sheeting, rules)
