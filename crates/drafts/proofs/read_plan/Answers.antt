-- Each answer of the scan is one clause of the plan.
use Rattle.std.proofs.Common.{rules}
use Rattle.drafts.specs.Code.{read_plan}
use Rattle.drafts.proofs.Texts.{read_plans}
use Rattle.drafts.proofs.read_plan.Goals as goal

pub text_draft-part-requires : goal.text_draft-part-requires
text_draft-part-requires c = search (read_plans, rules)

pub text_plan-requires : goal.text_plan-requires
text_plan-requires c = search (read_plans, rules)

pub returns-in-None : goal.returns-in-None
returns-in-None c = search (read_plans, rules)

pub text_draft-value-requires : goal.text_draft-value-requires
text_draft-value-requires c = search (read_plans, rules)

pub returns-in-Some : goal.returns-in-Some
returns-in-Some c = search (read_plans, rules)

pub returns-in-Refused : goal.returns-in-Refused
unfolding read_plan
returns-in-Refused c = search (read_plans, rules)

pub returns-in-Wait : goal.returns-in-Wait
unfolding read_plan
returns-in-Wait c = search (read_plans, rules)
