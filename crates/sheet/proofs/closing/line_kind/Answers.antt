-- What the label makes of a line, arm by arm. Assumes nothing.
use Rattle.std.proofs.Common.{rules}
use Rattle.sheet.proofs.Steps.{kinds}
use Rattle.sheet.proofs.closing.line_kind.Goals as goal

pub returns-in-Whole : goal.returns-in-Whole
returns-in-Whole c = search (kinds, rules)

pub returns-in-Undecided : goal.returns-in-Undecided
returns-in-Undecided c = search (kinds, rules)

pub returns-in-Undecided-2 : goal.returns-in-Undecided-2
returns-in-Undecided-2 c = search (kinds, rules)

pub returns-in-Other : goal.returns-in-Other
returns-in-Other c = search (kinds, rules)
