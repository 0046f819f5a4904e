-- Four spaces stand there, and the blanks go on after them. Assumes nothing.
use Rattle.std.proofs.Common.{sym, ◌∙◌}
use Rattle.std.specs.Cmp.Lexicographic.{same_text}
use Rattle.sheet.proofs.Steps.{blanks_past}
use Rattle.sheet.proofs.closing.blank_end.Goals as goal

pub returns-in-Some : goal.returns-in-Some
returns-in-Some c =
    let first = c.in-Some.ensures.cases in
    blanks_past c.args.line.now c.blank_end.result first.enough (sym first.same ∙ same_text _ _ c.if-eq.ensures) c.blank_end.ensures
