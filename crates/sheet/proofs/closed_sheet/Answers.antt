-- Each goal is one law of the closing line. Assumes nothing.
use Rattle.std.proofs.Common.{rules}
use Rattle.sheet.proofs.Scans.{sheets, sheet_room}
use Rattle.sheet.proofs.closed_sheet.Goals as goal

pub returns-in_default : goal.returns-in_default
returns-in_default c = search (sheets, rules)

pub overflow_sub-result : goal.overflow_sub-result
overflow_sub-result c =
    sheet_room _ _ _ _ _ c.requires.0 c.requires.1 _ c.in-Some.ensures _ c.strip_len.ensures _ _ c.in-Ok.is c.break_len.ensures

pub returns-in-Ok : goal.returns-in-Ok
returns-in-Ok c = search (sheets, rules)

pub returns-in-Err : goal.returns-in-Err
returns-in-Err c = search (sheets, rules)
