-- Each goal is one law of the block found. Assumes nothing.
use Rattle.std.proofs.Common.{rules}
use Rattle.sheet.proofs.Scans.{scans}
use Rattle.sheet.proofs.scan_sheet.Goals as goal

pub slice_bounds-closed_sheet-count : goal.slice_bounds-closed_sheet-count
slice_bounds-closed_sheet-count c = search (scans, rules)

pub slice_bounds-closed_sheet-length : goal.slice_bounds-closed_sheet-length
slice_bounds-closed_sheet-length c = search (scans, rules)

pub closed_sheet-requires : goal.closed_sheet-requires
closed_sheet-requires c = search (scans, rules)

pub returns-in-Closed : goal.returns-in-Closed
returns-in-Closed c = search (scans, rules)

pub returns-in-Missing : goal.returns-in-Missing
returns-in-Missing c = search (scans, rules)

pub returns-in-Open : goal.returns-in-Open
returns-in-Open c = search (scans, rules)
