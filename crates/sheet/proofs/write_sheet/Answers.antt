-- Each goal is one law of `Putting`. Assumes nothing.
use Rattle.std.proofs.Common.{rules}
use Rattle.sheet.proofs.Writes.{putting}
use Rattle.sheet.proofs.write_sheet.Goals as goal

pub loop-j-init : goal.loop-j-init
loop-j-init c = search (putting, rules)

pub line_end-next-requires : goal.line_end-next-requires
line_end-next-requires c = search (putting, rules)

pub measured_offset-requires-clause-kept : goal.measured_offset-requires-clause-kept
measured_offset-requires-clause-kept c = search (putting, rules)

pub overflow_add-k : goal.overflow_add-k
overflow_add-k c = search (putting, rules)

pub overflow_sub-next : goal.overflow_sub-next
overflow_sub-next c = search (putting, rules)

pub overflow_add-k-in-loop-j : goal.overflow_add-k-in-loop-j
overflow_add-k-in-loop-j c = search (putting, rules)

pub slice_bounds-put_value-end : goal.slice_bounds-put_value-end
slice_bounds-put_value-end c = search (putting, rules)

pub loop-j-preserved : goal.loop-j-preserved
loop-j-preserved c = search (putting, rules)

pub returns : goal.returns
returns c = search (putting, rules)
