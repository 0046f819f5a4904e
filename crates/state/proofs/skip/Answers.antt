use Rattle.std.proofs.Common.{rules}
use Rattle.state.proofs.Calls.{skipping}
use Rattle.state.proofs.skip.Goals as goal

pub overflow_sub-src : goal.overflow_sub-src
overflow_sub-src c = search (skipping, rules)

pub slice_bounds-past-end : goal.slice_bounds-past-end
slice_bounds-past-end c = search (skipping, rules)

pub past-p-requires : goal.past-p-requires
past-p-requires c = search (skipping, rules)

pub returns : goal.returns
returns c = search skipping
