-- No LF stands in the blocks before. Assumes nothing.
use Rattle.std.proofs.Common.{◌+◌, ◌*◌}
use Rattle.byte.specs.Bytes.{is_no_break}
use Rattle.source.specs.Code.{Passing}
use Rattle.source.proofs.break_end.Given as goal

abbrev pub invariant-loop-k : goal.invariant-loop-k
invariant-loop-k l = Passing is_no_break l.src l.at (l.at + l.k * 8)
