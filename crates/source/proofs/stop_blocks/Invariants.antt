use Rattle.std.proofs.Common.{◌+◌, ◌*◌}
use Rattle.byte.specs.Bytes.{is_none_of}
use Rattle.source.specs.Code.{Passing}
use Rattle.source.proofs.stop_blocks.Given as goal

abbrev pub invariant-loop-k : goal.invariant-loop-k
invariant-loop-k l = Passing (is_none_of l.w l.x l.y l.z) l.src l.at (l.at + l.k * 8)
