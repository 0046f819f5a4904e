-- The part has what is left of the lines passed. Assumes nothing.
use Rattle.std.proofs.Common.{length, ◌-◌}
use Rattle.sheet.proofs.Writes.{Putting}
use Rattle.sheet.proofs.write_sheet.Given as goal

abbrev pub invariant-loop-j : goal.invariant-loop-j
invariant-loop-j l = Putting l.ind l.body l.at l.len l.fn.dst l.dst l.i l.j

abbrev pub decreases-loop-j : goal.decreases-loop-j
decreases-loop-j l = length l.body - l.i
