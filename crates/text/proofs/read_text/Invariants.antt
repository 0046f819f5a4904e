-- Each turn passes a run and the unit after it, and the part has their bytes. Assumes nothing.
use Rattle.std.proofs.Common.{length, ◌-◌}
use Rattle.text.proofs.Gathers.{Gathering}
use Rattle.text.proofs.read_text.Given as goal

abbrev pub invariant-loop-i : goal.invariant-loop-i
invariant-loop-i l = Gathering l.m l.label l.end l.src l.at l.fn.dst l.dst l.i l.len l.broken

abbrev pub decreases-loop-i : goal.decreases-loop-i
decreases-loop-i l = length l.src - l.i
