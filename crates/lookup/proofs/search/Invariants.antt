-- The loop keeps `Searching`: what is left of the search finds what the whole one does.
use Rattle.std.proofs.Common.{◌-◌}
use Rattle.lookup.specs.Lookups.{position_in}
use Rattle.lookup.proofs.Lookups.{Searching}
use Rattle.lookup.proofs.search.Given as goal

abbrev pub invariant-loop-low : goal.invariant-loop-low
invariant-loop-low l = Searching (position_in l.list) l.at l.count l.low l.high l.looks

abbrev pub decreases-loop-low : goal.decreases-loop-low
decreases-loop-low l = l.high - l.low
