-- The gate is asked once, and then the walk goes on if a call is wanted.
use Rattle.std.proofs.Common.{rules}
use Rattle.walk.proofs.Walks.{walks}
use Rattle.walk.proofs.turns.Goals as goal

pub returns-in-Err : goal.returns-in-Err
returns-in-Err c = search (walks, rules)

pub returns-then-most-eq0 : goal.returns-then-most-eq0
returns-then-most-eq0 c = search (walks, rules)
