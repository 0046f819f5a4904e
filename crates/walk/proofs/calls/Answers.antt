-- What the numbers are read as after the walk is its session.
use Rattle.walk.proofs.Values.{walk_value}
use Rattle.walk.proofs.calls.Goals as goal

pub returns : goal.returns
returns c = search (walk_value, c.well_formed.1.1.1.1.0)
