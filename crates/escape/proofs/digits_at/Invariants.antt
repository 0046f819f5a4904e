-- `escape::digits_at` meets its contract: the loop keeps `Reading`. Assumes nothing.
use Rattle.escape.proofs.Escapes.{Reading}
use Rattle.escape.proofs.digits_at.Given as goal

abbrev pub invariant-loop-n : goal.invariant-loop-n
invariant-loop-n g l = Reading l.octals l.end g.row.BASE g.row.MORE l.src l.at l.first l.value l.n
