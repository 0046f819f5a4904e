-- `escape::code_point_at` meets its contract: the loop keeps `Pointing`. Assumes nothing.
use Rattle.std.specs.Prelude.{is_some, unwrap_or}
use Rattle.escape.proofs.Escapes.{Pointing}
use Rattle.escape.proofs.code_point_at.Given as goal

abbrev pub invariant-loop-n : goal.invariant-loop-n
invariant-loop-n l = Pointing l.src l.at l.end (is_some l.value) (unwrap_or l.value 0) l.n
