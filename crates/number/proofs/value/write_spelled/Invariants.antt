-- `number::value::write_spelled` meets its contract: the loop keeps `Storing`. Assumes nothing.
use Rattle.number.proofs.Writing.{Storing}
use Rattle.number.proofs.value.write_spelled.Given as goal

abbrev pub invariant-loop-b : goal.invariant-loop-b
invariant-loop-b l = Storing l.base l.part l.initial.dst l.dst l.b-index l.len
