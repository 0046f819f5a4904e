-- `number::value::spelled_length`: the bytes that are kept of the first are counted.
use Rattle.number.specs.declared.Base.{Base}
use Rattle.number.proofs.Writing.{Counting}
use Rattle.number.proofs.value.spelled_length.Given as goal

abbrev pub invariant-loop-b : goal.invariant-loop-b
invariant-loop-b l = Counting Base.Decimal l.part l.len l.b-index
