-- `number::value::write_spelled` meets its contract: the loop keeps `Storing`. Assumes nothing.
use Rattle.number.proofs.Writing.{storing}
use Rattle.number.proofs.value.write_spelled.Goals as goal
use Rattle.number.proofs.value.write_spelled.Goals.{then-b-ne95, else-b-ne95}

pub loop-b-init : goal.loop-b-init
loop-b-init c = search storing

pub loop-b-preserved : goal.loop-b-preserved
loop-b-preserved c = elim c.if-b-ne95.branch [ then-b-ne95 w ↦ search storing | else-b-ne95 w ↦ search storing ]
