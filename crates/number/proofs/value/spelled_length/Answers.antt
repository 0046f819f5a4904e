-- `number::value::spelled_length` meets its contract: the loop keeps `Counting`. Assumes nothing.
use Rattle.number.proofs.Writing.{counting}
use Rattle.number.proofs.value.spelled_length.Goals as goal
use Rattle.number.proofs.value.spelled_length.Goals.{then-b-ne95, else-b-ne95}

pub loop-b-init : goal.loop-b-init
loop-b-init c = search counting

pub loop-b-preserved : goal.loop-b-preserved
loop-b-preserved c = elim c.if-b-ne95.branch [ then-b-ne95 w ↦ search counting | else-b-ne95 w ↦ search counting ]
