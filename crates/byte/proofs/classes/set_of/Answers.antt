-- `byte::classes::set_of` meets its contract: four rows of the table, a bit for each of their bytes. Assumes nothing.
use Rattle.std.proofs.Common.{arith}
use Rattle.byte.proofs.Table.{table_holds}
use Rattle.byte.proofs.classes.set_of.Goals as goal

pub returns : goal.returns
returns c =
    table_holds c.table-rows.result c.table-rows.ensures c.args.row c.requires c.args.first c.args.last c.bits.ensures
    c.bits-2.ensures c.bits-3.ensures c.bits-4.ensures
    (omega (arith, c.bits.ensures.small, c.bits-2.ensures.small, c.bits-3.ensures.small, c.bits-4.ensures.small))
