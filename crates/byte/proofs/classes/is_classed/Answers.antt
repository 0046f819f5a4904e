-- `byte::classes::is_classed` meets its contract: the bit of the byte in its quarter. Assumes nothing.
use Rattle.std.proofs.Common.{arith}
use Rattle.byte.proofs.Table.{classed}
use Rattle.byte.proofs.classes.is_classed.Goals as goal
use Rattle.byte.proofs.classes.is_classed.Goals.{in-0, in-1, in-2, in_default}

pub returns : goal.returns
returns c =
    let first = c.args.first in
    let last = c.args.last in
    let b = c.args.b in
    elim c.match-b-div64.branch [
      | in-0 w ↦ classed first last b 0 _ (omega arith) (rw (w.set-is) w.set_of-set.ensures)
      | in-1 w ↦ classed first last b 4 _ (omega arith) (rw (w.set-is) w.set_of-set-in-1.ensures)
      | in-2 w ↦ classed first last b 8 _ (omega arith) (rw (w.set-is) w.set_of-set-in-2.ensures)
      | in_default w ↦ classed first last b 12 _ (omega arith) (rw (w.set-is) w.set_of-set-in_default.ensures)
    ]
