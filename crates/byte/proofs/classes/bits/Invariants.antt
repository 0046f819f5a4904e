use Rattle.std.proofs.Common.{◌≡◌, ◌<◌, take}
use Prim.Native.Nat.{◌^◌}
use Rattle.byte.specs.Code.{is_within, binary}
use Rattle.byte.proofs.classes.bits.Given as goal

abbrev pub invariant-loop-i : goal.invariant-loop-i
invariant-loop-i l = record {
  number : l.set ≡ binary (is_within l.first l.last) (take l.i l.row);
  small : l.set < 2 ^ l.i;
}
