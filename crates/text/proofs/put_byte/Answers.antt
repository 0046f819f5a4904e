-- The part has the place, or not. Assumes nothing.
use Rattle.text.proofs.Writes.{clipped_past, byte_put}
use Rattle.text.proofs.put_byte.Goals as goal

pub returns-then-at-dst : goal.returns-then-at-dst
returns-then-at-dst c = byte_put c.args.dst.now c.args.at c.args.b c.if-at-dst.true

pub returns-else-at-dst : goal.returns-else-at-dst
returns-else-at-dst c = clipped_past c.args.dst.now c.args.at _ c.if-at-dst.false
