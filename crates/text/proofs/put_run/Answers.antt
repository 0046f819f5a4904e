-- As many bytes as the part has places, or none. Assumes nothing.
use Rattle.std.proofs.Common.{◌∙◌}
use Rattle.text.proofs.Writes.{clipped_past, run_put}
use Rattle.text.proofs.put_run.Goals as goal

pub returns-then-at-dst : goal.returns-then-at-dst
returns-then-at-dst c = c.put_value.ensures ∙ rw c.min-count.ensures (run_put c.args.dst.now c.args.at c.args.run.now)

pub returns-else-at-dst : goal.returns-else-at-dst
returns-else-at-dst c = clipped_past c.args.dst.now c.args.at c.args.run.now c.if-at-dst.false
