-- `source::stop_blocks` passes each block up to its first mark. Assumes nothing.
use Rattle.std.proofs.Common.{◌≡◌, refl, arith, ◌+◌, ◌*◌}
use Rattle.source.proofs.Places.{block_at}
use Rattle.source.proofs.Marks.{passing_marks, passing_unmarked}
use Rattle.source.proofs.stop_blocks.Goals as goal

pub returns-then-m-ne0 : goal.returns-then-m-ne0
returns-then-m-ne0 c =
    let block = block_at c.args.src.now _ c.as_chunks.result.0.now c.args.at c.loop-k.k refl c.as_chunks.ensures.front c.as_chunks.ensures.front_len c.loop-k-test.true in
    passing_marks _ _ _ (c.args.at + c.loop-k.k * 8) c.stop_marks-m.result c.loop-k.invariant block.1 (rw block.0 at c.stop_marks-m.ensures) c.before-then-m-ne0.result c.before-then-m-ne0.ensures

pub loop-k-preserved : goal.loop-k-preserved
loop-k-preserved c =
    let block = block_at c.args.src.now _ c.as_chunks.result.0.now c.args.at c.loop-k.k refl c.as_chunks.ensures.front c.as_chunks.ensures.front_len c.loop-k-test.true in
    let next : c.args.at + (c.loop-k.k + 1) * 8 ≡ c.args.at + c.loop-k.k * 8 + 8 = omega arith in
    rw next (passing_unmarked _ _ _ (c.args.at + c.loop-k.k * 8) c.stop_marks-m.result c.loop-k.invariant block.1 (rw block.0 at c.stop_marks-m.ensures) c.if-m-ne0.false)
