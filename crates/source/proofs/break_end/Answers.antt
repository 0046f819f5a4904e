-- The run ends in the first block that has an LF, or in the bytes after the blocks. Assumes nothing.
use Rattle.std.proofs.Common.{◌≡◌, ℕ, ◌+◌, ◌-◌, ◌*◌, take, drop, refl, sym, ◌∙◌, arith}
use borrow.Author.Tests.{not-true}
use Rattle.byte.specs.Bytes.{is_no_break}
use Rattle.source.proofs.Places.{block_at}
use Rattle.source.proofs.Blocks.{passing_block, run_end_block}
use Rattle.source.proofs.break_end.Goals as goal

pub returns-then-has : goal.returns-then-has
unfolding is_no_break
returns-then-has c =
    let block = block_at c.args.src.now _ c.as_chunks.result.0.now c.args.at c.loop-k.k refl c.as_chunks.ensures.front c.as_chunks.ensures.front_len c.loop-k-test.true in
    let i : ℕ = c.args.at + c.loop-k.k * 8 in
    let eight : i + 8 - i ≡ 8 = omega arith in
    run_end_block is_no_break _ (take (i + 8 - i) (drop i c.args.src.now)) _ i 8 c.end_of.result c.loop-k.invariant
    (rw block.0 at (not-true _ (sym c.has.ensures ∙ c.if-has.true))) (rw eight refl) block.1 (c.end_of.ensures is_no_break (λ b r e. e))

pub loop-k-preserved : goal.loop-k-preserved
unfolding is_no_break
loop-k-preserved c =
    let block = block_at c.args.src.now _ c.as_chunks.result.0.now c.args.at c.loop-k.k refl c.as_chunks.ensures.front c.as_chunks.ensures.front_len c.loop-k-test.true in
    let next : c.args.at + (c.loop-k.k + 1) * 8 ≡ c.args.at + c.loop-k.k * 8 + 8 = omega arith in
    rw next (passing_block is_no_break _ _ (c.args.at + c.loop-k.k * 8) c.loop-k.invariant 8 c.has.result block.1 (rw block.0 at c.has.ensures) c.if-has.false)
