use Rattle.std.proofs.Common.{rules, tests}
use Rattle.std.proofs.lemmas.Iterator.Adapters.{YieldsList-from_rev_slice}
use Rattle.std.proofs.lemmas.Iterator.Search.{position_from_yields_List}
use Rattle.byte.specs.Bytes.{is_no_break}
use Rattle.source.proofs.Places.{fails, last_block_found}
use Rattle.source.proofs.last_block.Goals as goal

pub returns : goal.returns
unfolding is_no_break
returns c =
    let found = position_from_yields_List (fails is_no_break) _ _ c.position-passed.result c.position-passed.ensures.ran (YieldsList-from_rev_slice c.as_rchunks.result.1.now (cc)) (λ x b q k. search (rules, tests)) in
    last_block_found c.args.part.now _ c.unwrap_or.result c.position-passed.result c.as_rchunks.ensures.back found c.unwrap_or.ensures
