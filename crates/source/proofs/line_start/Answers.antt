use Rattle.std.proofs.Common.{rules, tests, take, refl}
use Rattle.std.proofs.lemmas.Iterator.Adapters.{YieldsList-from_rev_slice}
use Rattle.std.proofs.lemmas.Iterator.Search.{position_from_yields_List}
use Rattle.source.proofs.Places.{is_break, line_start_found}
use Rattle.source.proofs.line_start.Goals as goal

pub returns : goal.returns
returns c =
    let found = position_from_yields_List is_break _ _ c.position-passed.result c.position-passed.ensures.ran (YieldsList-from_rev_slice (take c.last_block-end.result c.args.part.now) (cc)) (λ x b q k. search (rules, tests)) in
    line_start_found c.args.part.now _ c.last_block-end.result c.unwrap_or.result c.position-passed.result c.last_block-end.ensures refl found c.unwrap_or.ensures
