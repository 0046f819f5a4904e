use Rattle.std.proofs.Common.{rules, tests, not, refl}
use Rattle.std.proofs.lemmas.Iterator.{YieldsList-from_slice}
use Rattle.std.proofs.lemmas.Iterator.Search.{position_from_yields_List}
use Rattle.source.proofs.Places.{run_found}
use Rattle.source.proofs.end_of.Goals as goal

pub returns : goal.returns
returns g c class h =
    let found = position_from_yields_List (λ b. not (class b)) _ _ c.position-passed.result c.position-passed.ensures.ran (YieldsList-from_slice _ c.iter.ensures.rest) (λ x b q k. search (rules, tests, h)) in
    run_found class c.args.src.now _ c.args.at c.unwrap_or.result c.position-passed.result c.requires.inside refl found c.unwrap_or.ensures
