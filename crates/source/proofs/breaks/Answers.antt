use Rattle.std.proofs.Common.{rules, tests, ◌≡◌}
use Rattle.std.specs.List.{sum_by}
use Rattle.std.proofs.lemmas.Iterator.{YieldsList-from_slice, YieldsList-from_map}
use Rattle.std.proofs.lemmas.Iterator.Consumers.{YieldsList-at, sum_by_from_yields_List, fits_by_from_yields_list}
use Rattle.source.specs.Code.{breaks}
use Rattle.source.proofs.Counts.{blocks_fit, breaks_all, breaks_room}
use Rattle.source.proofs.breaks.Goals.{After-from}
use Rattle.source.proofs.breaks.Goals as goal

pub sum-whole-requires-clause-fits : goal.sum-whole-requires-clause-fits
sum-whole-requires-clause-fits c =
    fits_by_from_yields_list breaks c.as_chunks.result.0.now c.map.result 4294967296
    (YieldsList-from_map _ breaks (YieldsList-at c.map.ensures.source (YieldsList-from_slice _ c.iter.ensures.rest)) c.map.ensures.closure (λ x r q k. search (rules, tests)))
    (blocks_fit c.args.part.now c.as_chunks.result.0.now c.as_chunks.ensures.front c.requires)

whole : (c : After-from) → c.sum-whole.result ≡ sum_by breaks c.as_chunks.result.0.now
whole c =
    sum_by_from_yields_List breaks c.as_chunks.result.0.now c.map.result c.sum-whole.result c.sum-whole.ensures.ran
    (YieldsList-from_map _ breaks (YieldsList-at c.map.ensures.source (YieldsList-from_slice _ c.iter.ensures.rest)) c.map.ensures.closure (λ x r q k. search (rules, tests)))

pub overflow_add-result : goal.overflow_add-result
overflow_add-result c =
    record { fits = breaks_room c.args.part.now c.as_chunks.result.0.now c.as_chunks.ensures.front c.as_chunks.result.1.now c.sum-whole.result c.from.result c.as_chunks.ensures.back (whole c) (cc) c.requires }

pub returns : goal.returns
returns c =
    breaks_all c.args.part.now c.as_chunks.result.0.now c.as_chunks.ensures.front c.as_chunks.result.1.now c.sum-whole.result c.from.result c.as_chunks.ensures.back (whole c) (cc)
