use Rattle.std.proofs.Common.{rules, tests, ◌∙◌}
use Rattle.std.proofs.lemmas.Iterator.{YieldsList-from_slice, YieldsList-from_map}
use Rattle.std.proofs.lemmas.Iterator.Consumers.{YieldsList-at, sum_by_from_yields_List, fits_by_from_yields_list}
use Rattle.source.proofs.Counts.{one_break, breaks_sum, breaks_fit}
use Rattle.source.proofs.breaks_in.Goals as goal

pub sum-requires-clause-fits : goal.sum-requires-clause-fits
sum-requires-clause-fits c =
    fits_by_from_yields_list one_break c.args.part.now c.map.result 256
    (YieldsList-from_map _ one_break (YieldsList-at c.map.ensures.source (YieldsList-from_slice _ c.iter.ensures.rest)) c.map.ensures.closure (λ x r q k. search (rules, tests)))
    (breaks_fit c.args.part.now 256 c.requires)

pub returns : goal.returns
returns c =
    sum_by_from_yields_List one_break c.args.part.now c.map.result c.sum.result c.sum.ensures.ran
    (YieldsList-from_map _ one_break (YieldsList-at c.map.ensures.source (YieldsList-from_slice _ c.iter.ensures.rest)) c.map.ensures.closure (λ x r q k. search (rules, tests)))
    ∙ breaks_sum c.args.part.now
