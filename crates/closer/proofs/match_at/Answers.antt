-- As many bytes as the label has are compared with it, or fewer with its beginning. Assumes nothing.
use Rattle.std.proofs.Common.{arith}
use Rattle.closer.proofs.Lines.{rest_from, first_part, matched_whole, matched_cut, matched_other, matched_short}
use Rattle.closer.proofs.match_at.Goals as goal

pub returns-in-Some : goal.returns-in-Some
returns-in-Some c =
    let lookup = c.in-Some.ensures.lookup.0 in
    rw (← rest_from c.args.at c.args.src.now) (matched_whole _ _ (rw (lookup.2, first_part) at c.if-eq.ensures))

pub returns-in-Some-2 : goal.returns-in-Some-2
returns-in-Some-2 c =
    let lookup = c.in-Some.ensures.lookup.0 in
    rw (← rest_from c.args.at c.args.src.now) (matched_other _ _ lookup.1 (rw (lookup.2, first_part) at c.if-eq.ensures))

pub returns-in-None : goal.returns-in-None
returns-in-None c =
    let short = c.in-None.ensures.lookup in
    rw (← rest_from c.args.at c.args.src.now) (matched_cut _ _ (omega (arith, short)) c.if-starts_with.ensures.value)

pub returns-in-None-2 : goal.returns-in-None-2
returns-in-None-2 c =
    let short = c.in-None-2.ensures.lookup in
    rw (← rest_from c.args.at c.args.src.now) (matched_short _ _ (omega (arith, short)) c.if-starts_with.ensures.value)
