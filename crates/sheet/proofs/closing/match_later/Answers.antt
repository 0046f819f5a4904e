-- Another byte, a text that is cut off, or all of the label. Assumes nothing.
use Rattle.std.proofs.Common.{arith}
use Rattle.sheet.proofs.Steps.{later_whole, later_cut, later_other, later_same}
use Rattle.sheet.proofs.closing.match_later.Goals as goal

pub returns-in-Some-2 : goal.returns-in-Some-2
returns-in-Some-2 c =
    let found = c.in-Some.ensures.lookup.3 in
    later_other _ _ _ c.loop-k.invariant c.loop-k-test.true found.0 (rw (found.1 0) at c.if-a-b.false)

pub returns-in-None : goal.returns-in-None
returns-in-None c =
    let none = c.in-None.ensures.lookup in
    later_cut _ _ _ c.loop-k.invariant c.loop-k-test.true (omega (arith, none))

pub loop-k-preserved : goal.loop-k-preserved
loop-k-preserved c =
    let found = c.in-Some.ensures.lookup.3 in
    later_same _ _ _ c.loop-k.invariant c.loop-k-test.true found.0 (rw (found.1 0) at c.if-a-b.true)

pub returns : goal.returns
returns c = later_whole _ _ _ c.loop-k.invariant (omega (arith, c.loop-k-test.false))
