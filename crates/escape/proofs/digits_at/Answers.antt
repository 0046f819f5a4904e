-- `escape::digits_at` meets its contract: the loop keeps `Reading`. Assumes nothing.
use Prim.Native.Nat.{◌≤◌, ◌<◌}
use lib.ListN.{get_or}
use Rattle.unit.specs.Digits.{digit_value}
use Rattle.escape.proofs.Escapes.{digit_runs}
use Rattle.escape.proofs.digits_at.Goals as goal

pub returns-then-src-n : goal.returns-then-src-n
returns-then-src-n g c = search digit_runs

pub returns-in_default : goal.returns-in_default
returns-in_default g c =
    let none : g.row.BASE ≤ digit_value (get_or c.args.src.now c.loop-n.n 0) = c.in_default.ensures in
    search (none, digit_runs)

pub loop-n-preserved : goal.loop-n-preserved
loop-n-preserved g c =
    let told = c.in-Some.ensures.0 in
    let below : c.in-Some.digit < g.row.BASE = c.in-Some.ensures.1 in
    search (told, below, c.requires.base.1, digit_runs)

pub returns : goal.returns
returns g c = search digit_runs
