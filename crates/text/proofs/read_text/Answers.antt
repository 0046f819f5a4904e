-- Each goal is one law of `Gathering`. Assumes nothing.
use Rattle.std.proofs.Common.{rules}
use Rattle.text.proofs.Gathers.{gathering, gathering_stop, gathering_less, gathering_on}
use Rattle.text.proofs.read_text.Goals as goal

pub loop-i-init : goal.loop-i-init
loop-i-init c = search (gathering, rules)

pub returns-then-src-n : goal.returns-then-src-n
returns-then-src-n c = search (gathering, rules)

pub returns-in_default : goal.returns-in_default
returns-in_default c =
    gathering_stop c.args.m c.args.label.now c.args.end c.args.src.now c.args.at c.args.dst.now _ _ _ _ c.loop-i.invariant
    _ c.plain_end-n.ensures _ c.put_run.ensures c.if-src-n.false _ c.unit_at-u.ensures _ _ c.in_default.ensures
    c.last_break.ensures c.ended_as.ensures

pub put_unit-requires : goal.put_unit-requires
put_unit-requires c = search (gathering, rules)

pub loop-i-smaller : goal.loop-i-smaller
loop-i-smaller c =
    gathering_less c.args.m c.args.label.now c.args.end c.args.src.now c.args.at c.args.dst.now _ _ _ _ c.loop-i.invariant
    _ c.plain_end-n.ensures _ c.put_run.ensures c.if-src-n.false _ c.unit_at-u.ensures _ c.in-Some.ensures

pub loop-i-preserved : goal.loop-i-preserved
loop-i-preserved c =
    gathering_on c.args.m c.args.label.now c.args.end c.args.src.now c.args.at c.args.dst.now _ _ _ _ c.loop-i.invariant
    _ c.plain_end-n.ensures _ c.put_run.ensures c.if-src-n.false _ c.unit_at-u.ensures _ c.in-Some.ensures
    _ c.put_unit.ensures

pub returns : goal.returns
returns c = search (gathering, rules)
