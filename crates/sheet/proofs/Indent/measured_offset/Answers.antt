-- A row with two bytes more than the indentation is no break alone. Assumes nothing.
use Rattle.std.proofs.Common.{arith}
use Rattle.sheet.proofs.Steps.{offset_full}
use Rattle.sheet.proofs.Indent.measured_offset.Goals as goal

pub returns-then-self-next : goal.returns-then-self-next
returns-then-self-next c =
    offset_full c.args.self c.args.body.now c.args.at c.args.next c.requires.line c.requires.kept
    (omega (arith, c.if-self-next.true))
