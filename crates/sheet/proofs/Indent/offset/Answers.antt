-- The blanks end at the first byte that is no such blank. Assumes nothing.
use Rattle.std.proofs.Common.{rules, eqb}
use Rattle.sheet.proofs.Steps.{offset_told}
use Rattle.sheet.proofs.Indent.offset.Goals as goal

pub returns : goal.returns
returns c =
    offset_told c.args.self c.args.line.now c.end_of.result
    (rw (← c.min-most.ensures) (c.end_of.ensures (eqb c.args.self.blank) (λ b r e. search rules)))
