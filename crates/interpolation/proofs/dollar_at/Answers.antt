-- By whether a byte stands after the sign. Assumes nothing.
use Rattle.std.proofs.Common.{◌+◌, arith}
use Rattle.std.proofs.lemmas.Grind.{common_steps}
use Rattle.unit.specs.Interpolations.{dollar}
use Rattle.interpolation.proofs.Looks.{by_byte}
use Rattle.interpolation.proofs.dollar_at.Goals as goal

pub returns : goal.returns
unfolding dollar
returns c =
    by_byte (dollar c.args.end c.args.n) c.args.src.now (c.args.n + 1) _ (λ h. c.sign_at.ensures.last h)
    (λ h. grind (arith, common_steps, c.sign_at.ensures.next h))
