use Rattle.std.proofs.Common.{◌∙◌}
use Rattle.source.proofs.Places.{any_is}
use Rattle.source.proofs.has.Goals as goal

pub returns : goal.returns
returns c = c.contains.ensures.value ∙ any_is c.args.c c.args.part.now
