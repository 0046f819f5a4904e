-- The two bytes that the closure asks for are the blanks. Assumes nothing.
use Rattle.std.proofs.Common.{rules}
use Rattle.byte.specs.Bytes.{is_blank}
use Rattle.closer.proofs.blank_end.Goals as goal

pub returns : goal.returns
unfolding is_blank
returns c = c.end_of.ensures is_blank (λ b r e. search rules)
