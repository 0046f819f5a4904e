-- What is left of the label against what is left of the text. Assumes nothing.
use Rattle.std.proofs.Common.{◌≡◌, drop}
use Rattle.unit.specs.Closers.{matched}
use Rattle.sheet.proofs.closing.match_later.Given as goal

abbrev pub invariant-loop-k : goal.invariant-loop-k
invariant-loop-k l = matched l.label l.rest ≡ matched (drop l.k l.label) (drop l.k l.rest)
