-- `escape::digit_of` meets its contract: `to_digit` tells the digits of a base. Assumes nothing.
use Rattle.escape.proofs.Digits.{digit_told}
use Rattle.std.proofs.Common.{rules}
use Rattle.escape.proofs.digit_of.Goals as goal

pub returns : goal.returns
returns c = search (digit_told, rules)
