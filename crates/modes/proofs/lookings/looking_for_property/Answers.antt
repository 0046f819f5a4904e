-- `modes::lookings::looking_for_property` meets its contract: each of these returns is a law of `Looks`. Assumes nothing.
use Rattle.std.proofs.Common.{rules}
use Rattle.modes.proofs.Looks.{looking_for_properties}
use Rattle.modes.proofs.lookings.looking_for_property.Goals as goal

pub returns-then-src-at : goal.returns-then-src-at
returns-then-src-at c = search (looking_for_properties, rules)

pub returns-then-not-is_start : goal.returns-then-not-is_start
returns-then-not-is_start c = search (looking_for_properties, rules)

pub returns-in-Some : goal.returns-in-Some
returns-in-Some c = search (looking_for_properties, rules)

pub returns-in-None : goal.returns-in-None
returns-in-None c = search (looking_for_properties, rules)
