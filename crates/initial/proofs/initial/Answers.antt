-- `initial::initial` meets its contract: each arm of the match is one law of `Initials`. Assumes nothing.
use Rattle.initial.proofs.Initials.{initials}
use Rattle.initial.proofs.initial.Goals as goal

pub returns-in-At : goal.returns-in-At
returns-in-At c = search initials

pub returns-in-Over : goal.returns-in-Over
returns-in-Over c = search initials
