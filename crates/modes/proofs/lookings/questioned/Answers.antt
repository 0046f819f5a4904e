-- `modes::lookings::questioned` meets its contract: each of these returns is a law of `Looks`. Assumes nothing.
use Rattle.modes.proofs.Looks.{questions}
use Rattle.modes.proofs.lookings.questioned.Goals as goal

pub returns-then-src-i : goal.returns-then-src-i
returns-then-src-i c = search questions
