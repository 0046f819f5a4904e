-- `modes::scripting::scripting` meets its contract: each of these returns is a law of `Frames`. Assumes nothing.
use Rattle.modes.proofs.Frames.{scriptings}
use Rattle.modes.proofs.scripting.scripting.Goals as goal

pub returns-then-src-at : goal.returns-then-src-at
returns-then-src-at c = search scriptings
