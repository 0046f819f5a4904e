-- `modes::scripting::point` meets its contract: each of these returns is a law of `Frames`. Assumes nothing.
use Rattle.modes.proofs.Frames.{points}
use Rattle.modes.proofs.scripting.point.Goals as goal

pub returns-then-src-i : goal.returns-then-src-i
returns-then-src-i c = search points
