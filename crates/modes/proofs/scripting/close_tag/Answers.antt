-- `modes::scripting::close_tag` meets its contract: each of these returns is a law of `Frames`. Assumes nothing.
use Rattle.modes.proofs.Frames.{close_tags}
use Rattle.modes.proofs.scripting.close_tag.Goals as goal

pub returns-then-src-i : goal.returns-then-src-i
returns-then-src-i c = search close_tags
