-- `comment::comment` meets its contract: a comment with its end is a law of `Comments`. Assumes nothing.
use Rattle.std.proofs.Common.{rules}
use Rattle.comment.proofs.Comments.{commenting}
use Rattle.comment.proofs.comment.Goals as goal

pub returns-in-At : goal.returns-in-At
returns-in-At c = search (commenting, rules)
