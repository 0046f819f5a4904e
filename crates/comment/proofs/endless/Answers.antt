-- `comment::endless` meets its contract: a comment of one line is a law of `Comments`. Assumes nothing.
use Rattle.std.proofs.Common.{rules}
use Rattle.comment.proofs.Comments.{endlesses}
use Rattle.comment.proofs.endless.Goals as goal

pub returns-in-SingleLine : goal.returns-in-SingleLine
returns-in-SingleLine c = search (endlesses, rules)
