-- `comment::slash` meets its contract: a `/` at the end of a part is a law of `Comments`. Assumes nothing.
use Prim.Native.Nat.{◌+◌, ◌≤◌}
use lib.ListN.{length}
use Rattle.comment.proofs.Comments.{slashes}
use Rattle.comment.proofs.slash.Goals as goal

pub returns-in-None : goal.returns-in-None
returns-in-None c =
    let past : length c.args.src.now ≤ c.args.at + 1 = c.in-None.ensures.lookup.3 in
    search slashes
