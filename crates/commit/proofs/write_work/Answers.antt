-- Room is asked before any write.
use Rattle.std.proofs.Common.{rules}
use Rattle.commit.proofs.Nexts.{works}
use Rattle.commit.proofs.write_work.Goals as goal

pub returns-in-Err : goal.returns-in-Err
returns-in-Err g c = search (works, rules)

pub put_drafts-requires : goal.put_drafts-requires
put_drafts-requires g c = search (works, rules)

pub returns : goal.returns
returns g c = search (works, rules)
