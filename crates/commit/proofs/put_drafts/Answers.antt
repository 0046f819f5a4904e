-- None, one and two drafts are each a law of `Records`.
use Rattle.std.proofs.Common.{rules}
use Rattle.commit.proofs.Records.{putting}
use Rattle.commit.proofs.put_drafts.Goals as goal

pub put_draft-requires : goal.put_draft-requires
put_draft-requires c = search (putting, rules)

pub put_draft-next-requires : goal.put_draft-next-requires
put_draft-next-requires c = search (putting, rules)

pub put_draft-requires-in-Two : goal.put_draft-requires-in-Two
put_draft-requires-in-Two c = search (putting, rules)

pub returns-in-One : goal.returns-in-One
returns-in-One c = search (putting, rules)

pub returns-in-Two : goal.returns-in-Two
returns-in-Two c = search (putting, rules)
