-- What each way to write a value needs is a law of `Values`.
use Rattle.std.proofs.Common.{rules}
use Rattle.commit.proofs.Values.{writing}
use Rattle.commit.proofs.write_value.Goals as goal

pub put_value-requires : goal.put_value-requires
put_value-requires c = search (writing, rules)

pub write_sheet-requires : goal.write_sheet-requires
write_sheet-requires c = search (writing, rules)
