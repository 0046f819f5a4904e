-- The answer's number, and what crate token wrote.
use Rattle.puretakoi.proofs.Calls.{filed}
use Rattle.puretakoi.proofs.puretakoi_file_to_list.Goals as goal

pub returns : goal.returns
returns c = search filed
