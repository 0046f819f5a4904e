-- The answer's number, and what crate token wrote.
use Rattle.puretakoi.proofs.Calls.{filed}
use Rattle.puretakoi.proofs.puretakoi_list_to_file.Goals as goal

pub returns : goal.returns
returns c = search filed
