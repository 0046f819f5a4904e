-- One call is a walk of one.
use Rattle.puretakoi.proofs.Walks.{turned_one}
use Rattle.puretakoi.proofs.puretakoi_read_single.Goals as goal

pub returns : goal.returns
returns c = search turned_one
