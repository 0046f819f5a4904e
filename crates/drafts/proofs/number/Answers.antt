-- `drafts::number` meets its contract: a number is found. Assumes nothing.
use Rattle.drafts.proofs.Works.{numbering}
use Rattle.drafts.proofs.number.Goals as goal

pub returns : goal.returns
returns c = search numbering
