-- What is found stands in three numbers, or four; a refusal changes none.
use Rattle.puretakoi.proofs.Finds.{finds}
use Rattle.puretakoi.proofs.puretakoi_find.Goals as goal

pub returns-then-found-ge4 : goal.returns-then-found-ge4
returns-then-found-ge4 c = search finds

pub returns-else-found-ge4 : goal.returns-else-found-ge4
returns-else-found-ge4 c = search finds

pub returns-in-Err : goal.returns-in-Err
returns-in-Err c = search finds
