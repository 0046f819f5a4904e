use Rattle.byte.proofs.Laid.{laid_rest}
use Rattle.token.proofs.put_value.Goals as goal

-- what is copied to the free rest is written from the mark on
pub returns : goal.returns
returns c = laid_rest _ _ _ _ c.requires c.copy.ensures
