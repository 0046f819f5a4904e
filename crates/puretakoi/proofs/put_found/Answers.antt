-- The three numbers of none, or of a record.
use Rattle.puretakoi.proofs.Finds.{found_none, found_some}
use Rattle.puretakoi.proofs.put_found.Goals as goal
use Rattle.puretakoi.proofs.put_found.Goals.{in-None, in-Some}

pub returns : goal.returns
returns c =
    elim c.match-found.branch [
      | in-None w ↦ found_none _ _ _ _ _ c.copy_from_slice.ensures.after w.in-None.is w.numbers-is
      | in-Some w ↦ found_some _ _ _ _ _ c.copy_from_slice.ensures.after _ w.in-Some.is w.numbers-is
    ]
