use Rattle.std.proofs.Common.{rules, Result, Ok, Err, ◌≡◌, ap}
use Rattle.std.specs.Result.{IsErr, IsErrAnd}
use Rattle.byte.specs.declared.Refusal.{Refusal}
use Rattle.source.specs.Cursor.{origin}
use Rattle.lookup.specs.declared.Looked.{Looked}
use Rattle.lookup.specs.declared.Refused.{Refused}
use Rattle.lookup.proofs.Lookups.{find_refused}
use Rattle.lookup.proofs.find.Goals as goal

-- what `?` makes of a refusal
at_origin : (r : Result Looked Refused) (refusal : Refusal)
    → IsErr r × IsErrAnd r (λ refused. refused ≡ record { refusal = refusal; span = origin })
    → r ≡ Err (record { refusal = refusal; span = origin })
at_origin (Ok looked) refusal h = absurd h.1
at_origin (Err refused) refusal h = ap Err h.1

pub returns-in_err-find_refusal : goal.returns-in_err-find_refusal
returns-in_err-find_refusal c =
    find_refused _ _ _ _ c.find_refusal.ensures _ _ c.in_err-find_refusal.was (at_origin _ _ c.from_residual.ensures)
