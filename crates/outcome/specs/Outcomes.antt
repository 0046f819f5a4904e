-- What a step comes to with unlimited tables and script length (document 01, "Step", "Refusal numbers").
--   Piece     a token that is written: kind, detail, the place whose span it bears, and its value
--   Outcome   what is written, the place after, the change of frame, and whether nothing is left to read;
--             or a refusal and the place whose span it bears; or wait
--   values    the value bytes of all pieces, one after another
--   goes      nothing is written
--   ending    nothing is left of the text: this at the announced end, else wait
--   limited   the 64-frame limit: refusal 9, at the cursor n
use Rattle.std.specs.Prelude.{ℕ, Bool, false, List, [], ◌∷◌, ◌++◌, ltb, if◌then◌else◌}
use Rattle.byte.specs.declared.Refusal.{Refusal}
use Rattle.byte.specs.Refusals.{stack_full}
use Rattle.outcome.specs.declared.Change.{Change}

pub record Piece : Type 0 where
  pub kind : ℕ
  pub detail : ℕ
  pub place : ℕ
  pub value : List ℕ

pub data Outcome : Type 0 where
  Told : (pieces : List Piece) (after : ℕ) (change : Change) (finished : Bool) → Outcome
  Refused : (refusal : Refusal) (place : ℕ) → Outcome
  Wait : Outcome

-- a piece without a detail
abbrev pub piece : ℕ → ℕ → List ℕ → Piece
piece kind place value = record { kind = kind; detail = 0; place = place; value = value }

-- a piece that is left out where its value is empty
unfoldable pub unless_empty : ℕ → ℕ → List ℕ → List Piece
unless_empty kind place [] = []
unless_empty kind place (b ∷ rest) = piece kind place (b ∷ rest) ∷ []

unfoldable pub values : List Piece → List ℕ
values [] = []
values (p ∷ more) = p.value ++ values more

abbrev pub goes : ℕ → Change → Outcome
goes after change = Outcome.Told [] after change false

abbrev pub ending : Bool → Outcome → Outcome
ending end o = if end then o else Outcome.Wait

unfoldable pub limited : ℕ → ℕ → Outcome → Outcome
limited depth n (Outcome.Told pieces after (Change.Enter f) finished) =
    if ltb depth 64 then Outcome.Told pieces after (Change.Enter f) finished else Outcome.Refused stack_full n
limited depth n (Outcome.Told pieces after Change.Keep finished) = Outcome.Told pieces after Change.Keep finished
limited depth n (Outcome.Told pieces after (Change.Swap f) finished) = Outcome.Told pieces after (Change.Swap f) finished
limited depth n (Outcome.Told pieces after Change.Leave finished) = Outcome.Told pieces after Change.Leave finished
limited depth n (Outcome.Refused refusal place) = Outcome.Refused refusal place
limited depth n Outcome.Wait = Outcome.Wait
