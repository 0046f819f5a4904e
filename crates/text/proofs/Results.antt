-- One result: two results of the reader, or of the scan, that meet one statement are equal, and so is what the part then holds. Assumes
-- nothing.
use Prim.Native.Nat.{ℕ}
use mathlib.Core.Path.{◌≡◌, sym, ◌∙◌}
use mathlib.Core.Bool.{Bool}
use mathlib.Core.List.{List}
use Rattle.unit.specs.declared.Mode.{Mode}
use Rattle.text.specs.declared.Scanned.{Scanned}
use Rattle.text.specs.Code.{Reads, Scans}

module _ (m : Mode) (src label : List ℕ) (at : ℕ) (end : Bool) (dst : List ℕ) (r r' : Scanned) (after after' : List ℕ) where
  pub reads_one : Reads m src label at end dst r after → Reads m src label at end dst r' after' → (r ≡ r') × (after ≡ after')
  reads_one x y = (x.told ∙ sym y.told, x.held ∙ sym y.held)

  pub scans_one : Scans m src label at end dst r after → Scans m src label at end dst r' after' → (r ≡ r') × (after ≡ after')
  scans_one x y = (x.told ∙ sym y.told, x.held ∙ sym y.held)
