-- The positions of records in a list: each step writes its own after those before, and they never fall.
--   positions   the positions of the first so many records
--   Rising      numbers that never fall, from one number up to another
use Rattle.std.specs.Prelude.{ℕ, zero, suc, ◌≤◌, List, [], ◌∷◌, get_or, drop}

unfoldable pub positions : ℕ → List ℕ → List ℕ
positions zero list = []
positions (suc count) list = get_or list 4 0 ∷ positions count (drop 8 list)

abbrev pub Rising : ℕ → List ℕ → ℕ → Type 0
Rising low [] high = low ≤ high
Rising low (p ∷ more) high = (low ≤ p) × Rising p more high
