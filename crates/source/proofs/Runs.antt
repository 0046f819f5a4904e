-- A run of bytes of one class: where passing it begins, and going on with it. Assumes nothing.
use mathlib.Core.Path.{refl, sym, ◌∙◌}
use mathlib.Core.Bool.{Bool}
use mathlib.Core.List.{List}
use Prim.Native.Nat.{ℕ, ◌≤◌}
use lib.ListN.{length}
use Rattle.source.specs.Code.{RunEnd, Passing}

-- none of the run is passed yet
pub passing_first : (test : ℕ → Bool) (src : List ℕ) (at : ℕ) → at ≤ length src → Passing test src at at
passing_first test src at h = record { inside = h; same = refl }

-- a run that is gone on with from a place on the way ends where it does
pub passing_run : (test : ℕ → Bool) (src : List ℕ) (at i r : ℕ) → Passing test src at i → RunEnd test src i r → RunEnd test src at r
passing_run test src at i r p e = record { place = e.place ∙ sym p.same; inside = e.inside }
