-- The span of a place from the cursor on. Assumes nothing.
use Prim.Native.Nat.{ℕ, ◌-◌}
use mathlib.Core.Path.{◌≡◌, sym}
use mathlib.Core.List.{List}
use native.Mathlib.Omega.{arith}
use Rattle.source.specs.Cursor.{passed}
use Rattle.source.specs.declared.Span.{Span}
use Rattle.commit.specs.Records.{span_at}

-- the cursor's own place
pub span_at_here : (src : List ℕ) (p : Span) → span_at src p p.position ≡ p
unfolding passed
span_at_here src p =
    let z : p.position - p.position ≡ 0 = omega arith in
    rw z

pub span_at_stays : (src : List ℕ) (p : Span) (place : ℕ) → place ≡ p.position → p ≡ span_at src p place
span_at_stays src p place e = rw e (sym (span_at_here src p))
