-- Laws of the cursor: passing a and then b is passing a + b, its position counts the bytes, and its line and column stay near it.
-- Assumes nothing.
use Rattle.std.specs.Prelude.{if◌then◌else◌}
use mathlib.Core.Path.{◌≡◌, refl, ◌∙◌}
use mathlib.Core.Bool.{Bool, true, false}
use mathlib.Core.List.{List, [], ◌∷◌, ◌++◌}
use Prim.Native.Nat.{ℕ, ◌+◌, ◌≤◌}
use native.Mathlib.Omega.{arith}
use lib.Dec.{eqb}
use lib.ListN.{length, take, drop}
use lib.Seq.{take-add, drop-drop}
use borrow.Author.Tests.{eq-eqb, ne_eqb}
use Rattle.source.specs.Cursor.{passed_byte, passed}
use Rattle.source.specs.declared.Span.{Span}

pub passed_append : (p : Span) (xs ys : List ℕ) → passed p (xs ++ ys) ≡ passed (passed p xs) ys
unfolding passed
passed_append p [] ys = refl
passed_append p (b ∷ xs) ys = passed_append (passed_byte p b) xs ys

-- passing a bytes of the source and then b is passing a + b
pub passed_sum : (p : Span) (src : List ℕ) (at a b : ℕ) → passed p (take (a + b) (drop at src)) ≡ passed (passed p (take a (drop at src))) (take b (drop (at + a) src))
passed_sum p src at a b = rw (take-add a b (drop at src), drop-drop a at src) (passed_append p (take a (drop at src)) (take b (drop (at + a) src)))

-- both ways of a byte
module _ (p : Span) (b : ℕ) where
  pub passed_byte_break : b ≡ 10 → record { line = p.line + 1; column = 1; position = p.position + 1 } ≡ passed_byte p b
  unfolding passed_byte
  passed_byte_break h = rw (eq-eqb b 10 h)

  pub passed_byte_other : (b ≡ 10 → ⊥) → record { line = p.line; column = p.column + 1; position = p.position + 1 } ≡ passed_byte p b
  unfolding passed_byte
  passed_byte_other h = rw (ne_eqb b 10 h)

pub ruleset passing_byte = (passed_byte_break, passed_byte_other)

-- line and column are 1 at least, and no larger than the position and one
pub record Placed (p : Span) : Type 0 where
  pub line_low : 1 ≤ p.line
  pub line_high : p.line ≤ p.position + 1
  pub column_low : 1 ≤ p.column
  pub column_high : p.column ≤ p.position + 1

-- what one byte does to the cursor's numbers
record Moved (p q : Span) : Type 0 where
  position : q.position ≡ p.position + 1
  line : q.line ≤ p.line + 1
  column : q.column ≤ p.column + 1
  placed : Placed p → Placed q

passed_byte_moved : (p : Span) (b : ℕ) → Moved p (passed_byte p b)
unfolding passed_byte
passed_byte_moved p b = go (eqb b 10)
  where
    go : (t : Bool) → Moved p (if t then record { line = p.line + 1; column = 1; position = p.position + 1 } else record { line = p.line; column = p.column + 1; position = p.position + 1 })
    go true = record { position = refl; line = omega arith; column = omega arith; placed = λ r. record { line_low = omega arith; line_high = omega (arith, r.line_high); column_low = omega arith; column_high = omega arith } }
    go false = record { position = refl; line = omega arith; column = omega arith; placed = λ r. record { line_low = r.line_low; line_high = omega (arith, r.line_high); column_low = omega arith; column_high = omega (arith, r.column_high) } }

pub passed_position : (p : Span) (xs : List ℕ) → (passed p xs).position ≡ p.position + length xs
unfolding passed
passed_position p [] = omega arith
passed_position p (b ∷ xs) = passed_position (passed_byte p b) xs ∙ rw (passed_byte_moved p b).position (omega arith)

pub passed_placed : (p : Span) (xs : List ℕ) → Placed p → Placed (passed p xs)
unfolding passed
passed_placed p [] h = h
passed_placed p (b ∷ xs) h = passed_placed (passed_byte p b) xs ((passed_byte_moved p b).placed h)
