-- Where what is told lies, between the cursor n and hi: no piece, one piece, a part and a piece. Assumes nothing.
--   parted_few   a part and a piece are at most two
use Prim.Native.Nat.{ℕ, ◌+◌, ◌≤◌}
use mathlib.Core.Path.{ap}
use mathlib.Core.List.{List, [], ◌∷◌, ◌++◌, append-nil}
use native.Mathlib.Omega.{arith}
use lib.ListN.{length, take, length-take, length-append}
use Rattle.outcome.specs.Outcomes.{Piece, piece, unless_empty, values}
use Rattle.outcome.specs.Insides.{ToldInside}

pub take-length : (k : ℕ) (xs : List ℕ) → length (take k xs) ≤ k
take-length k xs = omega (arith, length-take k xs)

module _ (n hi : ℕ) where
  pub goes_inside : (after : ℕ) → n ≤ after → after ≤ hi → ToldInside n hi [] after
  unfolding values
  goes_inside after x y = record { order = x; inside = y; narrow = omega arith; all = tt }

  -- one piece that bears the cursor's span
  pub one_inside : (kind after : ℕ) (value : List ℕ) → n + length value ≤ after → after ≤ hi
      → ToldInside n hi (piece kind n value ∷ []) after
  unfolding values
  one_inside kind after value x y =
      record {
        order = omega arith;
        inside = y;
        narrow = omega (arith, ap length (append-nil value));
        all = (record { low = omega arith; high = omega arith; detail = omega arith }, tt);
      }

  -- a part that is left out where it is empty, and a piece after it
  pub parted_inside : (kind after : ℕ) (value : List ℕ) (p : Piece) → n ≤ p.place → p.place ≤ after
      → p.detail ≤ after → n + (length value + length p.value) ≤ after → after ≤ hi
      → ToldInside n hi (unless_empty kind n value ++ p ∷ []) after
  unfolding unless_empty values
  parted_inside kind after [] p x y z w h =
      record {
        order = omega arith;
        inside = h;
        narrow = omega (arith, ap length (append-nil p.value));
        all = (record { low = x; high = y; detail = z }, tt);
      }
  parted_inside kind after (b ∷ vs) p x y z w h =
      record {
        order = omega arith;
        inside = h;
        narrow = omega (arith, length-append vs (p.value ++ []), ap length (append-nil p.value));
        all = (
          record { low = omega arith; high = omega arith; detail = omega arith },
          (record { low = x; high = y; detail = z }, tt),
        );
      }

pub parted_few : (kind n : ℕ) (value : List ℕ) (p : Piece) → length (unless_empty kind n value ++ p ∷ []) ≤ 2
unfolding unless_empty
parted_few kind n [] p = omega arith
parted_few kind n (b ∷ vs) p = omega arith
