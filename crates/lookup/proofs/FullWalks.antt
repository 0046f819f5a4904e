-- The full walk, and that the search finds the same where positions never fall. Assumes nothing.
--   last_before_last   the full walk gives the last record at or before the byte, or none
--   last_one           there is one such answer
--   rising_found       the search's answer is the full walk's
use Prim.Native.Nat.{ℕ, zero, suc, ◌+◌, ◌-◌, ◌/◌, ◌≤◌, ◌<◌}
use mathlib.Core.Path.{◌≡◌, refl, ap, subst}
use native.Mathlib.Omega.{arith}
use lib.Dec.{leb}
use borrow.Author.Tests.{le-leb, lt-leb, leb-true, leb-false}
use Rattle.byte.proofs.Tests.{choice}
use Rattle.std.specs.Prelude.{Option, None, Some}
use Rattle.lookup.specs.Lookups.{Search, look, searched, record_before}
use Rattle.lookup.specs.FullWalks.{last_before, IsLast, NeverFalls}
use Rattle.lookup.proofs.Searches.{by_rest, searched_over, searched_on}

-- ---- the full walk

module _ (position : ℕ → ℕ) (byte : ℕ) where
  -- the same record
  same_place : (i j : ℕ) → i ≡ j → byte < position i → byte < position j
  same_place i j e h = subst (λ (k : ℕ). byte < position k) e h

  -- a record after the byte changes nothing
  last_more : (i : ℕ) (found : Option ℕ) → byte < position i → IsLast position byte i found
      → IsLast position byte (suc i) found
  last_more i None h k = λ j g. by_rest j i (λ le. same_place i j (omega arith) h) (λ lt. k j lt)
  last_more i (Some n) h k =
      (omega (arith, k.0), k.1, λ j f g. by_rest j i (λ le. same_place i j (omega arith) h) (λ lt. k.2 j f lt))

  pub last_before_last : (count : ℕ) → IsLast position byte count (last_before position byte count)
  unfolding last_before
  last_before_last zero = λ j h. omega arith
  last_before_last (suc i) =
      choice (IsLast position byte (suc i)) (leb (position i) byte) _ _
      (λ e. (omega arith, leb-true (position i) byte e, λ j g h. omega arith))
      (λ e. last_more i (last_before position byte i) (leb-false (position i) byte e) (last_before_last i))

  -- and no other answer is the last
  pub last_one : (count : ℕ) (found found' : Option ℕ) → IsLast position byte count found
      → IsLast position byte count found'
      → found ≡ found'
  last_one count None None h k = refl
  last_one count None (Some i) h k = absurd (omega (arith, h i k.0, k.1))
  last_one count (Some i) None h k = absurd (omega (arith, k i h.0, h.1))
  last_one count (Some i) (Some j) h k =
      ap Some
      (by_rest i j (λ le. by_rest j i (λ ge. omega arith) (λ gt. absurd (omega (arith, k.2 i gt h.0, h.1))))
      (λ lt. absurd (omega (arith, h.2 j lt k.0, k.1))))

  -- records before low are at or before the byte, and those from low on are not: so the last before low is the last
  last_at : (low count : ℕ) → low ≤ count → ((i : ℕ) → i < low → position i ≤ byte)
      → ((i : ℕ) → low ≤ i → i < count → byte < position i)
      → record_before low ≡ last_before position byte count
  unfolding record_before last_before
  last_at zero zero h below above = refl
  last_at (suc low) zero h below above = absurd (omega arith)
  last_at low (suc i) h below above =
      by_rest low (suc i)
      (λ g.
      let all : low ≡ suc i = omega arith in
      rw (all, le-leb (position i) byte (below i (omega arith))))
      (λ g.
      rw (lt-leb (position i) byte (above i (omega arith) (omega arith)))
      (last_at low i (omega arith) below (λ j f h. above j f (omega arith))))

-- ---- the search

module _ (position : ℕ → ℕ) (byte count : ℕ) (rising : NeverFalls position count) where
  -- records before low are at or before the byte, and those from high on are not
  record Narrowed (low high : ℕ) : Type 0 where
    order : low ≤ high
    room : high ≤ count
    below : (i : ℕ) → i < low → position i ≤ byte
    above : (i : ℕ) → high ≤ i → i < count → byte < position i

  narrowed_over : (low high : ℕ) → Narrowed low high → high ≤ low
      → (searched position byte low high).found ≡ last_before position byte count
  narrowed_over low high k g =
      let end : low ≡ high = omega (arith, k.order) in
      rw (searched_over position byte low high g)
      (last_at position byte low count (omega (arith, k.order, k.room)) k.below (rw end k.above))

  narrowed_up : (low high i : ℕ) → Narrowed low high → low ≤ i → i < high → position i ≤ byte → Narrowed (i + 1) high
  narrowed_up low high i k g h e = record {
    order = omega arith;
    room = k.room;
    below = λ j f. omega (arith, rising j i (omega arith) (omega (arith, k.room)));
    above = k.above;
  }

  narrowed_down : (low high i : ℕ) → Narrowed low high → low ≤ i → i < high → byte < position i → Narrowed low i
  narrowed_down low high i k g h e = record {
    order = g;
    room = omega (arith, k.room);
    below = k.below;
    above = λ j f m. omega (arith, rising i j f m);
  }

  halving_found : (n low high : ℕ) → high - low ≤ n → Narrowed low high
      → (searched position byte low high).found ≡ last_before position byte count
  halving_found zero low high h k = narrowed_over low high k (omega arith)
  halving_found (suc n) low high h k =
      let middle = (low + high) / 2 in
      by_rest low high (narrowed_over low high k)
      (λ g.
      rw (searched_on position byte low high g)
      (choice (λ (s : Search). (look middle s).found ≡ last_before position byte count) (leb (position middle) byte) _ _
      (λ e.
      halving_found n (middle + 1) high (omega arith)
      (narrowed_up low high middle k (omega arith) (omega arith) (leb-true (position middle) byte e)))
      (λ e.
      halving_found n low middle (omega arith)
      (narrowed_down low high middle k (omega arith) (omega arith) (leb-false (position middle) byte e)))))

  pub rising_found : (searched position byte 0 count).found ≡ last_before position byte count
  rising_found = halving_found count 0 count (omega arith) (record {
    order = omega arith;
    room = omega arith;
    below = λ i h. absurd (omega arith);
    above = λ i h k. absurd (omega arith);
  })
