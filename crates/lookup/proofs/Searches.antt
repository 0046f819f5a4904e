-- The search, round by round: its equations, how many looks it takes, on which records its answer hangs. Assumes
-- nothing.
--   searched_over, searched_on   where no record is left; one look, and the search of what is left: no number of
--                                rounds comes in
--   searched_most                of fewer than twice as many records it takes one look more at most
--   searched_inside              every record that is looked at is one of those searched
--   searched_agrees              positions that agree on the records looked at give the same search
--   searched_seen                what is found was looked at
--   searched_reached             and is at or before the byte, on every list
use Rattle.std.specs.Prelude.{if◌then◌else◌, Option, None, Some}
use Prim.Native.Nat.{ℕ, zero, suc, ◌+◌, ◌-◌, ◌/◌, ◌^◌, ◌≤◌, ◌<◌}
use mathlib.Core.Path.{◌≡◌, refl, sym, ap, ◌∙◌}
use mathlib.Core.Bool.{Bool, true, false, or-true}
use mathlib.Core.Logic.{◌⊎◌, inl, inr, ⊎_elim}
use mathlib.Core.List.{List, ◌∷◌}
use native.Mathlib.Omega.{arith}
use lib.Dec.{leb, ltb, eqb}
use lib.ListN.{length}
use borrow.Author.Tests.{le-leb, lt-leb, leb-true, leb-false, lt-ltb, eq-eqb, eqb-true}
use Rattle.byte.specs.Words.{every}
use Rattle.byte.proofs.Tests.{choice, &&-left, &&-right, &&-both, suc_one}
use Rattle.byte.specs.Words.{is_one_of}
use Rattle.lookup.specs.Lookups.{Search, over, look, search_in, searched, record_before}
use Rattle.lookup.specs.FullWalks.{is_seen, IsReached}

-- records are left, or none
pub by_rest : {A : Type 0} (low high : ℕ) → (high ≤ low → A) → (low < high → A) → A
by_rest {A} low high none some = go (leb high low) refl
  where
    go : (t : Bool) → leb high low ≡ t → A
    go true e = none (leb-true high low e)
    go false e = some (leb-false high low e)

-- ---- its equations

module _ (position : ℕ → ℕ) (byte : ℕ) where
  -- one look, and what is left of it
  abbrev halved : ℕ → ℕ → ℕ → Search
  halved rounds low high =
      look ((low + high) / 2)
      (if leb (position ((low + high) / 2)) byte then search_in rounds position byte ((low + high) / 2 + 1) high
      else search_in rounds position byte low ((low + high) / 2))

  rounds_over : (rounds low high : ℕ) → high ≤ low → search_in rounds position byte low high ≡ over low
  unfolding search_in
  rounds_over zero low high h = refl
  rounds_over (suc rounds) low high h = rw (le-leb high low h)

  rounds_none : (low high : ℕ) → search_in zero position byte low high ≡ over low
  unfolding search_in
  rounds_none low high = refl

  rounds_on : (rounds low high : ℕ) → low < high → search_in (suc rounds) position byte low high ≡ halved rounds low high
  unfolding search_in
  rounds_on rounds low high h = rw (lt-leb high low h)

  -- more rounds than records change nothing
  rounds_enough : (m n low high : ℕ) → high - low ≤ m → high - low ≤ n
      → search_in m position byte low high ≡ search_in n position byte low high
  rounds_enough zero n low high h k =
      rounds_over zero low high (omega arith) ∙ sym (rounds_over n low high (omega arith))
  rounds_enough (suc m) zero low high h k =
      rounds_over (suc m) low high (omega arith) ∙ sym (rounds_over zero low high (omega arith))
  rounds_enough (suc m) (suc n) low high h k =
      by_rest low high (λ g. rounds_over (suc m) low high g ∙ sym (rounds_over (suc n) low high g))
      (λ g.
      let upper = rounds_enough m n ((low + high) / 2 + 1) high (omega arith) (omega arith) in
      let lower = rounds_enough m n low ((low + high) / 2) (omega arith) (omega arith) in
      rounds_on m low high g ∙ rw (upper, lower) (sym (rounds_on n low high g)))

  module _ (low high : ℕ) where
    pub searched_over : high ≤ low → searched position byte low high ≡ over low
    searched_over h = rounds_over (high - low) low high h

    pub searched_on : low < high
        → searched position byte low high
        ≡ look ((low + high) / 2)
        (if leb (position ((low + high) / 2)) byte then searched position byte ((low + high) / 2 + 1) high
        else searched position byte low ((low + high) / 2))
    searched_on h =
        let upper = rounds_enough (high - low) (high - ((low + high) / 2 + 1)) ((low + high) / 2 + 1) high
        (omega arith) (omega arith) in
        let lower = rounds_enough (high - low) ((low + high) / 2 - low) low ((low + high) / 2) (omega arith)
        (omega arith) in
        rounds_enough (high - low) (suc (high - low)) low high (omega arith) (omega arith)
        ∙ rounds_on (high - low) low high h
        ∙ rw (upper, lower)

-- ---- how many looks, and at which records

module _ (position : ℕ → ℕ) (byte : ℕ) where
  rounds_most : (rounds looks low high : ℕ) → high - low < 2 ^ looks
      → length (search_in rounds position byte low high).trail ≤ looks
  rounds_most rounds zero low high h = rw (rounds_over position byte rounds low high (omega arith)) (omega arith)
  rounds_most zero (suc looks) low high h = rw (rounds_none position byte low high) (omega arith)
  rounds_most (suc rounds) (suc looks) low high h =
      by_rest low high (λ g. rw (rounds_over position byte (suc rounds) low high g) (omega arith))
      (λ g.
      let upper = rounds_most rounds looks ((low + high) / 2 + 1) high (omega arith) in
      let lower = rounds_most rounds looks low ((low + high) / 2) (omega arith) in
      rw (rounds_on position byte rounds low high g)
      (choice (λ (s : Search). length (look ((low + high) / 2) s).trail ≤ suc looks)
      (leb (position ((low + high) / 2)) byte) _ _ (λ e. omega arith) (λ e. omega arith)))

  pub searched_most : (looks low high : ℕ) → high - low < 2 ^ looks
      → length (searched position byte low high).trail ≤ looks
  searched_most looks low high h = rounds_most (high - low) looks low high h

  -- the records that are looked at are among the first so many
  abbrev AreBelow : ℕ → Search → Type 0
  AreBelow count s = every (λ i. ltb i count) s.trail ≡ true

  rounds_inside : (rounds count low high : ℕ) → high ≤ count → AreBelow count (search_in rounds position byte low high)
  unfolding every
  rounds_inside zero count low high h = rw (rounds_none position byte low high)
  rounds_inside (suc rounds) count low high h =
      by_rest low high (λ g. rw (rounds_over position byte (suc rounds) low high g))
      (λ g.
      let upper = rounds_inside rounds count ((low + high) / 2 + 1) high h in
      let lower = rounds_inside rounds count low ((low + high) / 2) (omega arith) in
      rw (rounds_on position byte rounds low high g)
      (choice (λ (s : Search). AreBelow count (look ((low + high) / 2) s)) (leb (position ((low + high) / 2)) byte) _ _
      (λ e. &&-both _ _ (lt-ltb ((low + high) / 2) count (omega arith)) upper)
      (λ e. &&-both _ _ (lt-ltb ((low + high) / 2) count (omega arith)) lower)))

  pub searched_inside : (low high : ℕ) → AreBelow high (searched position byte low high)
  searched_inside low high = rounds_inside (high - low) high low high (omega arith)

  -- what is found is the record before low, or was looked at
  abbrev Seen : ℕ → Search → Type 0
  Seen low s = (s.found ≡ record_before low) ⊎ (is_seen s.found s.trail ≡ true)

  seen_later : (i : ℕ) (found : Option ℕ) (trail : List ℕ) → is_seen found trail ≡ true → is_seen found (i ∷ trail) ≡ true
  unfolding is_seen is_one_of
  seen_later i None trail e = refl
  seen_later i (Some n) trail e = rw e (or-true (eqb n i))

  seen_first : (i : ℕ) (found : Option ℕ) (trail : List ℕ) → found ≡ record_before (i + 1) → is_seen found (i ∷ trail) ≡ true
  unfolding is_seen is_one_of record_before
  seen_first i found trail e = rw (e, ← suc_one i, eq-eqb i i refl)

  rounds_seen : (rounds low high : ℕ) → Seen low (search_in rounds position byte low high)
  rounds_seen zero low high = rw (rounds_none position byte low high) (inl refl)
  rounds_seen (suc rounds) low high =
      by_rest low high (λ g. rw (rounds_over position byte (suc rounds) low high g) (inl refl))
      (λ g.
      let upper = rounds_seen rounds ((low + high) / 2 + 1) high in
      let lower = rounds_seen rounds low ((low + high) / 2) in
      rw (rounds_on position byte rounds low high g)
      (choice (λ (s : Search). Seen low (look ((low + high) / 2) s)) (leb (position ((low + high) / 2)) byte) _ _
      (λ e. ⊎_elim (λ f. inr (seen_first _ _ _ f)) (λ f. inr (seen_later _ _ _ f)) upper)
      (λ e. ⊎_elim (λ f. inl f) (λ f. inr (seen_later _ _ _ f)) lower)))

  pub searched_seen : (count : ℕ)
      → is_seen (searched position byte 0 count).found (searched position byte 0 count).trail ≡ true
  unfolding is_seen record_before
  searched_seen count = ⊎_elim (λ e. rw e) (λ e. e) (rounds_seen (count - 0) 0 count)

  -- what is found is at or before the byte, if the record before low is
  rounds_reached : (rounds low high : ℕ) → IsReached position byte (record_before low)
      → IsReached position byte (search_in rounds position byte low high).found
  unfolding record_before
  rounds_reached zero low high h = rw (rounds_none position byte low high) h
  rounds_reached (suc rounds) low high h =
      by_rest low high (λ g. rw (rounds_over position byte (suc rounds) low high g) h)
      (λ g.
      let upper = rounds_reached rounds ((low + high) / 2 + 1) high in
      let lower = rounds_reached rounds low ((low + high) / 2) h in
      rw (rounds_on position byte rounds low high g)
      (choice (λ (s : Search). IsReached position byte (look ((low + high) / 2) s).found)
      (leb (position ((low + high) / 2)) byte) _ _
      (λ e. upper (here_reached ((low + high) / 2) (leb-true (position ((low + high) / 2)) byte e))) (λ e. lower)))
    where
      here_reached : (i : ℕ) → position i ≤ byte → IsReached position byte (record_before (i + 1))
      here_reached i k = rw (← suc_one i) k

  pub searched_reached : (count : ℕ) → IsReached position byte (searched position byte 0 count).found
  unfolding record_before
  searched_reached count = rounds_reached (count - 0) 0 count tt

-- ---- what the answer hangs on

module _ (position position' : ℕ → ℕ) (byte : ℕ) where
  -- the positions of a record are the same
  abbrev same : ℕ → Bool
  same i = eqb (position i) (position' i)

  rounds_agree : (rounds low high : ℕ) → every same (search_in rounds position byte low high).trail ≡ true
      → search_in rounds position byte low high ≡ search_in rounds position' byte low high
  unfolding every
  rounds_agree zero low high = λ e. rounds_none position byte low high ∙ sym (rounds_none position' byte low high)
  rounds_agree (suc rounds) low high =
      let middle = (low + high) / 2 in
      by_rest low high
      (λ g e.
      rounds_over position byte (suc rounds) low high g ∙ sym (rounds_over position' byte (suc rounds) low high g))
      (λ g.
      let upper = rounds_agree rounds (middle + 1) high in
      let lower = rounds_agree rounds low middle in
      rw (rounds_on position byte rounds low high g, rounds_on position' byte rounds low high g)
      (λ e.
      let here : position middle ≡ position' middle = eqb-true (position middle) (position' middle) (&&-left _ _ e) in
      rw (← here)
      (agree_later middle (leb (position middle) byte) _ _ _ _ upper lower (&&-right (same middle) _ e))))
    where
      agree_later : (i : ℕ) (t : Bool) (a a' b b' : Search) → (every same a.trail ≡ true → a ≡ a')
          → (every same b.trail ≡ true → b ≡ b') → every same (if t then a else b).trail ≡ true
          → look i (if t then a else b) ≡ look i (if t then a' else b')
      agree_later i true a a' b b' f g e = ap (look i) (f e)
      agree_later i false a a' b b' f g e = ap (look i) (g e)

  pub searched_agrees : (low high : ℕ) → every same (searched position byte low high).trail ≡ true
      → searched position byte low high ≡ searched position' byte low high
  searched_agrees low high = rounds_agree (high - low) low high
