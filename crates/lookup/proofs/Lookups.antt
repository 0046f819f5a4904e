-- The functions of this crate on each way through them: the loop keeps `Searching`. Assumes nothing.
use Prim.Native.Nat.{ℕ, zero, suc, ◌+◌, ◌-◌, ◌*◌, ◌/◌, ◌≤◌, ◌<◌}
use Rattle.byte.specs.declared.Refusal.{Refusal}
use mathlib.Core.Path.{◌≡◌, refl, sym, ap, ◌∙◌}
use mathlib.Core.List.{List}
use native.Mathlib.Omega.{arith}
use native.Mathlib.Nat.{zero-add}
use lib.Dec.{leb}
use lib.ListN.{length, get_or}
use mir.Syntax.{w32}
use mir.Val.{Fits}
use borrow.Author.Tests.{le-leb, lt-leb, leb-true, ne_eqb}
use Rattle.std.specs.Prelude.{Ok}
use Rattle.std.specs.Prelude.{Err}
use Rattle.std.specs.Prelude.{Result}
use Rattle.source.specs.Cursor.{origin}
use Rattle.byte.proofs.Tests.{unrefused}
use Rattle.std.specs.Prelude.{Option, None, Some, SomeIff}
use Rattle.lookup.specs.declared.Looked.{Looked}
use Rattle.lookup.specs.declared.Refused.{Refused}
use Rattle.lookup.specs.Lookups.{Search, position_in, end_in, record_before, look, searched, told}
use Rattle.lookup.specs.Lookups.{find_refusal, looked_up}
use Rattle.lookup.proofs.Searches.{searched_over, searched_on}

-- what a search finds that goes on after so many looks, and the looks of all of it
abbrev after_looks : ℕ → Search → Option ℕ × ℕ
after_looks looks s = (s.found, looks + length s.trail)

-- the same of a whole search
abbrev wholly : Search → Option ℕ × ℕ
wholly s = (s.found, length s.trail)

-- what is left of the search
pub record Searching (position : ℕ → ℕ) (byte count low high looks : ℕ) : Type 0 where
  pub order : low ≤ high
  pub room : high ≤ count
  pub spent : looks + (high - low) ≤ count
  pub same : after_looks looks (searched position byte low high) ≡ wholly (searched position byte 0 count)

abbrev told_pair : Option ℕ → ℕ → ℕ → Looked
told_pair found looks end = record { found = found; looks = looks; end = end }

module _ (position : ℕ → ℕ) (byte count : ℕ) where
  pub searching_first : Searching position byte count 0 count 0
  searching_first = record { order = omega arith; room = omega arith; spent = omega arith; same = rw (zero-add _) }

  module _ (low high looks : ℕ) (s : Searching position byte count low high looks) where
    pub searching_room : (list : List ℕ) → (count ≤ 65537) × (count * 8 ≤ length list) → high ≤ low
        → (low ≤ 65537) × (low * 8 ≤ length list)
    searching_room list fits h = (omega (arith, s.order, s.room, fits.0), omega (arith, s.order, s.room, fits.1))

    pub searching_end : (list : List ℕ) (found : Option ℕ) (end : ℕ) → high ≤ low → found ≡ record_before low
        → end ≡ end_in list (record_before low)
        → record { found = found; looks = looks; end = end } ≡ told list (searched position byte 0 count)
    searching_end list found end h e f =
        let none : looks ≡ looks + 0 = omega arith in
        let all : ◌≡◌ {A = Option ℕ × ℕ} (record_before low, looks) (wholly (searched position byte 0 count)) =
        ap (λ (n : ℕ). (record_before low, n)) none
        ∙ sym (ap (after_looks looks) (searched_over position byte low high h))
        ∙ s.same in
        rw (e, f) (ap (λ (p : Option ℕ × ℕ). told_pair p.0 p.1 (end_in list p.0)) all)

    -- a look at the middle one, whose position is v
    module _ (v : ℕ) (h : low < high) (f : v ≡ position ((low + high) / 2)) where
      -- one look is one more
      looked : (rest : Search) → searched position byte low high ≡ look ((low + high) / 2) rest
          → after_looks (looks + 1) rest ≡ wholly (searched position byte 0 count)
      looked rest e =
          let more : looks + 1 + length rest.trail ≡ looks + suc (length rest.trail) = omega arith in
          ap (λ (n : ℕ). (rest.found, n)) more ∙ sym (ap (after_looks looks) e) ∙ s.same

      pub searching_up : v ≤ byte → Searching position byte count ((low + high) / 2 + 1) high (looks + 1)
      searching_up e = record {
        order = omega arith;
        room = s.room;
        spent = omega (arith, s.spent);
        same =
            looked (searched position byte ((low + high) / 2 + 1) high)
            (searched_on position byte low high h ∙ rw (← f, le-leb v byte e));
      }

      pub searching_down : byte < v → Searching position byte count low ((low + high) / 2) (looks + 1)
      searching_down e = record {
        order = omega arith;
        room = omega (arith, s.room);
        spent = omega (arith, s.spent);
        same =
            looked (searched position byte low ((low + high) / 2))
            (searched_on position byte low high h ∙ rw (← f, lt-leb v byte e));
      }

pub ruleset searching = (searching_first, searching_room, searching_end, searching_up, searching_down)

-- the last of so many records, as the library's subtraction gives it
pub before_same : (count : ℕ) (r : Option ℕ) → SomeIff r (1 ≤ count) (count - 1) → r ≡ record_before count
unfolding record_before
before_same zero None h = refl
before_same zero (Some i) h = absurd (omega (arith, h.0))
before_same (suc i) None h = absurd (h (omega arith))
before_same (suc i) (Some j) h = ap Some (omega (arith, h.1))

module _ (list : List ℕ) (count : ℕ) (found : Option ℕ) (f : found ≡ record_before count) where
  pub end_none : found ≡ None → 0 ≡ end_in list (record_before count)
  unfolding end_in
  end_none e = rw (← f, e)

  module _ (number : ℕ) (e : found ≡ Some number) where
    pub end_some : get_or list (number * 8 + 7) 0 ≡ end_in list (record_before count)
    unfolding end_in
    end_some = rw (← f, e)

    pub end_below : number < count
    unfolding record_before
    end_below = go count (sym f ∙ e)
      where
        go : (n : ℕ) → record_before n ≡ Some number → number < n
        go zero k = cc
        go (suc i) k = let same : i ≡ number = cc in omega (arith, same)

pub ruleset ends = (end_none, end_some, end_below)

-- ---- what is asked before

-- where nothing is refused, list and count are within their bounds
pub record Bounded (list count : ℕ) : Type 0 where
  pub places : list / 8 ≤ 65537
  pub counted : count ≤ list / 8

pub find_bounded : (list count : ℕ) → find_refusal list count ≡ Ok tt → Bounded list count
unfolding find_refusal
find_bounded list count e =
    let large = unrefused (leb (list / 8) 65537) _ _ e in
    let above = unrefused (leb count (list / 8)) _ _ large.1 in
    record { places = leb-true (list / 8) 65537 large.0; counted = leb-true count (list / 8) above.0 }

module _ (list : List ℕ) (count byte : ℕ) (shut : Result (Unit {0}) Refusal) (f : shut ≡ find_refusal (length list) count) where
  pub find_refused : (r : Result Looked Refused) (refusal : Refusal) → shut ≡ Err refusal → r ≡ Err (record { refusal = refusal; span = origin }) → r ≡ looked_up list count byte
  unfolding looked_up
  find_refused r refusal h e = rw (← f, h) e

  module _ (h : shut ≡ Ok tt) where
    pub find_few : count ≤ 65537
    find_few = let b = find_bounded (length list) count (sym f ∙ h) in omega (arith, b.places, b.counted)

    pub find_cast : Fits w32 count
    find_cast = record { fits = omega (arith, find_few) }

    pub find_inside : count * 8 ≤ length list
    find_inside = omega (arith, (find_bounded (length list) count (sym f ∙ h)).counted)

    pub find_told : (r : Looked) → r ≡ told list (searched (position_in list) byte 0 count)
        → Ok r ≡ looked_up list count byte
    unfolding looked_up
    find_told r e = rw (← f, h, e)

pub ruleset finding = (find_refused, find_few, find_cast, find_inside, find_told)
