-- The value of a number: how many bytes of its text it has, the loop that writes them, and what a scan tells. Assumes nothing.
use Rattle.std.specs.Prelude.{Option, Some, None}
use Prim.Native.Nat.{ℕ, ◌+◌, ◌-◌, ◌≤◌, ◌<◌}
use mathlib.Core.Path.{◌≡◌, refl, sym, ap, ◌∙◌}
use mathlib.Core.List.{List, [], ◌∷◌, ◌++◌, append-nil}
use mathlib.Core.Bool.{Bool, not, cond}
use native.Mathlib.Omega.{arith}
use native.Mathlib.Numerals.{add-one}
use lib.Dec.{eqb}
use Rattle.std.specs.List.{count_by}
use Rattle.std.proofs.lemmas.List.Recursion.{is_count_by}
use lib.ListN.{length, get_or, set, take, drop, length-append, length-drop, take-append-drop}
use lib.Seq.{take-suc, take_all}
use borrow.Author.Tests.{eq-eqb, ne_eqb}
use Rattle.byte.specs.Laid.{laid}
use Rattle.byte.proofs.Laid.{set_laid, Writing, writing_first, writing_on, writing_end}
use Rattle.number.specs.declared.Base.{Base}
use Rattle.number.specs.declared.Extent.{Extent}
use Rattle.number.specs.Numbers.{Reading, base_of, number_at, scanned, lower_exponent, spelling, spelled, value_of}
use Rattle.number.specs.Code.{extent_at, extent_of}
use Rattle.number.proofs.Values.{either, spelled_append, length_spelled, number_at_inside, number_at_extent}

-- one byte more of the text
module _ (base : Base) (part : List ℕ) (i : ℕ) (h : i < length part) where
  spelled_kept : (get_or part i 0 ≡ 95 → ⊥) → spelled base (take (i + 1) part) ≡ spelled base (take i part) ++ (spelling base (get_or part i 0) ∷ [])
  unfolding spelled
  spelled_kept other = rw (add-one i, take-suc part i 0 h, spelled_append base (take i part) (get_or part i 0 ∷ []), ne_eqb (get_or part i 0) 95 other)

  spelled_under : get_or part i 0 ≡ 95 → spelled base (take (i + 1) part) ≡ spelled base (take i part)
  unfolding spelled
  spelled_under under = rw (add-one i, take-suc part i 0 h, spelled_append base (take i part) (get_or part i 0 ∷ []), eq-eqb (get_or part i 0) 95 under) (append-nil (spelled base (take i part)))

-- a value is as long as there are bytes but `_`
pub spelled_count : (part : List ℕ) → count_by (λ (b : ℕ). not (eqb b 95)) part ≡ length (spelled Base.Decimal part)
unfolding spelled
spelled_count part = sym (is_count_by size kept refl step part)
  where
    size : List ℕ → ℕ
    size xs = length (spelled Base.Decimal xs)

    kept : ℕ → Bool
    kept b = not (eqb b 95)

    step : (b : ℕ) (xs : List ℕ) → size (b ∷ xs) ≡ cond (kept b) (1 + size xs) (size xs)
    step b xs = either (eqb b 95) (λ e. rw e refl) (λ e. rw e (omega arith))

-- what is written so far is no longer than the whole
spelled_front : (base : Base) (part : List ℕ) (i : ℕ) → length (spelled base (take i part)) ≤ length (spelled base part)
spelled_front base part i =
    let all : spelled base part ≡ spelled base (take i part) ++ spelled base (drop i part) = ap (spelled base) (sym (take-append-drop i part)) ∙ spelled_append base (take i part) (drop i part) in
    omega (arith, ap length all, length-append (spelled base (take i part)) (spelled base (drop i part)))

-- `len` bytes are kept of the first i
pub record Counting (base : Base) (part : List ℕ) (len i : ℕ) : Type 0 where
  pub inside : i ≤ length part
  pub small : len ≤ i
  pub told : len ≡ length (spelled base (take i part))

module _ (base : Base) (part : List ℕ) where
  pub counting_first : Counting base part 0 0
  unfolding spelled
  counting_first = record { inside = omega arith; small = omega arith; told = refl }

  module _ (len i : ℕ) (c : Counting base part len i) where
    pub counting_end : length part ≤ i → len ≡ length (spelled base part)
    counting_end h = c.told ∙ rw (take_all i part h)

    module _ (more : ℕ) (h : i < length part) where
      pub counting_kept : (get_or part i 0 ≡ 95 → ⊥) → more ≡ len + 1 → Counting base part more (i + 1)
      counting_kept other e =
          let size = length-append (spelled base (take i part)) (spelling base (get_or part i 0) ∷ []) in
          record {
            inside = omega arith;
            small = omega (arith, c.small);
            told = rw (spelled_kept base part i h other) (omega (arith, c.told, size));
          }

      pub counting_under : get_or part i 0 ≡ 95 → more ≡ len → Counting base part more (i + 1)
      counting_under under e = record {
        inside = omega arith;
        small = omega (arith, c.small);
        told = rw (spelled_under base part i h under) (e ∙ c.told);
      }

pub ruleset counting = (counting_first, counting_end, counting_kept, counting_under)

-- the loop that writes: they stand at the start
pub record Storing (base : Base) (part old now : List ℕ) (i j : ℕ) : Type 0 where
  pub written : Writing (λ (k : ℕ). spelled base (take k part)) (length part) old now i
  pub counted : Counting base part j i

module _ (base : Base) (part old : List ℕ) where
  abbrev kept : ℕ → List ℕ
  kept k = spelled base (take k part)

  pub storing_first : Storing base part old old 0 0
  unfolding spelled
  storing_first = record { written = writing_first kept (length part) old refl; counted = counting_first base part }

  module _ (now : List ℕ) (i j : ℕ) (s : Storing base part old now i j) where
    pub storing_size : length now ≡ length old
    storing_size = s.written.size

    pub storing_end : length part ≤ i → now ≡ laid old 0 (spelled base part)
    storing_end h =
        writing_end kept (length part) old now i s.written h ∙ rw (take_all (length part) part (omega arith))

    module _ (h : i < length part) where
      pub storing_under : (now' : List ℕ) (j' : ℕ) → get_or part i 0 ≡ 95 → now' ≡ now → j' ≡ j → Storing base part old now' (i + 1) j'
      storing_under now' j' under e f =
          let same = spelled_under base part i h under in
          let size = ap length e ∙ s.written.size in
          record {
            written = record { inside = omega arith; size = size; written = e ∙ s.written.written ∙ rw same };
            counted = counting_under base part j i s.counted j' h under f;
          }

      module _ (fits : length (spelled base part) ≤ length old) (other : get_or part i 0 ≡ 95 → ⊥) where
        room : j + 1 ≤ length old
        room =
            let counted = counting_kept base part j i s.counted (j + 1) h other refl in
            omega (arith, spelled_front base part (i + 1), counted.told)

        pub storing_room : j < length now
        storing_room = omega (arith, room, s.written.size)

        pub storing_kept : (now' : List ℕ) (j' v : ℕ) → v ≡ spelling base (get_or part i 0) → now' ≡ set now j v
            → j' ≡ j + 1 → Storing base part old now' (i + 1) j'
        storing_kept now' j' v told e f =
            let byte = spelling base (get_or part i 0) in
            let set' : now' ≡ laid now j (byte ∷ []) = e ∙ rw told (set_laid now j byte storing_room) in
            let on = writing_on kept (length part) old now i s.written now' j (byte ∷ []) h in
            record {
              written = on s.counted.told room (spelled_kept base part i h other) set';
              counted = counting_kept base part j i s.counted j' h other f;
            }

pub ruleset storing = (storing_first, storing_size, storing_end, storing_under, storing_room, storing_kept)

pub spelling_hex : (base : Base) (b : ℕ) → base ≡ Base.Hex → b ≡ spelling base b
unfolding spelling
spelling_hex base b h = rw h refl

pub spelling_other : (base : Base) (b r : ℕ) → (base ≡ Base.Hex → ⊥) → r ≡ lower_exponent b → r ≡ spelling base b
unfolding spelling
spelling_other Base.Binary b r other e = e
spelling_other Base.Octal b r other e = e
spelling_other Base.Decimal b r other e = e
spelling_other Base.Hex b r other e = absurd (other refl)

pub ruleset spellings = (spelling_hex, spelling_other)

pub lower_upper : (b : ℕ) → b ≡ 69 → 101 ≡ lower_exponent b
unfolding lower_exponent
lower_upper b h = rw (eq-eqb b 69 h)

pub lower_other : (b : ℕ) → (b ≡ 69 → ⊥) → b ≡ lower_exponent b
unfolding lower_exponent
lower_other b h = rw (ne_eqb b 69 h)

pub ruleset lowering = (lower_upper, lower_other)

-- the value of a number of the source
module _ (src : List ℕ) (at after : ℕ) where
  pub value_of_length : (len : ℕ) → len ≡ length (spelled Base.Decimal (take (after - at) (drop at src))) → len ≡ length (value_of src at after)
  unfolding value_of
  value_of_length len e = e ∙ (length_spelled Base.Decimal (base_of (drop at src)) (take (after - at) (drop at src))).0

  module _ (base : Base) (e : base ≡ base_of (drop at src)) where
    pub value_of_room : (n : ℕ) → length (value_of src at after) ≤ n → length (spelled base (take (after - at) (drop at src))) ≤ n
    unfolding value_of
    value_of_room n h = rw e h

    pub value_of_written : (old now : List ℕ) → now ≡ laid old 0 (spelled base (take (after - at) (drop at src))) → now ≡ laid old 0 (value_of src at after)
    unfolding value_of
    value_of_written old now h = rw (← e) h

pub ruleset values = (value_of_room, value_of_written)

-- what a scan tells
module _ (src : List ℕ) (at : ℕ) (end : Bool) (extent : Option Extent) (e : extent ≡ extent_of (number_at end at (drop at src))) where
  pub scan_wait : extent ≡ None → None ≡ scanned (number_at end at (drop at src))
  unfolding extent_of scanned
  scan_wait f = go (number_at end at (drop at src)) (sym f ∙ e)
    where
      go : (r : Reading) → None ≡ extent_of r → None ≡ scanned r
      go (Reading.Number literal value after) e = let z : None ≡ extent_at literal after = e in cc
      go Reading.Wait e = refl

  module _ (found : Extent) (f : extent ≡ Some found) where
    told : number_at end at (drop at src) ≡ Reading.Number found.literal (value_of src at found.after) found.after
    unfolding value_of
    told = number_at_extent end at (drop at src) found.literal found.after (sym e ∙ f)

    pub scan_low : at ≤ found.after
    scan_low = (number_at_inside end at (drop at src) found.literal _ found.after told).0

    pub scan_high : at ≤ length src → found.after ≤ length src
    scan_high h = omega (arith, (number_at_inside end at (drop at src) found.literal _ found.after told).1, length-drop at src)

    pub scan_number : (len : ℕ) → len ≡ length (value_of src at found.after)
        → Some (record { literal = found.literal; after = found.after; len = len }) ≡ scanned (number_at end at (drop at src))
    unfolding scanned
    scan_number len g = rw (told, g)

pub ruleset scans = (scan_wait, scan_low, scan_high, scan_number)
