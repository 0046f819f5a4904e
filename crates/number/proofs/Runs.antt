-- The ways through the code that reads digits: bases, one digit more, a run of digits, a sign and digits. A `ruleset` for each function or
-- two, in the source's order. Assumes nothing.
use Rattle.std.specs.Prelude.{if◌then◌else◌, Option, Some, None}
use Rattle.std.specs.Bool.{then_some}
use Prim.Native.Nat.{ℕ, suc, ◌+◌, ◌-◌, ◌≤◌, ◌<◌}
use mathlib.Core.Path.{◌≡◌, refl, sym, ◌∙◌}
use mathlib.Core.Bool.{Bool, true, false, not, ◌&&◌, ◌||◌}
use mathlib.Core.List.{List, [], ◌∷◌}
use native.Mathlib.Omega.{arith}
use native.Mathlib.Numerals.{add-one}
use lib.Dec.{eqb}
use lib.ListN.{length, get_or, drop, length-drop, drop_of_length-le}
use lib.Seq.{drop-drop}
use borrow.Author.Tests.{eq-eqb, ne_eqb, not-true, not-false}
use Rattle.byte.proofs.Words.{drop-one}
use Rattle.number.specs.declared.Base.{Base}
use Rattle.number.specs.declared.Literal.{Literal}
use Rattle.number.specs.Numbers.{Digits, Reading, is_one, base_named, base_of, is_sign, before, last, digits_more}
use Rattle.number.specs.Numbers.{digits, signed, onto, closing, followed}
use Rattle.number.specs.Code.{place_of, extent_of, closing_extent, digit_width, WidthAt, stopped}
use Rattle.number.proofs.Values.{either}

-- a place and the next in the source
drop_last : (src : List ℕ) (at : ℕ) → at < length src → length src - at < 2 → drop at src ≡ get_or src at 0 ∷ []
drop_last src at h short =
    let past : length src ≤ at + 1 = omega arith in
    drop-one src at h ∙ rw (drop_of_length-le src past)

drop_two : (src : List ℕ) (at : ℕ) → 2 ≤ length src - at → drop at src ≡ get_or src at 0 ∷ get_or src (at + 1) 0 ∷ drop (at + 2) src
drop_two src at h =
    let next : at + 1 + 1 ≡ at + 2 = omega arith in
    drop-one src at (omega arith) ∙ rw (drop-one src (at + 1) (omega arith), next)

-- a place is one, and is none where it is undecided
pub place_same : (m n : ℕ) → Some m ≡ Some n → m ≡ n
place_same m n e = let z : Some m ≡ Some n = e in cc

pub place_clash : (n : ℕ) → Some n ≡ None → ⊥
place_clash n e = let z : Some n ≡ None = e in let y : ◌≡◌ {A = ℕ} 0 1 = cc in omega arith

-- what comes before leaves the place, and the kind with it
pub place_of_before : (b : ℕ) (d : Digits) → place_of (before b d) ≡ place_of d
unfolding place_of before
place_of_before b (Digits.Read ds after) = refl
place_of_before b Digits.Undecided = refl

pub extent_of_onto : (bs : List ℕ) (r : Reading) → extent_of (onto bs r) ≡ extent_of r
unfolding extent_of onto
extent_of_onto bs (Reading.Number literal value after) = refl
extent_of_onto bs Reading.Wait = refl

pub extent_of_closing : (literal : Literal) (d : Digits) → extent_of (closing literal d) ≡ closing_extent literal (place_of d)
unfolding extent_of closing closing_extent place_of
extent_of_closing literal (Digits.Read ds after) = refl
extent_of_closing literal Digits.Undecided = refl

-- a number that goes on after digits ends where it ends from their place on
pub followed_place : (d : Digits) (next : ℕ → Reading) (i : ℕ) → place_of d ≡ Some i
    → extent_of (followed d next) ≡ extent_of (next i)
unfolding place_of followed
followed_place (Digits.Read ds after) next i e = rw (place_same after i e) (extent_of_onto ds (next i))
followed_place Digits.Undecided next i e = absurd (place_clash i (sym e))

pub followed_undecided : (d : Digits) (next : ℕ → Reading) → place_of d ≡ None
    → None ≡ extent_of (followed d next)
unfolding place_of followed extent_of
followed_undecided (Digits.Read ds after) next e = absurd (place_clash after e)
followed_undecided Digits.Undecided next e = refl

-- an arm of a match on a base
pub is_one_arm : (base arm : Base) (b : ℕ) (r : Bool) → base ≡ arm → r ≡ is_one arm b → r ≡ is_one base b
is_one_arm base arm b r e h = rw e h

module _ (b : ℕ) where
  pub base_named_binary : (eqb b 98 || eqb b 66) ≡ true → Base.Binary ≡ base_named b
  unfolding base_named
  base_named_binary h = rw h

  module _ (first : (eqb b 98 || eqb b 66) ≡ false) where
    pub base_named_octal : (eqb b 111 || eqb b 79) ≡ true → Base.Octal ≡ base_named b
    unfolding base_named
    base_named_octal h = rw (first, h)

    module _ (second : (eqb b 111 || eqb b 79) ≡ false) where
      pub base_named_hex : (eqb b 120 || eqb b 88) ≡ true → Base.Hex ≡ base_named b
      unfolding base_named
      base_named_hex h = rw (first, second, h)

      pub base_named_none : (eqb b 120 || eqb b 88) ≡ false → Base.Decimal ≡ base_named b
      unfolding base_named
      base_named_none h = rw (first, second, h)

module _ (src : List ℕ) (at : ℕ) where
  base_of_few : (xs : List ℕ) → length xs < 2 → Base.Decimal ≡ base_of xs
  unfolding base_of
  base_of_few [] h = refl
  base_of_few (b ∷ []) h = refl
  base_of_few (b ∷ c ∷ xs) h = absurd (omega arith)

  pub base_of_short : length src - at < 2 → Base.Decimal ≡ base_of (drop at src)
  base_of_short h = base_of_few (drop at src) (rw (length-drop at src) h)

  module _ (h : 2 ≤ length src - at) where
    pub base_of_other : (get_or src at 0 ≡ 48 → ⊥) → Base.Decimal ≡ base_of (drop at src)
    unfolding base_of
    base_of_other other = rw (drop_two src at h, ne_eqb (get_or src at 0) 48 other)

    pub base_of_zero : (r : Base) → get_or src at 0 ≡ 48 → r ≡ base_named (get_or src (at + 1) 0) → r ≡ base_of (drop at src)
    unfolding base_of
    base_of_zero r e f = rw (drop_two src at h, eq-eqb (get_or src at 0) 48 e) f

pub ruleset bases = (base_named_binary, base_named_octal, base_named_hex, base_named_none, base_of_short, base_of_other, base_of_zero)

pub last_told : (end : Bool) (at : ℕ) → then_some end at ≡ place_of (last end at)
unfolding last place_of
last_told true at = refl
last_told false at = refl

module _ (src : List ℕ) (at : ℕ) (base : Base) (one : Bool) (h : at < length src) (f : one ≡ is_one base (get_or src at 0)) where
  digit_width_one : (b : ℕ) (xs : List ℕ) → is_one base b ≡ true → digit_width base (b ∷ xs) ≡ Some 1
  unfolding digit_width
  digit_width_one b [] e = rw e
  digit_width_one b (c ∷ xs) e = rw e

  digit_width_other : (b : ℕ) (xs : List ℕ) → is_one base b ≡ false → eqb b 95 ≡ false → digit_width base (b ∷ xs) ≡ None
  unfolding digit_width
  digit_width_other b [] e k = rw e
  digit_width_other b (c ∷ xs) e k = rw (e, k)

  pub width_one : one ≡ true → WidthAt base src at (Some 1)
  width_one t = record { told = sym (rw (drop-one src at h) (digit_width_one _ _ (sym f ∙ t))); inside = omega arith; some = omega arith }

  module _ (t : one ≡ false) where
    pub width_other : (get_or src at 0 ≡ 95 → ⊥) → WidthAt base src at None
    width_other k = record { told = sym (rw (drop-one src at h) (digit_width_other _ _ (sym f ∙ t) (ne_eqb (get_or src at 0) 95 k))); inside = tt; some = tt }

    pub width_cut : length src - at < 2 → WidthAt base src at None
    unfolding digit_width
    width_cut short = record { told = rw (drop_last src at h short, ← f, t); inside = tt; some = tt }

    module _ (pair : 2 ≤ length src - at) (second : Bool) (g : second ≡ is_one base (get_or src (at + 1) 0)) (under : get_or src at 0 ≡ 95) where
      width_joined : second ≡ true → Some 2 ≡ digit_width base (drop at src)
      unfolding digit_width
      width_joined k = rw (drop_two src at pair, ← f, ← g, t, k, eq-eqb (get_or src at 0) 95 under)

      width_lone : second ≡ false → None ≡ digit_width base (drop at src)
      unfolding digit_width
      width_lone k = rw (drop_two src at pair, ← f, ← g, t, k, eq-eqb (get_or src at 0) 95 under)

      pub width_pair : WidthAt base src at (then_some second 2)
      width_pair = either second
          (λ k. rw k (record { told = width_joined k; inside = omega arith; some = omega arith }))
          (λ k. rw k (record { told = width_lone k; inside = tt; some = tt }))

pub width_past : (src : List ℕ) (at : ℕ) (base : Base) → length src ≤ at → WidthAt base src at None
unfolding digit_width
width_past src at base h = record { told = rw (drop_of_length-le src h); inside = tt; some = tt }

pub ruleset widths = (width_past, width_one, width_other, width_cut, width_pair)

module _ (src : List ℕ) (at : ℕ) (end : Bool) (h : at < length src) where
  stopped_at : (b : ℕ) (xs : List ℕ) → eqb b 95 ≡ false → stopped end at (b ∷ xs) ≡ Digits.Read [] at
  unfolding stopped
  stopped_at b [] e = rw e
  stopped_at b (c ∷ xs) e = refl

  pub stopped_other : (get_or src at 0 ≡ 95 → ⊥) → Some at ≡ place_of (stopped end at (drop at src))
  unfolding place_of
  stopped_other k = rw (drop-one src at h, stopped_at (get_or src at 0) (drop (at + 1) src) (ne_eqb (get_or src at 0) 95 k))

  module _ (under : get_or src at 0 ≡ 95) where
    pub stopped_cut : (r : Option ℕ) → length src - at < 2 → r ≡ place_of (last end at) → r ≡ place_of (stopped end at (drop at src))
    unfolding stopped
    stopped_cut r short e = rw (drop_last src at h short, eq-eqb (get_or src at 0) 95 under) e

    pub stopped_lone : 2 ≤ length src - at → Some at ≡ place_of (stopped end at (drop at src))
    unfolding stopped place_of
    stopped_lone pair = rw (drop_two src at pair)

pub stopped_past : (src : List ℕ) (at : ℕ) (end : Bool) (r : Option ℕ) → length src ≤ at → r ≡ place_of (last end at)
    → r ≡ place_of (stopped end at (drop at src))
unfolding stopped
stopped_past src at end r h e = rw (drop_of_length-le src h) e

pub ruleset stops = (stopped_past, stopped_other, stopped_cut, stopped_lone)

-- after a digit: a digit, a `_` or another byte; after the `_` a digit, another byte or none
abbrev underscored : Base → Bool → ℕ → List ℕ → Digits
underscored base end n [] = last end n
underscored base end n (c ∷ xs) =
    if is_one base c then before c (digits_more base end (suc (suc n)) xs) else Digits.Read [] n

pub digits_more_byte : (base : Base) (end : Bool) (n b : ℕ) (xs : List ℕ) → digits_more base end n (b ∷ xs)
    ≡ (if is_one base b then before b (digits_more base end (suc n) xs)
    else if eqb b 95 then underscored base end n xs
    else Digits.Read [] n)
unfolding digits_more
digits_more_byte base end n b [] = refl
digits_more_byte base end n b (c ∷ xs) = either (eqb b 95) (λ u. rw u refl) (λ u. rw u refl)

-- no digit after a digit, or one more
abbrev stepped : Base → Bool → ℕ → List ℕ → Option ℕ → Option ℕ
stepped base end n xs None = place_of (stopped end n xs)
stepped base end n xs (Some w) = place_of (digits_more base end (n + w) (drop w xs))

digits_more_step : (base : Base) (end : Bool) (n : ℕ) (xs : List ℕ) → place_of (digits_more base end n xs)
    ≡ stepped base end n xs (digit_width base xs)
unfolding digit_width digits_more stopped
digits_more_step base end n [] = refl
digits_more_step base end n (b ∷ []) =
    either (is_one base b) (λ o. rw (o, add-one n) (place_of_before b (last end (suc n)))) (λ o. rw o refl)
digits_more_step base end n (b ∷ c ∷ xs) =
    either (is_one base b) (λ o. rw (o, add-one n) (place_of_before b (digits_more base end (suc n) (c ∷ xs))))
    (λ o. either (eqb b 95 && is_one base c)
    (λ j.
    let two : n + 2 ≡ suc (suc n) = omega arith in
    rw (o, j, two) (place_of_before c (digits_more base end (suc (suc n)) xs)))
    (λ j. rw (o, j) refl))

-- the digits from `at` on end where those from i on do
pub record Passing (base : Base) (end : Bool) (src : List ℕ) (at i : ℕ) : Type 0 where
  pub inside : i ≤ length src
  pub same : place_of (digits_more base end at (drop at src)) ≡ place_of (digits_more base end i (drop i src))

module _ (base : Base) (end : Bool) (src : List ℕ) (at : ℕ) where
  pub passing_first : at ≤ length src → Passing base end src at at
  passing_first h = record { inside = h; same = refl }

  module _ (i : ℕ) (p : Passing base end src at i) where
    pub passing_stop : (r : Option ℕ) → WidthAt base src i None → r ≡ place_of (stopped end i (drop i src))
        → r ≡ place_of (digits_more base end at (drop at src))
    passing_stop r step e = e ∙ sym (p.same ∙ digits_more_step base end i (drop i src) ∙ rw (← step.told))

    module _ (w : ℕ) (step : WidthAt base src i (Some w)) where
      pub passing_on : Passing base end src at (i + w)
      passing_on = record {
        inside = step.inside;
        same = p.same ∙ digits_more_step base end i (drop i src) ∙ rw (← step.told, drop-drop w i src);
      }

pub ruleset passing = (passing_first, passing_stop, passing_on)

module _ (src : List ℕ) (at : ℕ) (base : Base) (end : Bool) where
  pub digits_past : (r : Option ℕ) → length src ≤ at → r ≡ place_of (last end at) → r ≡ place_of (digits base end at (drop at src))
  unfolding digits
  digits_past r h e = rw (drop_of_length-le src h) e

  module _ (flag : Bool) (h : at < length src) (f : flag ≡ is_one base (get_or src at 0)) where
    pub digits_none : not flag ≡ true → Some at ≡ place_of (digits base end at (drop at src))
    unfolding digits place_of
    digits_none t = rw (drop-one src at h, ← f, not-true flag t)

    pub digits_some : (r : Option ℕ) → not flag ≡ false → r ≡ place_of (digits_more base end (at + 1) (drop (at + 1) src)) → r ≡ place_of (digits base end at (drop at src))
    unfolding digits
    digits_some r t e = rw (drop-one src at h, ← f, not-false flag t, place_of_before, ← add-one at) e

pub ruleset digits_ends = (digits_past, digits_none, digits_some)

module _ (src : List ℕ) (at : ℕ) (end : Bool) where
  pub signed_past : (r : Option ℕ) → length src ≤ at → r ≡ place_of (last end at) → r ≡ place_of (signed end at (drop at src))
  unfolding signed
  signed_past r h e = rw (drop_of_length-le src h) e

  module _ (flag : Bool) (h : at < length src) (f : flag ≡ is_sign (get_or src at 0)) where
    pub signed_sign : (r : Option ℕ) → flag ≡ true → r ≡ place_of (digits Base.Decimal end (at + 1) (drop (at + 1) src)) → r ≡ place_of (signed end at (drop at src))
    unfolding signed
    signed_sign r t e = rw (drop-one src at h, ← f, t, place_of_before, ← add-one at) e

    pub signed_bare : (r : Option ℕ) → flag ≡ false → r ≡ place_of (digits Base.Decimal end at (drop at src)) → r ≡ place_of (signed end at (drop at src))
    unfolding signed
    signed_bare r t e = rw (drop-one src at h, ← f, t, ← drop-one src at h) e

pub ruleset signed_ends = (signed_past, signed_sign, signed_bare)
