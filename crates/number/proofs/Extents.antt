-- The ways through the code that finds where a number ends, each a law: what the tests and calls on it tell gives the contract.
-- In the source's order, a `ruleset` for each function or two. Assumes nothing.
use Rattle.std.specs.Prelude.{if◌then◌else◌, Option, Some, None}
use Prim.Native.Nat.{ℕ, suc, ◌+◌, ◌-◌, ◌≤◌, ◌<◌}
use mathlib.Core.Path.{◌≡◌, refl, sym, ◌∙◌}
use mathlib.Core.Bool.{Bool, true, false}
use mathlib.Core.List.{List, []}
use native.Mathlib.Omega.{arith}
use native.Mathlib.Numerals.{add-one}
use lib.ListN.{length, get_or, drop, length-drop, drop_of_length-le}
use lib.Seq.{drop-drop}
use borrow.Author.Tests.{eq-eqb, ne_eqb}
use Rattle.byte.specs.Bytes.{is_digit}
use Rattle.byte.proofs.Words.{drop-one}
use Rattle.number.specs.declared.Ahead.{Ahead}
use Rattle.number.specs.declared.Base.{Base}
use Rattle.number.specs.declared.Extent.{Extent}
use Rattle.number.specs.declared.Literal.{Literal}
use Rattle.number.specs.Numbers.{Digits, Reading, base_of, is_exponent, is_sign, last}
use Rattle.number.specs.Numbers.{digits, signed, closing, followed, power, exponent, fraction, digit_ahead}
use Rattle.number.specs.Numbers.{power_ahead, decided, marked, tail, decimal, prefixed, number_in, number_at}
use Rattle.number.specs.Code.{place_of, extent_of, closing_extent}
use Rattle.number.proofs.Values.{DigitsTaken, digits_taken, prefix}
use Rattle.number.proofs.Runs.{place_same, place_clash, extent_of_closing, extent_of_onto}
use Rattle.number.proofs.Runs.{followed_place, followed_undecided}

-- a number that ends where digits do: an arm of the match on their place
pub closing_arm : (literal : Literal) (p arm : Option ℕ) (r : Option Extent) → p ≡ arm → r ≡ closing_extent literal arm
    → r ≡ closing_extent literal p
closing_arm literal p arm r e h = rw e h

closing_told : (literal : Literal) (d : Digits) (p : Option ℕ) (r : Option Extent) → p ≡ place_of d → r ≡ closing_extent literal p → r ≡ extent_of (closing literal d)
closing_told literal d p r e f = rw (extent_of_closing literal d, ← e) f

module _ (src : List ℕ) (at : ℕ) (end : Bool) (r : Option Extent) where
  pub power_told : (p : Option ℕ) → p ≡ place_of (signed end at (drop at src)) → r ≡ closing_extent Literal.Float p → r ≡ extent_of (power end at (drop at src))
  unfolding power
  power_told p e f = rw extent_of_onto (closing_told Literal.Float (signed end at (drop at src)) p r e f)

  module _ (p : Option ℕ) (h : length src ≤ at) (e : p ≡ place_of (last end at)) where
    pub exponent_past : r ≡ closing_extent Literal.Float p → r ≡ extent_of (exponent end at (drop at src))
    unfolding exponent
    exponent_past f = rw (drop_of_length-le src h) (closing_told Literal.Float (last end at) p r e f)

    pub tail_past : r ≡ closing_extent Literal.Integer p → r ≡ extent_of (tail end at (drop at src))
    unfolding tail
    tail_past f = rw (drop_of_length-le src h) (closing_told Literal.Integer (last end at) p r e f)

module _ (src : List ℕ) (at : ℕ) (end : Bool) (h : at < length src) (mark : Bool) (f : mark ≡ is_exponent (get_or src at 0)) where
  pub exponent_some : (r : Option Extent) → mark ≡ true → r ≡ extent_of (power end (at + 1) (drop (at + 1) src)) → r ≡ extent_of (exponent end at (drop at src))
  unfolding exponent
  exponent_some r t e = rw (drop-one src at h, ← f, t, ← add-one at) e

  pub exponent_none : (r : Option Extent) → mark ≡ false → r ≡ closing_extent Literal.Float (Some at) → r ≡ extent_of (exponent end at (drop at src))
  unfolding exponent extent_of closing_extent
  exponent_none r t e = rw (drop-one src at h, ← f, t) e

  module _ (other : get_or src at 0 ≡ 46 → ⊥) where
    pub tail_mark : (r : Option Extent) → mark ≡ true → r ≡ extent_of (marked end at (drop (at + 1) src)) → r ≡ extent_of (tail end at (drop at src))
    unfolding tail
    tail_mark r t e = rw (drop-one src at h, ← f, t, ne_eqb (get_or src at 0) 46 other) e

    pub tail_none : (r : Option Extent) → mark ≡ false → r ≡ closing_extent Literal.Integer (Some at) → r ≡ extent_of (tail end at (drop at src))
    unfolding tail extent_of closing_extent
    tail_none r t e = rw (drop-one src at h, ← f, t, ne_eqb (get_or src at 0) 46 other) e

pub tail_point : (src : List ℕ) (at : ℕ) (end : Bool) (r : Option Extent) → at < length src → get_or src at 0 ≡ 46 → r ≡ extent_of (fraction end (at + 1) (drop (at + 1) src)) → r ≡ extent_of (tail end at (drop at src))
unfolding tail
tail_point src at end r h point e = rw (drop-one src at h, eq-eqb (get_or src at 0) 46 point, extent_of_onto, ← add-one at) e

pub ruleset exponents = (exponent_past, exponent_some, exponent_none)

pub ruleset tails = (tail_past, tail_point, tail_mark, tail_none)

-- digits end within the text
digits_end : (base : Base) (end : Bool) (n i : ℕ) (xs : List ℕ) (d : Digits) → DigitsTaken base end n xs d
    → Some i ≡ place_of d → (n ≤ i) × (i ≤ n + length xs)
unfolding place_of
digits_end base end n i xs (Digits.Read ds after) t e =
    let q : i ≡ after = place_same i after e in
    (omega (arith, t.place), omega (arith, t.place, t.inside))
digits_end base end n i xs Digits.Undecided t e = absurd (place_clash i e)

-- and what stands after them is the source from there on
module _ (src : List ℕ) (at : ℕ) (end : Bool) (p : Option ℕ) where
  module _ (inside : at ≤ length src) (i : ℕ) (here : p ≡ Some i) where
    digits_within : (base : Base) → p ≡ place_of (digits base end at (drop at src))
        → (at ≤ i) × (i ≤ at + length (drop at src))
    digits_within base e =
        digits_end base end at i (drop at src) _ (digits_taken base end at (drop at src)) (sym here ∙ e)

    pub digits_inside : (base : Base) → p ≡ place_of (digits base end at (drop at src)) → i ≤ length src
    digits_inside base e = omega (arith, (digits_within base e).1, length-drop at src)

    module _ (r : Option Extent) (e : p ≡ place_of (digits Base.Decimal end at (drop at src))) where
      followed_at : (next : ℕ → List ℕ → Reading) → r ≡ extent_of (next i (drop i src))
          → r ≡ extent_of (followed (digits Base.Decimal end at (drop at src))
          (λ (after : ℕ). next after (drop (after - at) (drop at src))))
      followed_at next f =
          let place : at + (i - at) ≡ i = omega (arith, (digits_within Base.Decimal e).0) in
          let behind = followed_place _ (λ (after : ℕ). next after (drop (after - at) (drop at src))) i (sym e ∙ here) in
          rw (behind, drop-drop (i - at) at src, place) f

      pub fraction_at : r ≡ extent_of (exponent end i (drop i src)) → r ≡ extent_of (fraction end at (drop at src))
      unfolding fraction
      fraction_at f = followed_at (exponent end) f

      pub decimal_at : r ≡ extent_of (tail end i (drop i src)) → r ≡ extent_of (decimal end at (drop at src))
      unfolding decimal
      decimal_at f = followed_at (tail end) f

  module _ (cut : p ≡ None) (e : p ≡ place_of (digits Base.Decimal end at (drop at src))) where
    pub fraction_undecided : None ≡ extent_of (fraction end at (drop at src))
    unfolding fraction
    fraction_undecided = followed_undecided _ _ (sym e ∙ cut)

    pub decimal_undecided : None ≡ extent_of (decimal end at (drop at src))
    unfolding decimal
    decimal_undecided = followed_undecided _ _ (sym e ∙ cut)

pub ruleset fractions = (digits_inside, fraction_at, fraction_undecided)

pub ruleset decimals = (digits_inside, decimal_at, decimal_undecided)

-- the looks ahead
module _ (src : List ℕ) (at : ℕ) (end : Bool) where
  pub ahead_past : (arm : Bool) (r : Ahead) → length src ≤ at → end ≡ arm → r ≡ digit_ahead arm []
      → r ≡ digit_ahead end (drop at src)
  ahead_past arm r h e f = rw (drop_of_length-le src h, e) f

  pub power_past : (r : Ahead) → length src ≤ at → r ≡ digit_ahead end (drop at src) → r ≡ power_ahead end (drop at src)
  unfolding power_ahead digit_ahead
  power_past r h e = rw (drop_of_length-le src h) (rw (drop_of_length-le src h) at e)

  module _ (h : at < length src) (flag : Bool) where
    pub ahead_byte : (arm : Bool) (r : Ahead) → flag ≡ is_digit (get_or src at 0) → flag ≡ arm
        → r ≡ (if arm then Ahead.Yes else Ahead.No) → r ≡ digit_ahead end (drop at src)
    unfolding digit_ahead
    ahead_byte arm r f t e = rw (drop-one src at h, ← f, t) e

    module _ (r : Ahead) (f : flag ≡ is_sign (get_or src at 0)) where
      pub power_sign : flag ≡ true → r ≡ digit_ahead end (drop (at + 1) src) → r ≡ power_ahead end (drop at src)
      unfolding power_ahead
      power_sign t e = rw (drop-one src at h, ← f, t) e

      pub power_bare : flag ≡ false → r ≡ digit_ahead end (drop at src) → r ≡ power_ahead end (drop at src)
      unfolding power_ahead
      power_bare t e = rw (drop-one src at h, ← f, t, ← drop-one src at h) e

pub ruleset aheads = (ahead_past, ahead_byte, power_past, power_sign, power_bare)

-- an `e` after whole digits
module _ (src : List ℕ) (at : ℕ) (end : Bool) (ahead : Ahead) (f : ahead ≡ power_ahead end (drop (at + 1) src)) where
  pub marked_yes : (r : Option Extent) → ahead ≡ Ahead.Yes → r ≡ extent_of (power end (at + 1) (drop (at + 1) src))
      → r ≡ extent_of (marked end at (drop (at + 1) src))
  unfolding marked decided
  marked_yes r t e = rw (← f, t, ← add-one at) e

  pub marked_no : (r : Option Extent) → ahead ≡ Ahead.No → r ≡ closing_extent Literal.Integer (Some at)
      → r ≡ extent_of (marked end at (drop (at + 1) src))
  unfolding marked decided extent_of closing_extent
  marked_no r t e = rw (← f, t) e

  pub marked_undecided : ahead ≡ Ahead.Undecided → None ≡ extent_of (marked end at (drop (at + 1) src))
  unfolding marked decided extent_of
  marked_undecided t = rw (← f, t) refl

pub ruleset marks = (marked_yes, marked_no, marked_undecided)

-- a base that is named
module _ (src : List ℕ) (at : ℕ) (end : Bool) (r : Option Extent) where
  pub prefixed_told : (base : Base) (p : Option ℕ) → p ≡ place_of (digits base end (at + 2) (drop (at + 2) src)) → r ≡ closing_extent Literal.Integer p → r ≡ extent_of (prefixed base end at (drop at src))
  unfolding prefixed
  prefixed_told base p e f =
      let two : at + 2 ≡ suc (suc at) = omega arith in
      rw (extent_of_onto, drop-drop 2 at src, ← two) (closing_told Literal.Integer (digits base end (at + 2) (drop (at + 2) src)) p r e f)

  module _ (base : Base) (e : base ≡ base_of (drop at src)) where
    pub number_decimal : base ≡ Base.Decimal → r ≡ extent_of (decimal end at (drop at src)) → r ≡ extent_of (number_at end at (drop at src))
    unfolding number_at number_in
    number_decimal f h = rw (← e, f) h

    pub number_prefixed : (base ≡ Base.Decimal → ⊥) → r ≡ extent_of (prefixed base end at (drop at src))
        → r ≡ extent_of (number_at end at (drop at src))
    unfolding number_at number_in prefixed
    number_prefixed other h = rw (← e) (named base other h)
      where
        named : (base : Base) → (base ≡ Base.Decimal → ⊥) → r ≡ extent_of (prefixed base end at (drop at src))
            → r ≡ extent_of (number_in base end at (drop at src))
        named Base.Binary other h = h
        named Base.Octal other h = h
        named Base.Decimal other h = absurd (other refl)
        named Base.Hex other h = h

module _ (src : List ℕ) (at : ℕ) (inside : at ≤ length src) (base : Base) (e : base ≡ base_of (drop at src)) where
  pub prefix_inside : (base ≡ Base.Decimal → ⊥) → at + 2 ≤ length src
  prefix_inside other =
      let size : length (drop at src) ≡ length src - at = length-drop at src in
      omega (arith, (prefix base (drop at src) (sym e) other).inside)

-- the same of each base that is named
module _ (src : List ℕ) (at : ℕ) (end : Bool) (r : Option Extent) (base : Base) (e : base ≡ base_of (drop at src)) where
  number_named : (arm : Base) → (arm ≡ Base.Decimal → ⊥) → base ≡ arm → r ≡ extent_of (prefixed arm end at (drop at src))
      → r ≡ extent_of (number_at end at (drop at src))
  number_named arm other f h = number_prefixed src at end r base e (λ z. other (sym f ∙ z)) (rw f h)

  pub number_binary : base ≡ Base.Binary → r ≡ extent_of (prefixed Base.Binary end at (drop at src))
      → r ≡ extent_of (number_at end at (drop at src))
  number_binary f h = number_named Base.Binary (λ z. cc) f h

  pub number_octal : base ≡ Base.Octal → r ≡ extent_of (prefixed Base.Octal end at (drop at src))
      → r ≡ extent_of (number_at end at (drop at src))
  number_octal f h = number_named Base.Octal (λ z. cc) f h

  pub number_hex : base ≡ Base.Hex → r ≡ extent_of (prefixed Base.Hex end at (drop at src))
      → r ≡ extent_of (number_at end at (drop at src))
  number_hex f h = number_named Base.Hex (λ z. cc) f h

module _ (src : List ℕ) (at : ℕ) (inside : at ≤ length src) (base : Base) (e : base ≡ base_of (drop at src)) where
  pub binary_inside : base ≡ Base.Binary → at + 2 ≤ length src
  binary_inside f = prefix_inside src at inside base e (λ z. let y : Base.Binary ≡ Base.Decimal = sym f ∙ z in cc)

  pub octal_inside : base ≡ Base.Octal → at + 2 ≤ length src
  octal_inside f = prefix_inside src at inside base e (λ z. let y : Base.Octal ≡ Base.Decimal = sym f ∙ z in cc)

  pub hex_inside : base ≡ Base.Hex → at + 2 ≤ length src
  hex_inside f = prefix_inside src at inside base e (λ z. let y : Base.Hex ≡ Base.Decimal = sym f ∙ z in cc)

pub ruleset numbers =
    (number_decimal, number_binary, number_octal, number_hex, binary_inside, octal_inside, hex_inside)
