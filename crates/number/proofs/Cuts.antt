-- A number that is cut out of its text reads the same alone. Assumes nothing.
--   leading_cut                                                                 digits at the head of a text, read again, are all of them
--   signed_digits_cut, exponent_text_cut, power_cut, point_cut, read_tail_cut   so are the parts after whole digits
--   has_power_cut, power_float, makes_float_cut                                 what makes a float is told of such a part as of the text
--   exponent_text_stops, power_stops, read_tail_stops                           such a part does not carry digits on
--   base_of_take                                                                where no base is named, the text's head names none
--   read_text_cut                                                               the text that is read: the same base, the same kind, and it is read whole
--   number_at_ended                                                             a number that is read with more to come is read with the end announced
--   number_read                                                                 a number's bytes are the text that is read
--   number_cut                                                                  they are read as the same number alone, from any place on
--   number_spelled                                                              and its value is these bytes, spelled
use Prim.Native.Nat.{ℕ, zero, suc, ◌+◌, ◌-◌}
use mathlib.Core.Path.{◌≡◌, refl, sym, ap, ◌∙◌}
use mathlib.Core.Bool.{Bool, true, false, ◌&&◌, false≢true}
use mathlib.Core.List.{List, [], ◌∷◌, ◌++◌, append-nil}
use native.Mathlib.Omega.{arith}
use lib.ListN.{length, take}
use borrow.Author.Tests.{eqb-true}
use Rattle.byte.specs.Words.{◌is◌}
use Rattle.byte.specs.Bytes.{is_digit}
use Rattle.byte.proofs.Tests.{&&-left, choice}
use Rattle.number.specs.declared.Base.{Base}
use Rattle.number.specs.declared.Literal.{Literal}
use Rattle.number.specs.Numbers.{Reading, is_one, base_of, is_exponent, is_sign, number_at, spelled}
use Rattle.number.specs.Manual.{starts_with, leading_more, leading, following, has_power, signed_digits, power_text}
use Rattle.number.specs.Manual.{makes_float, is_named, prefixed_text, kind_of, exponent_text}
use Rattle.number.proofs.Values.{either, number_at_value}
use Rattle.number.proofs.Waiting.{number_waits}
use Rattle.number.proofs.Leading.{leading_lnum, leading_run, leading_none, leading_whole, leading_maybe}
use Rattle.number.proofs.Texts.{read_tail, read_text, read_text_begins, number_text}
use Rattle.number.proofs.Covers.{mark_facts}

-- digits at the head, alone
leading_cut : (digit : ℕ → Bool) (xs : List ℕ) → leading digit (leading digit xs) ≡ leading digit xs
unfolding starts_with leading_more
leading_cut digit xs =
    either (starts_with digit xs)
    (λ s. rw append-nil at (leading_run digit (leading digit xs) [] (leading_lnum digit xs s)))
    (λ s. let (none, _) = leading_none digit xs s in rw none (leading_none digit [] refl).0)

leading_starts : (xs : List ℕ) → starts_with is_digit (leading is_digit xs) ≡ starts_with is_digit xs
unfolding starts_with leading leading_more
leading_starts [] = refl
leading_starts (b ∷ xs) = either (is_digit b) (λ d. rw (d, d) refl) (λ d. rw d refl)

-- digits without a sign before them
signed_digits_digits : (b : ℕ) (xs : List ℕ) → is_sign b ≡ false
    → signed_digits (leading is_digit (b ∷ xs)) ≡ leading is_digit (leading is_digit (b ∷ xs))
unfolding starts_with leading leading_more signed_digits
signed_digits_digits b xs s = either (is_digit b) (λ d. rw (d, s) refl) (λ d. rw d refl)

signed_digits_cut : (xs : List ℕ) → signed_digits (signed_digits xs) ≡ signed_digits xs
unfolding signed_digits
signed_digits_cut [] = refl
signed_digits_cut (b ∷ xs) =
    either (is_sign b) (λ s. rw (s, s) (ap (λ (text : List ℕ). b ∷ text) (leading_cut is_digit xs)))
    (λ s. rw s (signed_digits_digits b xs s ∙ leading_cut is_digit (b ∷ xs)))

has_power_cut : (xs : List ℕ) → has_power (signed_digits xs) ≡ has_power xs
unfolding has_power signed_digits starts_with leading leading_more
has_power_cut [] = refl
has_power_cut (b ∷ xs) =
    either (is_sign b) (λ s. rw (s, s) (leading_starts xs))
    (λ s. either (is_digit b) (λ d. rw (s, d, s) d) (λ d. rw (s, d) refl))

exponent_text_cut : (xs : List ℕ) → exponent_text (exponent_text xs) ≡ exponent_text xs
unfolding exponent_text
exponent_text_cut [] = refl
exponent_text_cut (b ∷ xs) =
    either (is_exponent b) (λ m. rw (m, m) (ap (λ (text : List ℕ). b ∷ text) (signed_digits_cut xs))) (λ m. rw m refl)

exponent_text_stops : (xs : List ℕ) → leading_more is_digit (exponent_text xs) ≡ []
unfolding exponent_text leading_more
exponent_text_stops [] = refl
exponent_text_stops (b ∷ xs) =
    either (is_exponent b) (λ m. rw m (mark_facts b (signed_digits xs) m).0) (λ m. rw m refl)

-- an exponent after whole digits
module _ (b : ℕ) (xs : List ℕ) (h : (is_exponent b && has_power xs) ≡ true) where
  power_cut : read_tail (b ∷ signed_digits xs) ≡ b ∷ signed_digits xs
  unfolding read_tail power_text
  power_cut =
      let (_, _, point) = mark_facts b xs (&&-left (is_exponent b) _ h) in
      rw (point, has_power_cut xs, h, signed_digits_cut xs) refl

  power_float : makes_float (b ∷ signed_digits xs) ≡ true
  unfolding makes_float
  power_float =
      let (_, _, point) = mark_facts b xs (&&-left (is_exponent b) _ h) in
      rw (point, has_power_cut xs) h

  power_stops : leading_more is_digit (b ∷ signed_digits xs) ≡ []
  power_stops = (mark_facts b (signed_digits xs) (&&-left (is_exponent b) _ h)).0

-- what is read after whole digits: a point with what follows it, an exponent or nothing
point_cut : (b : ℕ) (xs : List ℕ) → b is "." ≡ true → read_tail (read_tail (b ∷ xs)) ≡ read_tail (b ∷ xs)
unfolding read_tail
point_cut b xs p =
    let after : List ℕ = following is_digit xs in
    let (all, rest) =
    leading_whole (leading is_digit xs) (exponent_text after) (leading_maybe xs) (exponent_text_stops after) in
    rw (p, p, all, rest, exponent_text_cut after) refl

read_tail_cut : (xs : List ℕ) → read_tail (read_tail xs) ≡ read_tail xs
unfolding read_tail power_text
read_tail_cut [] = refl
read_tail_cut (b ∷ xs) =
    either (b is ".") (λ p. point_cut b xs p)
    (λ p. either (is_exponent b && has_power xs) (λ h. rw (p, h) (power_cut b xs h)) (λ h. rw (p, h) refl))

makes_float_cut : (xs : List ℕ) → makes_float (read_tail xs) ≡ makes_float xs
unfolding read_tail power_text makes_float
makes_float_cut [] = refl
makes_float_cut (b ∷ xs) =
    either (b is ".") (λ p. rw (p, p) refl)
    (λ p. either (is_exponent b && has_power xs) (λ h. rw (p, h) (power_float b xs h)) (λ h. rw (p, h) refl))

read_tail_stops : (xs : List ℕ) → leading_more is_digit (read_tail xs) ≡ []
unfolding read_tail power_text leading_more is_digit
read_tail_stops [] = refl
read_tail_stops (b ∷ xs) =
    either (b is ".") (λ p. rw (eqb-true b 46 p) refl)
    (λ p. either (is_exponent b && has_power xs) (λ h. rw (p, h) (power_stops b xs h)) (λ h. rw (p, h) refl))

-- a text that is read of xs, beside xs
record Cut (xs text : List ℕ) : Type 0 where
  base : base_of text ≡ base_of xs
  kind : kind_of text ≡ kind_of xs
  same : read_text text ≡ text

-- where no base is named
is_named_none : (base : Base) → is_named base ≡ false → base ≡ Base.Decimal
unfolding is_named
is_named_none Base.Binary h = absurd (false≢true (sym h))
is_named_none Base.Octal h = absurd (false≢true (sym h))
is_named_none Base.Hex h = absurd (false≢true (sym h))
is_named_none Base.Decimal h = refl

base_of_take : (n : ℕ) (xs : List ℕ) → is_named (base_of xs) ≡ false → base_of (take n xs) ≡ base_of xs
unfolding base_of
base_of_take zero xs h = sym (is_named_none (base_of xs) h)
base_of_take (suc n) [] h = refl
base_of_take (suc zero) (b ∷ xs) h = sym (is_named_none (base_of (b ∷ xs)) h)
base_of_take (suc (suc n)) (b ∷ []) h = refl
base_of_take (suc (suc n)) (b ∷ c ∷ xs) h = refl

prefixed_text_cut : (xs : List ℕ) → is_named (base_of xs) ≡ true → Cut xs (prefixed_text xs)
unfolding prefixed_text base_of is_named kind_of read_text
prefixed_text_cut [] named = absurd (false≢true named)
prefixed_text_cut (b ∷ []) named = absurd (false≢true named)
prefixed_text_cut (b ∷ c ∷ xs) named =
    let digits = leading_cut (is_one (base_of (b ∷ c ∷ xs))) xs in
    record { base = refl; kind = rw named refl; same = rw (named, digits) refl }

decimal_cut : (xs : List ℕ) → is_named (base_of xs) ≡ false
    → Cut xs (leading is_digit xs ++ read_tail (following is_digit xs))
unfolding kind_of read_text
decimal_cut xs unnamed =
    let after : List ℕ = following is_digit xs in
    let text : List ℕ = leading is_digit xs ++ read_tail after in
    let (all, rest) = leading_whole (leading is_digit xs) (read_tail after) (leading_maybe xs) (read_tail_stops after) in
    let begins : take (length text) xs ≡ text = rw unnamed at (read_text_begins xs) in
    let base : base_of text ≡ base_of xs = rw begins at (base_of_take (length text) xs unnamed) in
    record {
      base = base;
      kind = rw (base, unnamed, rest, makes_float_cut after) refl;
      same = rw (base, unnamed, all, rest, read_tail_cut after) refl;
    }

read_text_cut : (xs : List ℕ) → Cut xs (read_text xs)
unfolding read_text
read_text_cut xs =
    choice (Cut xs) (is_named (base_of xs)) _ _ (λ named. prefixed_text_cut xs named)
    (λ unnamed. decimal_cut xs unnamed)

-- with the end announced the same number is read
number_clash : (literal : Literal) (value : List ℕ) (after : ℕ) → Reading.Number literal value after ≡ Reading.Wait → ⊥
number_clash literal value after e =
    let z : Reading.Number literal value after ≡ Reading.Wait = e in
    let y : ◌≡◌ {A = ℕ} 0 1 = cc in
    omega arith

number_at_ended : (end : Bool) (n : ℕ) (xs : List ℕ) (literal : Literal) (value : List ℕ) (after : ℕ)
    → number_at end n xs ≡ Reading.Number literal value after → number_at true n xs ≡ Reading.Number literal value after
number_at_ended true n xs literal value after e = e
number_at_ended false n xs literal value after e =
    let told : number_at false n xs ≡ Reading.Wait → ⊥ = λ w. number_clash literal value after (sym e ∙ w) in
    rw append-nil at ((number_waits n xs).settled told []) ∙ e

module _ (end : Bool) (n : ℕ) (xs : List ℕ) (literal : Literal) (value : List ℕ) (after : ℕ)
    (e : number_at end n xs ≡ Reading.Number literal value after) where
  -- its bytes are the text that is read, and its kind is that text's
  number_read : Cut xs (take (after - n) xs) × (kind_of xs ≡ literal) × (length (take (after - n) xs) ≡ after - n)
  number_read =
      let read : Reading.Number (kind_of xs) (spelled (base_of xs) (read_text xs)) (n + length (read_text xs))
      ≡ Reading.Number literal value after = sym (number_text n xs) ∙ number_at_ended end n xs literal value after e in
      let place : n + length (read_text xs) ≡ after = cc in
      let kind : kind_of xs ≡ literal = cc in
      let count : length (read_text xs) ≡ after - n = omega arith in
      let text : read_text xs ≡ take (after - n) xs = sym (rw count at (read_text_begins xs)) in
      (rw text at (read_text_cut xs), kind, rw text at count)

  pub number_spelled : value ≡ spelled (base_of (take (after - n) xs)) (take (after - n) xs)
  number_spelled =
      let (cut, _, _) = number_read in
      rw cut.base (number_at_value end n xs literal value after e)

  pub number_cut : (k : ℕ) → number_at true k (take (after - n) xs) ≡ Reading.Number literal value (k + (after - n))
  number_cut k =
      let (cut, kind, size) = number_read in
      number_text k (take (after - n) xs) ∙ rw (cut.same, cut.kind, kind, size, ← number_spelled) refl
