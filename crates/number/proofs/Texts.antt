-- With the end announced, what is read of every text, by its kind and its text: `number_text`. Assumes nothing.
--   read_text     the text that is read: a prefix and its digits; or whole digits, and what is read after them
--   number_text   it is what is read
use Rattle.std.specs.Prelude.{if◌then◌else◌, Some}
use Prim.Native.Nat.{ℕ, suc, ◌+◌, ◌-◌, ◌≤◌}
use mathlib.Core.Path.{◌≡◌, refl, ap, ◌∙◌}
use mathlib.Core.Bool.{true, not, ◌&&◌, false≢true}
use mathlib.Core.List.{List, [], ◌∷◌, ◌++◌}
use native.Mathlib.Omega.{arith}
use lib.ListN.{length, take, drop, length-append}
use lib.Seq.{length-take-le}
use Rattle.byte.specs.Words.{◌is◌}
use Rattle.byte.specs.Bytes.{is_digit}
use Rattle.byte.proofs.Tests.{choice}
use Rattle.number.specs.declared.Ahead.{Ahead}
use Rattle.number.specs.declared.Base.{Base}
use Rattle.number.specs.declared.Literal.{Literal}
use Rattle.number.specs.Numbers.{Reading, is_one, base_of, is_exponent, is_sign, last, digits, signed, closing}
use Rattle.number.specs.Numbers.{followed, power, exponent, fraction, digit_ahead, power_ahead, decided, marked}
use Rattle.number.specs.Numbers.{tail, decimal, prefixed, number_in, number_at}
use Rattle.number.specs.Code.{extent_at, place_of, extent_of, closing_extent}
use Rattle.number.specs.Manual.{Begins, starts_with, leading, following, has_power, signed_digits, power_text}
use Rattle.number.specs.Manual.{makes_float, is_named, prefixed_text, kind_of, exponent_text, ReadAs}
use Rattle.number.proofs.Values.{either, prefix, number_at_extent}
use Rattle.number.proofs.Runs.{place_of_before, extent_of_onto, extent_of_closing, followed_place}
use Rattle.number.proofs.Leading.{begins_append, leading_begins, digits_place}

-- after whole digits
unfoldable pub read_tail : List ℕ → List ℕ
read_tail [] = []
read_tail (b ∷ rest) =
    if b is "." then b ∷ (leading is_digit rest ++ exponent_text (following is_digit rest)) else power_text (b ∷ rest)

unfoldable pub read_text : List ℕ → List ℕ
read_text xs = if is_named (base_of xs) then prefixed_text xs else leading is_digit xs ++ read_tail (following is_digit xs)

-- a number of this kind is read of so many bytes from n on
abbrev Extends : Literal → ℕ → List ℕ → Reading → Type 0
Extends literal n text r = extent_of r ≡ extent_at literal (n + length text)

longer : (literal : Literal) (m n : ℕ) → m ≡ n → extent_at literal m ≡ extent_at literal n
longer literal m n e = rw e refl

signed_place : (n : ℕ) (xs : List ℕ) → place_of (signed true n xs) ≡ Some (n + length (signed_digits xs))
unfolding signed signed_digits is_one last place_of
signed_place n [] = ap Some (omega arith)
signed_place n (b ∷ xs) =
    either (is_sign b) (λ s. rw (s, place_of_before) (digits_place Base.Decimal (suc n) xs ∙ ap Some (omega arith)))
    (λ s. rw s (digits_place Base.Decimal n (b ∷ xs)))

power_extends : (n : ℕ) (xs : List ℕ) → Extends Literal.Float n (signed_digits xs) (power true n xs)
unfolding power closing_extent
power_extends n xs =
    extent_of_onto (101 ∷ []) _ ∙ extent_of_closing Literal.Float _
    ∙ ap (closing_extent Literal.Float) (signed_place n xs)

exponent_extends : (n : ℕ) (xs : List ℕ) → Extends Literal.Float n (exponent_text xs) (exponent true n xs)
unfolding exponent exponent_text closing last extent_of
exponent_extends n [] = longer Literal.Float _ _ (omega arith)
exponent_extends n (b ∷ xs) =
    either (is_exponent b) (λ m. rw m (power_extends (suc n) xs ∙ longer Literal.Float _ _ (omega arith)))
    (λ m. rw m (longer Literal.Float _ _ (omega arith)))

-- digits, then what stands after them
followed_extends : (literal : Literal) (next : ℕ → List ℕ → Reading) (text : List ℕ) (n : ℕ) (xs : List ℕ)
    → Extends literal (n + length (leading is_digit xs)) text
    (next (n + length (leading is_digit xs)) (following is_digit xs))
    → Extends literal n (leading is_digit xs ++ text)
    (followed (digits Base.Decimal true n xs) (λ (after : ℕ). next after (drop (after - n) xs)))
unfolding is_one following
followed_extends literal next text n xs h =
    let count : n + length (leading is_digit xs) - n ≡ length (leading is_digit xs) = omega arith in
    let size : n + length (leading is_digit xs) + length text ≡ n + length (leading is_digit xs ++ text) =
    rw (length-append (leading is_digit xs) text) (omega arith) in
    followed_place _ _ _ (digits_place Base.Decimal n xs) ∙ rw count (h ∙ longer literal _ _ size)

fraction_extends : (n : ℕ) (xs : List ℕ)
    → Extends Literal.Float n (leading is_digit xs ++ exponent_text (following is_digit xs)) (fraction true n xs)
unfolding fraction
fraction_extends n xs =
    followed_extends Literal.Float (exponent true) _ n xs (exponent_extends _ (following is_digit xs))

power_ahead_power : (xs : List ℕ) → power_ahead true xs ≡ (if has_power xs then Ahead.Yes else Ahead.No)
unfolding power_ahead digit_ahead has_power starts_with
power_ahead_power [] = refl
power_ahead_power (b ∷ []) = either (is_sign b) (λ s. rw s refl) (λ s. rw s refl)
power_ahead_power (b ∷ c ∷ xs) = either (is_sign b) (λ s. rw s refl) (λ s. rw s refl)

tail_extends : (n : ℕ) (xs : List ℕ)
    → Extends (if makes_float xs then Literal.Float else Literal.Integer) n (read_tail xs) (tail true n xs)
unfolding tail marked decided makes_float read_tail power_text closing last extent_of
tail_extends n [] = longer Literal.Integer _ _ (omega arith)
tail_extends n (b ∷ xs) =
    either (b is ".")
    (λ p. rw p (extent_of_onto (b ∷ []) _ ∙ fraction_extends (suc n) xs ∙ longer Literal.Float _ _ (omega arith)))
    (λ p. either (is_exponent b)
    (λ m. either (has_power xs)
    (λ h. rw (p, m, power_ahead_power xs, h) (power_extends (suc n) xs ∙ longer Literal.Float _ _ (omega arith)))
    (λ h. rw (p, m, power_ahead_power xs, h) (longer Literal.Integer _ _ (omega arith))))
    (λ m. rw (p, m) (longer Literal.Integer _ _ (omega arith))))

module _ (n : ℕ) (xs : List ℕ) where
  prefixed_extends : (base : Base) → 2 ≤ length xs
      → Extends Literal.Integer n (take 2 xs ++ leading (is_one base) (drop 2 xs)) (prefixed base true n xs)
  unfolding prefixed closing_extent
  prefixed_extends base h =
      let two : length (take 2 xs) ≡ 2 = length-take-le 2 xs h in
      let size : suc (suc n) + length (leading (is_one base) (drop 2 xs))
      ≡ n + length (take 2 xs ++ leading (is_one base) (drop 2 xs)) =
      rw (length-append (take 2 xs) (leading (is_one base) (drop 2 xs))) (omega arith) in
      extent_of_onto (take 2 xs) _ ∙ extent_of_closing Literal.Integer _
      ∙ ap (closing_extent Literal.Integer) (digits_place base (suc (suc n)) (drop 2 xs) ∙ ap Some size)

  named_two : (base : Base) → base_of xs ≡ base → is_named base ≡ true → 2 ≤ length xs
  unfolding is_named
  named_two base e named = (prefix base xs e (λ z. false≢true (rw z at named))).inside

  number_extends : Extends (kind_of xs) n (read_text xs) (number_at true n xs)
  unfolding number_at number_in decimal kind_of read_text prefixed_text is_named
  number_extends = go (base_of xs) refl
    where
      go : (base : Base) → base_of xs ≡ base
          → Extends
          (if not (is_named base) && makes_float (following is_digit xs) then Literal.Float else Literal.Integer) n
          (if is_named base then take 2 xs ++ leading (is_one base) (drop 2 xs)
          else leading is_digit xs ++ read_tail (following is_digit xs)) (number_in base true n xs)
      go Base.Binary e = prefixed_extends Base.Binary (named_two Base.Binary e refl)
      go Base.Octal e = prefixed_extends Base.Octal (named_two Base.Octal e refl)
      go Base.Hex e = prefixed_extends Base.Hex (named_two Base.Hex e refl)
      go Base.Decimal e = followed_extends _ (tail true) _ n xs (tail_extends _ (following is_digit xs))

-- each part stands at the head of what it is taken from
pub signed_digits_begins : (xs : List ℕ) → Begins xs (signed_digits xs)
unfolding signed_digits
signed_digits_begins [] = refl
signed_digits_begins (b ∷ xs) =
    choice (Begins (b ∷ xs)) (is_sign b) _ _ (λ _. ap (λ (text : List ℕ). b ∷ text) (leading_begins is_digit xs))
    (λ _. leading_begins is_digit (b ∷ xs))

pub power_text_begins : (xs : List ℕ) → Begins xs (power_text xs)
unfolding power_text
power_text_begins [] = refl
power_text_begins (b ∷ xs) =
    choice (Begins (b ∷ xs)) (is_exponent b && has_power xs) _ _
    (λ _. ap (λ (text : List ℕ). b ∷ text) (signed_digits_begins xs)) (λ _. refl)

exponent_text_begins : (xs : List ℕ) → Begins xs (exponent_text xs)
unfolding exponent_text
exponent_text_begins [] = refl
exponent_text_begins (b ∷ xs) =
    choice (Begins (b ∷ xs)) (is_exponent b) _ _
    (λ _. ap (λ (text : List ℕ). b ∷ text) (signed_digits_begins xs)) (λ _. refl)

read_tail_begins : (xs : List ℕ) → Begins xs (read_tail xs)
unfolding read_tail following
read_tail_begins [] = refl
read_tail_begins (b ∷ xs) =
    choice (Begins (b ∷ xs)) (b is ".") _ _
    (λ _. ap (λ (text : List ℕ). b ∷ text)
    (begins_append xs (leading is_digit xs) _ (leading_begins is_digit xs) (exponent_text_begins _)))
    (λ _. power_text_begins (b ∷ xs))

pub prefixed_text_begins : (xs : List ℕ) → is_named (base_of xs) ≡ true → Begins xs (prefixed_text xs)
unfolding prefixed_text
prefixed_text_begins xs named =
    let two : length (take 2 xs) ≡ 2 = length-take-le 2 xs (named_two 0 xs (base_of xs) refl named) in
    begins_append xs (take 2 xs) _ (rw two refl) (rw two (leading_begins (is_one (base_of xs)) (drop 2 xs)))

pub read_text_begins : (xs : List ℕ) → Begins xs (read_text xs)
unfolding read_text following
read_text_begins xs =
    choice (Begins xs) (is_named (base_of xs)) _ _ (λ named. prefixed_text_begins xs named)
    (λ _. begins_append xs (leading is_digit xs) _ (leading_begins is_digit xs) (read_tail_begins _))

pub number_text : (n : ℕ) (xs : List ℕ) → ReadAs (kind_of xs) n xs (read_text xs)
number_text n xs =
    let count : n + length (read_text xs) - n ≡ length (read_text xs) = omega arith in
    number_at_extent true n xs (kind_of xs) _ (number_extends n xs) ∙ rw (count, read_text_begins xs) refl
