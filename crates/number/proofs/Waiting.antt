-- Demand 3 for numbers: a reading with more announced waits exactly when two continuations of the part get different
-- answers, and what it tells is every continuation's answer. The two are always the end and a `0`: with the 0 all that
-- was read is taken.
--   Fits                            an answer with more announced beside the whole text's: the same for every
--                                   continuation, and it ends before the part does; or, where it waits, with a 0 after
--                                   the part a place after it
--   fits_if, fits_along, fits_map   a choice by a byte that is there; other words; bytes before it
--   number_at_fits                  of every number
--   number_waits   demand 3
-- Assumes nothing.
use Rattle.std.specs.Prelude.{if◌then◌else◌, Option, Some, None}
use Prim.Native.Nat.{ℕ, suc, ◌+◌, ◌-◌, ◌≤◌, ◌<◌}
use mathlib.Core.Path.{◌≡◌, refl, sym, ap, subst, ◌∙◌}
use mathlib.Core.Bool.{Bool, true, false, ◌&&◌}
use mathlib.Core.List.{List, [], ◌∷◌, ◌++◌, append-nil}
use native.Mathlib.Omega.{arith}
use lib.Dec.{eqb}
use lib.ListN.{length, drop, length-drop, length-append, drop_of_length-le}
use lib.Seq.{drop-append-le}
use borrow.Author.Tests.{eqb-true}
use Rattle.byte.specs.Words.{every}
use Rattle.byte.specs.Bytes.{is_digit, is_octal, is_hex}
use Rattle.byte.specs.Demand.{Waits}
use Rattle.byte.proofs.Demand.{waits}
use Rattle.number.specs.declared.Base.{Base}
use Rattle.number.specs.declared.Literal.{Literal}
use Rattle.number.specs.Numbers.{Digits, Reading, is_one, base_named, base_of, is_exponent, is_sign, before, last, digits_more}
use Rattle.number.specs.Numbers.{digits, signed, onto, closing, followed, power, exponent, fraction, digit_ahead}
use Rattle.number.specs.Numbers.{power_ahead, decided, marked, tail, decimal, prefixed, number_in, number_at}
use Rattle.number.specs.Code.{place_of}
use Rattle.number.proofs.Values.{DigitsTaken, NumberTaken, digits_taken, either, number_at_taken}
use Rattle.number.proofs.Runs.{place_same, place_clash, place_of_before, digits_more_byte}

-- the part's continuation that takes the reading on
abbrev zero_byte : List ℕ
zero_byte = 48 ∷ []

-- where a number ends
abbrev place_in : Reading → Option ℕ
place_in (Reading.Number literal value after) = Some after
place_in Reading.Wait = None

pub data Fits {A : Type 0} (place : A → Option ℕ) (whole : List ℕ → A) (full : ℕ) (a : A) : Type 0 where
  settled : (after : ℕ) → place a ≡ Some after → after + 1 < full → ((rest : List ℕ) → whole rest ≡ a)
      → Fits place whole full a
  cut : place a ≡ None → place (whole zero_byte) ≡ Some full → Fits place whole full a

-- the same of a reading at n, between a part and that part with more after it
abbrev pub Stays : {A : Type 0} (place : A → Option ℕ) → (Bool → ℕ → List ℕ → A) → ℕ → ℕ → List ℕ → Type 0
Stays place look n full xs = Fits place (λ (rest : List ℕ). look true n (xs ++ rest)) full (look false n xs)

module _ {A : Type 0} {place : A → Option ℕ} {full : ℕ} where
  -- a choice by a byte that is there
  fits_if : (t : Bool) {a c : A} {f g : List ℕ → A} → Fits place f full a → Fits place g full c
      → Fits place (λ (rest : List ℕ). if t then f rest else g rest) full (if t then a else c)
  fits_if true some none = some
  fits_if false some none = none

  -- the same by other words
  fits_along : {a : A} (f g : List ℕ → A) → ((rest : List ℕ) → f rest ≡ g rest) → Fits place g full a
      → Fits place f full a
  fits_along f g same (settled after p s h) = settled after p s (λ rest. same rest ∙ h rest)
  fits_along f g same (cut p q) = cut p (rw (same zero_byte) q)

  -- a reading that waits ends after the 0
  fits_waits : {a : A} {f : List ℕ → A} → Fits place f full a → place a ≡ None
      → place (f zero_byte) ≡ Some full
  fits_waits (settled after p s h) e = absurd (place_clash after (sym p ∙ e))
  fits_waits (cut p q) e = q

  -- what leaves the place of every answer
  fits_map : {B : Type 0} {there : B → Option ℕ} (f : A → B) → ((a : A) → there (f a) ≡ place a)
      → {a : A} {whole : List ℕ → A} → Fits place whole full a → Fits there (λ (rest : List ℕ). f (whole rest)) full (f a)
  fits_map f same (settled after p s h) = settled after (same _ ∙ p) s (λ rest. ap f (h rest))
  fits_map f same (cut p q) = cut (same _ ∙ p) (same _ ∙ q)

onto_place : (bs : List ℕ) (r : Reading) → place_in (onto bs r) ≡ place_in r
unfolding onto
onto_place bs (Reading.Number literal value after) = refl
onto_place bs Reading.Wait = refl

closing_place : (literal : Literal) (d : Digits) → place_in (closing literal d) ≡ place_of d
unfolding closing place_of
closing_place literal (Digits.Read ds after) = refl
closing_place literal Digits.Undecided = refl

-- a 0 is a digit of every base
zero_one : (base : Base) → is_one base 48 ≡ true
unfolding is_one is_digit is_octal is_hex
zero_one Base.Binary = refl
zero_one Base.Octal = refl
zero_one Base.Decimal = refl
zero_one Base.Hex = refl

module _ (base : Base) where
  digits_more_fits : (n full : ℕ) (xs : List ℕ) → full ≡ n + length xs + 1 → Stays place_of (digits_more base) n full xs
  unfolding digits_more last before place_of
  digits_more_fits n full [] e = let p : full ≡ suc n = omega arith in cut refl (rw (p, zero_one base) refl)
  digits_more_fits n full (b ∷ []) e =
      let p : full ≡ suc (suc n) = omega arith in
      fits_along _ _ (λ rest. digits_more_byte base true n b rest)
      (fits_if (is_one base b) (fits_map (before b) (place_of_before b) (digits_more_fits (suc n) full [] (omega arith)))
      (fits_if (eqb b 95) (cut refl (rw (p, zero_one base) refl)) (settled n refl (omega arith) (λ rest. refl))))
  digits_more_fits n full (b ∷ c ∷ xs) e =
      fits_if (is_one base b)
      (fits_map (before b) (place_of_before b) (digits_more_fits (suc n) full (c ∷ xs) (omega arith)))
      (fits_if (eqb b 95 && is_one base c)
      (fits_map (before c) (place_of_before c) (digits_more_fits (suc (suc n)) full xs (omega arith)))
      (settled n refl (omega arith) (λ rest. refl)))

  digits_fits : (n full : ℕ) (xs : List ℕ) → full ≡ n + length xs + 1 → Stays place_of (digits base) n full xs
  unfolding digits digits_more last before place_of
  digits_fits n full [] e = let p : full ≡ suc n = omega arith in cut refl (rw (p, zero_one base) refl)
  digits_fits n full (b ∷ xs) e =
      fits_if (is_one base b) (fits_map (before b) (place_of_before b) (digits_more_fits (suc n) full xs (omega arith)))
      (settled n refl (omega arith) (λ rest. refl))

signed-fits : (n full : ℕ) (xs : List ℕ) → full ≡ n + length xs + 1 → Stays place_of signed n full xs
unfolding signed is_sign digits digits_more last before is_one is_digit place_of
signed-fits n full [] e = let p : full ≡ suc n = omega arith in cut refl (rw p refl)
signed-fits n full (b ∷ xs) e =
    fits_if (is_sign b) (fits_map (before b) (place_of_before b) (digits_fits Base.Decimal (suc n) full xs (omega arith)))
    (digits_fits Base.Decimal n full (b ∷ xs) e)

power_fits : (n full : ℕ) (xs : List ℕ) → full ≡ n + length xs + 1 → Stays place_in power n full xs
unfolding power
power_fits n full xs e =
    fits_map (onto (101 ∷ [])) (onto_place (101 ∷ []))
    (fits_map (closing Literal.Float) (closing_place Literal.Float) (signed-fits n full xs e))

-- digits, and what is read after them: told for a text that is not empty, since digits are not settled at a part's end
abbrev Fitting : (Bool → ℕ → List ℕ → Reading) → Type 0
Fitting next = (n full b : ℕ) (xs : List ℕ) → full ≡ n + length xs + 2 → Stays place_in next n full (b ∷ xs)

abbrev followed_by : (Bool → ℕ → List ℕ → Reading) → Bool → ℕ → List ℕ → Digits → Reading
followed_by next end n xs d = followed d (λ (after : ℕ). next end after (drop (after - n) xs))

module _ (next : Bool → ℕ → List ℕ → Reading) (each : Fitting next) (closed : (n : ℕ) → place_in (next true n []) ≡ Some n)
    (n full : ℕ) (xs : List ℕ) (e : full ≡ n + length xs + 1) where
  fitting_drop : (m : ℕ) (ys : List ℕ) → m + 1 < full → full ≡ m + length ys + 1 → Stays place_in next m full ys
  fitting_drop m [] h k = absurd (omega arith)
  fitting_drop m (b ∷ ys) h k = each m full b ys (omega arith)

  followed_cut : (d : Digits) → place_of d ≡ Some full
      → place_in (followed_by next true n (xs ++ zero_byte) d) ≡ Some full
  unfolding followed place_of
  followed_cut (Digits.Read ds after) p =
      let size : length (xs ++ zero_byte) ≤ full - n = rw (length-append xs zero_byte) (omega arith) in
      rw (place_same after full p, drop_of_length-le (xs ++ zero_byte) size) (onto_place ds _ ∙ closed full)
  followed_cut Digits.Undecided p = absurd (place_clash full (sym p))

  followed_fits : (d : Digits) (whole : List ℕ → Digits) → DigitsTaken Base.Decimal false n xs d
      → Fits place_of whole full d → Fits place_in (λ (rest : List ℕ). followed_by next true n (xs ++ rest) (whole rest)) full
      (followed_by next false n xs d)
  unfolding followed place_of
  followed_fits Digits.Undecided whole t (settled after p s h) = absurd (place_clash after (sym p))
  followed_fits Digits.Undecided whole t (cut p q) = cut refl (followed_cut (whole zero_byte) q)
  followed_fits (Digits.Read ds after) whole t (cut p q) = absurd (place_clash after p)
  followed_fits (Digits.Read ds after) whole t (settled place p s h) =
      let inside : after - n ≤ length xs = omega (arith, t.place, t.inside) in
      let size : length (drop (after - n) xs) ≡ length xs - (after - n) = length-drop (after - n) xs in
      let more : full ≡ after + length (drop (after - n) xs) + 1 = omega (arith, t.place, t.inside) in
      let short : after + 1 < full = omega (arith, place_same after place p) in
      fits_along _ (λ (rest : List ℕ). onto ds (next true after (drop (after - n) xs ++ rest)))
      (λ rest. rw (h rest, drop-append-le (after - n) xs rest inside))
      (fits_map (onto ds) (onto_place ds) (fitting_drop after (drop (after - n) xs) short more))

exponent_fits : Fitting exponent
unfolding exponent
exponent_fits n full b xs e =
    fits_if (is_exponent b) (power_fits (suc n) full xs (omega arith)) (settled n refl (omega arith) (λ rest. refl))

fraction_fits : (n full : ℕ) (xs : List ℕ) → full ≡ n + length xs + 1 → Stays place_in fraction n full xs
unfolding fraction exponent closing last
fraction_fits n full xs e =
    followed_fits exponent exponent_fits (λ m. refl) n full xs e _ _ (digits_taken Base.Decimal false n xs)
    (digits_fits Base.Decimal n full xs e)

-- where the look ahead is undecided, so is the exponent
power_waits : (n : ℕ) → place_in (power false n []) ≡ None
unfolding power closing onto signed last
power_waits n = refl

power_sign_waits : (n b : ℕ) → is_sign b ≡ true → place_in (power false n (b ∷ [])) ≡ None
unfolding power closing onto signed digits last before
power_sign_waits n b sign = rw sign refl

bare_fits : (n full : ℕ) (xs : List ℕ) → n + 1 < full
    → Stays place_in (λ (_ : Bool) (_ : ℕ) (_ : List ℕ). Reading.Number Literal.Integer [] n) n full xs
bare_fits n full xs h = settled n refl h (λ rest. refl)

-- an `e` after whole digits: what its look ahead tells stays, and where it is undecided a 0 decides it
marked_fits : (n full : ℕ) (xs : List ℕ) → full ≡ n + length xs + 2 → Stays place_in marked n full xs
unfolding marked decided power_ahead digit_ahead is_digit is_sign
marked_fits n full [] e = cut refl (fits_waits (power_fits (suc n) full [] (omega arith)) (power_waits (suc n)))
marked_fits n full (b ∷ []) e =
    let some = power_fits (suc n) full (b ∷ []) (omega arith) in
    let none = bare_fits n full (b ∷ []) (omega arith) in
    either (is_sign b) (λ h. cut (rw h refl) (rw h (fits_waits some (power_sign_waits (suc n) b h))))
    (λ h. either (is_digit b) (λ d. rw (h, d) some) (λ d. rw (h, d) none))
marked_fits n full (b ∷ c ∷ xs) e =
    let some = power_fits (suc n) full (b ∷ c ∷ xs) (omega arith) in
    let none = bare_fits n full (b ∷ c ∷ xs) (omega arith) in
    either (is_sign b) (λ h. either (is_digit c) (λ d. rw (h, d) some) (λ d. rw (h, d) none))
    (λ h. either (is_digit b) (λ d. rw (h, d) some) (λ d. rw (h, d) none))

tail_fits : Fitting tail
unfolding tail
tail_fits n full b xs e =
    fits_if (eqb b 46) (fits_map (onto (b ∷ [])) (onto_place (b ∷ [])) (fraction_fits (suc n) full xs (omega arith)))
    (fits_if (is_exponent b) (marked_fits n full xs e) (settled n refl (omega arith) (λ rest. refl)))

decimal_fits : (n full : ℕ) (xs : List ℕ) → full ≡ n + length xs + 1 → Stays place_in decimal n full xs
unfolding decimal tail closing last
decimal_fits n full xs e =
    followed_fits tail tail_fits (λ m. refl) n full xs e _ _ (digits_taken Base.Decimal false n xs)
    (digits_fits Base.Decimal n full xs e)

module _ (n full b c : ℕ) (xs : List ℕ) (e : full ≡ n + length xs + 3) where
  prefixed_fits : (base : Base) → Stays place_in (prefixed base) n full (b ∷ c ∷ xs)
  unfolding prefixed
  prefixed_fits base =
      fits_map (onto (b ∷ c ∷ [])) (onto_place (b ∷ c ∷ []))
      (fits_map (closing Literal.Integer) (closing_place Literal.Integer)
      (digits_fits base (suc (suc n)) full xs (omega arith)))

  number_in_fits : (base : Base) → Stays place_in (number_in base) n full (b ∷ c ∷ xs)
  unfolding number_in
  number_in_fits Base.Decimal = decimal_fits n full (b ∷ c ∷ xs) (omega arith)
  number_in_fits Base.Binary = prefixed_fits Base.Binary
  number_in_fits Base.Octal = prefixed_fits Base.Octal
  number_in_fits Base.Hex = prefixed_fits Base.Hex

-- a byte other than 0 names no base, whatever follows
number_at_decimal : (end : Bool) (n b : ℕ) (rest : List ℕ) → eqb b 48 ≡ false → number_at end n (b ∷ rest) ≡ decimal end n (b ∷ rest)
unfolding number_at number_in base_of
number_at_decimal end n b [] other = refl
number_at_decimal end n b (c ∷ rest) other = rw other

number_at_fits : (n full : ℕ) (xs : List ℕ) → full ≡ n + length xs + 1 → Stays place_in number_at n full xs
unfolding number_at number_in base_of base_named decimal digits digits_more last before followed is_one is_digit
number_at_fits n full [] e = cut refl (fits_waits (decimal_fits n full [] e) refl)
number_at_fits n full (b ∷ []) e =
    either (eqb b 48)
    (λ h. subst (λ (k : ℕ). Stays place_in number_at n full (k ∷ [])) (sym (eqb-true b 48 h))
    (cut refl (fits_waits (decimal_fits n full (48 ∷ []) e) refl)))
    (λ h. fits_along _ _ (λ rest. number_at_decimal true n b rest h) (decimal_fits n full (b ∷ []) e))
number_at_fits n full (b ∷ c ∷ xs) e = number_in_fits n full b c xs (omega arith) (base_of (b ∷ c ∷ xs))

place_wait : (r : Reading) → place_in r ≡ None → r ≡ Reading.Wait
place_wait (Reading.Number literal value after) e = absurd (place_clash after e)
place_wait Reading.Wait e = refl

number_inside : (n full : ℕ) (xs : List ℕ) (r : Reading) → NumberTaken (base_of xs) true n xs r → place_in r ≡ Some full
    → full ≤ n + length xs
number_inside n full xs (Reading.Number literal value after) t h =
    omega (arith, place_same after full h, t.place, t.inside)
number_inside n full xs Reading.Wait t h = absurd (place_clash full (sym h))

pub number_waits : (n : ℕ) (part : List ℕ) → Waits Reading.Wait (number_at false n) (number_at true n) part
unfolding every
number_waits n part = go (number_at_fits n (n + length part + 1) part refl)
  where
    go : Stays place_in number_at n (n + length part + 1) part
        → Waits Reading.Wait (number_at false n) (number_at true n) part
    go (settled after p s h) =
        let told : number_at false n part ≡ Reading.Wait → ⊥ = λ e. place_clash after (sym p ∙ ap place_in e) in
        waits Reading.Wait (number_at false n) (number_at true n) part (no told) (λ _ rest. h rest) (λ e. absurd (told e))
    go (cut p q) =
        let unknown : number_at false n part ≡ Reading.Wait = place_wait (number_at false n part) p in
        waits Reading.Wait (number_at false n) (number_at true n) part (yes unknown)
        (λ other rest. absurd (other unknown)) (λ _. record {
          one = [];
          two = zero_byte;
          one_bytes = refl;
          two_bytes = refl;
          apart = λ same.
              let alike : number_at true n part ≡ number_at true n (part ++ zero_byte) = rw append-nil at same in
              let here : place_in (number_at true n part) ≡ Some (n + length part + 1) = rw alike q in
              let taken = number_at_taken true n part in
              omega (arith, number_inside n (n + length part + 1) part (number_at true n part) taken here);
        })
