-- Digits that are read, beside those that the manual counts: what they say, and what a number over 255 is. Assumes
-- nothing.
--   fits_small, fits_not   which numbers a choice reads
--   digits_written         what is read says the low eight bits of the number that the digits write
--   digits_overflows       over 255 it is what the choice has for it
--   hex_fits               two hex digits write less than 256
--   scalar_small           a code point that UTF-8 has is below 0x110000
--   digits_classed         a byte has a value below 8, or 16, just if it is an octal digit, or a hex digit
use mathlib.Core.Path.{◌≡◌, refl, ap, ◌∙◌}
use mathlib.Core.Bool.{Bool, true, false, ◌&&◌, ◌||◌}
use mathlib.Core.List.{List, [], ◌∷◌}
use Prim.Native.Nat.{ℕ, zero, suc, ◌+◌, ◌-◌, ◌*◌, ◌%◌, ◌<◌, ◌≤◌}
use native.Mathlib.Omega.{arith}
use native.Mathlib.Nat.{mod-eq_of_lt}
use lib.Dec.{ltb, leb}
use lib.ListN.{length}
use borrow.Author.Tests.{ltb-true, ltb-false, lt-ltb, le-ltb}
use Rattle.byte.specs.declared.Octal.{Octal}
use Rattle.byte.specs.Bytes.{is_octal, is_hex}
use Rattle.byte.proofs.Table.{same, same_each}
use Rattle.byte.proofs.Tests.{choice, &&-right, if_both}
use Rattle.unit.specs.declared.TextUnit.{TextUnit}
use Rattle.unit.specs.Digits.{digit_value, is_scalar}
use Rattle.unit.specs.Escapes.{overflowing, fitted, digits}
use Rattle.unit.specs.Manual.{Means, digits_of, number, says, fits}
use Rattle.unit.proofs.Stays.{clash}

-- what writes less than 256 is read under either choice; what is not read is more than that, under the Rust's
pub fits_small : (octals : Octal) (value : ℕ) → value < 256 → fits octals value ≡ true
unfolding fits
fits_small Octal.Rust value h = lt-ltb value 256 h
fits_small Octal.Manual value h = refl

pub fits_not : (octals : Octal) (value : ℕ) → fits octals value ≡ false → (octals ≡ Octal.Rust) × (256 ≤ value)
unfolding fits
fits_not Octal.Rust value h = (refl, ltb-false value 256 h)
fits_not Octal.Manual value h = clash cc

module _ (octals : Octal) where
  -- u says the low eight bits of the number that ds write after the value, told at n
  abbrev Written : ℕ → ℕ → ℕ → ℕ → TextUnit → List ℕ → Type 0
  Written p base value n u ds =
      fits octals (number base value ds) ≡ true → says p u ≡ Means (number base value ds % 256 ∷ []) (n - p + length ds)

  -- u is that number over 255, after them
  abbrev Overflows : ℕ → ℕ → ℕ → TextUnit → List ℕ → Type 0
  Overflows base value n u ds =
      256 ≤ number base value ds → u ≡ overflowing octals (number base value ds) (n + length ds)

  overflowing_says : (o : Octal) (p value n : ℕ) → fits o value ≡ true → 256 ≤ value
      → says p (overflowing o value n) ≡ Means (value % 256 ∷ []) (n - p)
  unfolding overflowing says fits
  overflowing_says Octal.Rust p value n f h = absurd (omega (arith, ltb-true value 256 f))
  overflowing_says Octal.Manual p value n f h = refl

  fitted_written : (p base value n : ℕ) → Written p base value n (fitted octals value n) []
  unfolding fitted number says
  fitted_written p base value n h =
      let z : n - p + 0 ≡ n - p = omega arith in
      rw z
      (choice (λ u. says p u ≡ Means (value % 256 ∷ []) (n - p)) (ltb value 256) _ _
      (λ e. rw (mod-eq_of_lt (ltb-true value 256 e)))
      (λ e. overflowing_says octals p value n h (ltb-false value 256 e)))

  fitted_overflows : (base value n : ℕ) → Overflows base value n (fitted octals value n) []
  unfolding fitted number
  fitted_overflows base value n h = rw (le-ltb value 256 h) (ap (overflowing octals value) (omega arith))

  pub digits_written : (p base left value n : ℕ) (xs : List ℕ) → p ≤ n
      → Written p base value n (digits octals true base left value n xs) (digits_of base left xs)
  unfolding digits digits_of number
  digits_written p base zero value n xs l = fitted_written p base value n
  digits_written p base (suc left) value n [] l = fitted_written p base value n
  digits_written p base (suc left) value n (b ∷ xs) l =
      if_both (Written p base value n) (ltb (digit_value b) base)
      (λ e h. digits_written p base left (value * base + digit_value b) (suc n) xs (omega arith) h ∙ rw next)
      (λ e. fitted_written p base value n)
    where
      next : suc n - p + length (digits_of base left xs) ≡ n - p + suc (length (digits_of base left xs))
      next = omega arith

  pub digits_overflows : (base left value n : ℕ) (xs : List ℕ)
      → Overflows base value n (digits octals true base left value n xs) (digits_of base left xs)
  unfolding digits digits_of number
  digits_overflows base zero value n xs = fitted_overflows base value n
  digits_overflows base (suc left) value n [] = fitted_overflows base value n
  digits_overflows base (suc left) value n (b ∷ xs) =
      if_both (Overflows base value n) (ltb (digit_value b) base)
      (λ e h.
      digits_overflows base left (value * base + digit_value b) (suc n) xs h ∙ ap (overflowing octals _) (omega arith))
      (λ e. fitted_overflows base value n)

-- two hex digits write less than 256
pub hex_fits : (d : ℕ) (xs : List ℕ) → d < 16 → number 16 d (digits_of 16 1 xs) < 256
unfolding number digits_of
hex_fits d [] h = omega arith
hex_fits d (b ∷ xs) h =
    choice (λ ds. number 16 d ds < 256) (ltb (digit_value b) 16) (digit_value b ∷ []) []
    (λ e. omega (arith, ltb-true (digit_value b) 16 e))
    (λ e. omega arith)

-- ---- code points

pub scalar_small : (c : ℕ) → is_scalar c ≡ true → c < 0x110000
unfolding is_scalar
scalar_small c e = go (ltb c 0xD800) refl e
  where
    go : (t : Bool) → ltb c 0xD800 ≡ t → (t || (leb 0xE000 c && ltb c 0x110000)) ≡ true → c < 0x110000
    go true h f = omega (arith, ltb-true c 0xD800 h)
    go false h f = ltb-true c 0x110000 (&&-right (leb 0xE000 c) (ltb c 0x110000) f)

-- the digits of escapes are those of the table of classes, which is computed
pub digits_classed : (b : ℕ) → b < 256 → (ltb (digit_value b) 8 ≡ is_octal b) × (ltb (digit_value b) 16 ≡ is_hex b)
unfolding same digit_value is_octal is_hex
digits_classed b h = (
  same_each 256 (λ (k : ℕ). ltb (digit_value k) 8) is_octal refl b h,
  same_each 256 (λ (k : ℕ). ltb (digit_value k) 16) is_hex refl b h,
)
