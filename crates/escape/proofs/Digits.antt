-- Laws of digits and of code points in UTF-8, on each way through the functions that read and write them. Assumes nothing.
use Rattle.std.specs.Prelude.{Option, Some, None, SomeIff, MatchOption, min}
use Rattle.std.specs.Char.{digit_value as char_digit}
use Prim.Native.Nat.{ℕ, ◌+◌, ◌-◌, ◌/◌, ◌%◌, ◌≤◌, ◌<◌}
use mathlib.Core.Path.{◌≡◌, refl}
use mathlib.Core.Bool.{Bool, true, false}
use lib.Dec.{ltb}
use mathlib.Core.List.{List, [], ◌∷◌}
use native.Mathlib.Omega.{arith}
use lib.ListN.{length}
use borrow.Author.Tests.{le-leb, lt-leb, lt-ltb, le-ltb, ltb-true, ltb-false}
use Rattle.byte.specs.Laid.{laid}
use lib.Utf8.{scalar}
use Rattle.unit.specs.Digits.{digit_value, is_scalar, utf8}

-- a byte against both ends of the three ranges
module _ (b : ℕ) where
  pub digit_value_below : b < 48 → 16 ≡ digit_value b
  unfolding digit_value
  digit_value_below h = rw (lt-leb 48 b h, lt-leb 65 b (omega arith), lt-leb 97 b (omega arith))

  module _ (low : 48 ≤ b) where
    pub digit_value_decimal : b < 58 → b - 48 ≡ digit_value b
    unfolding digit_value
    digit_value_decimal h = rw (le-leb 48 b low, le-leb b 57 (omega arith))

    pub digit_value_between : 58 ≤ b → b < 65 → 16 ≡ digit_value b
    unfolding digit_value
    digit_value_between g h = rw (le-leb 48 b low, lt-leb b 57 (omega arith), lt-leb 65 b h, lt-leb 97 b (omega arith))

    module _ (capital : 65 ≤ b) where
      pub digit_value_capital : b < 71 → b - 65 + 10 ≡ digit_value b
      unfolding digit_value
      digit_value_capital h = rw (le-leb 48 b low, lt-leb b 57 (omega arith), le-leb 65 b capital, le-leb b 70 (omega arith))

      pub digit_value_middle : 71 ≤ b → b < 97 → 16 ≡ digit_value b
      unfolding digit_value
      digit_value_middle g h =
          rw (le-leb 48 b low, lt-leb b 57 (omega arith), le-leb 65 b capital, lt-leb b 70 (omega arith), lt-leb 97 b h)

      module _ (small : 97 ≤ b) where
        pub digit_value_small : b < 103 → b - 97 + 10 ≡ digit_value b
        unfolding digit_value
        digit_value_small h =
            rw (
              le-leb 48 b low,
              lt-leb b 57 (omega arith),
              le-leb 65 b capital,
              lt-leb b 70 (omega arith),
              le-leb 97 b small,
              le-leb b 102 (omega arith),
            )

        pub digit_value_above : 103 ≤ b → 16 ≡ digit_value b
        unfolding digit_value
        digit_value_above h =
            rw (
              le-leb 48 b low,
              lt-leb b 57 (omega arith),
              le-leb 65 b capital,
              lt-leb b 70 (omega arith),
              le-leb 97 b small,
              lt-leb b 102 (omega arith),
            )

-- by the two answers of a test, and by which number is smaller
pub either : {P : Type 0} (t : Bool) → (t ≡ true → P) → (t ≡ false → P) → P
either true first second = first refl
either false first second = second refl

by_order : {P : Type 0} (m n : ℕ) → (m < n → P) → (n ≤ m → P) → P
by_order m n less rest = either (ltb m n) (λ t. less (ltb-true m n t)) (λ t. rest (ltb-false m n t))

-- the value that `char` gives a digit is the same below 16, and more letters are digits there
digit_value_char : (b : ℕ) → digit_value b ≡ min 16 (char_digit b)
digit_value_char b =
    by_order b 48 (λ h. rw (← digit_value_below b h, lt-ltb b 48 h) refl)
    (λ low. by_order b 58 (λ h. rw (← digit_value_decimal b low h, le-ltb b 48 low, lt-ltb b 58 h) (omega arith))
    (λ past. by_order b 65 (λ h. rw (← digit_value_between b low past h, le-ltb b 48 low, le-ltb b 58 past, lt-ltb b 65 h) refl)
    (λ capital. by_order b 91
    (λ h. let same : char_digit b ≡ b - 55 = rw (le-ltb b 48 low, le-ltb b 58 past, le-ltb b 65 capital, lt-ltb b 91 h) refl in
    rw same (by_order b 71
    (λ k. rw (← digit_value_capital b low capital k) (omega arith))
    (λ k. rw (← digit_value_middle b low capital k (omega arith)) (omega arith))))
    (λ after. by_order b 97
    (λ h. rw (← digit_value_middle b low capital (omega arith) h, le-ltb b 48 low, le-ltb b 58 past, le-ltb b 65 capital, le-ltb b 91 after, lt-ltb b 97 h) refl)
    (λ small. by_order b 123
    (λ h. let same : char_digit b ≡ b - 87 = rw (le-ltb b 48 low, le-ltb b 58 past, le-ltb b 65 capital, le-ltb b 91 after, le-ltb b 97 small, lt-ltb b 123 h) refl in
    rw same (by_order b 103
    (λ k. rw (← digit_value_small b low capital small k) (omega arith))
    (λ k. rw (← digit_value_above b low capital small k) (omega arith))))
    (λ h. rw (← digit_value_above b low capital small (omega arith), le-ltb b 48 low, le-ltb b 58 past, le-ltb b 65 capital, le-ltb b 91 after, le-ltb b 97 small, le-ltb b 123 h) refl))))))

-- so `to_digit` tells the digits of a base up to 16
pub digit_told : (b base : ℕ) (r : Option ℕ) → base ≤ 16 → SomeIff r (char_digit b < base) (char_digit b)
    → MatchOption r (base ≤ digit_value b) (λ (d : ℕ). (d ≡ digit_value b) × (d < base))
digit_told b base None small none =
    let same = digit_value_char b in
    let over : base ≤ char_digit b = omega (arith, none) in
    omega (arith, same, over)
digit_told b base (Some d) small some =
    let same = digit_value_char b in
    (omega (arith, same, some.0, some.1), omega (arith, some.0, some.1))

-- the bytes of a code point, by its size
module _ (c : ℕ) where
  pub utf8_one : c < 128 → c ∷ [] ≡ utf8 c
  unfolding utf8
  utf8_one h = rw (lt-ltb c 128 h)

  pub utf8_two : 128 ≤ c → c < 2048 → (192 + c / 64) ∷ (128 + c % 64) ∷ [] ≡ utf8 c
  unfolding utf8
  utf8_two g h = rw (le-ltb c 128 g, lt-ltb c 2048 h)

  pub utf8_three : 2048 ≤ c → c < 65536 → (224 + c / 4096) ∷ (128 + c / 64 % 64) ∷ (128 + c % 64) ∷ [] ≡ utf8 c
  unfolding utf8
  utf8_three g h = rw (le-ltb c 128 (omega arith), le-ltb c 2048 g, lt-ltb c 65536 h)

  pub utf8_four : 65536 ≤ c → (240 + c / 262144) ∷ (128 + c / 4096 % 64) ∷ (128 + c / 64 % 64) ∷ (128 + c % 64) ∷ [] ≡ utf8 c
  unfolding utf8
  utf8_four g = rw (le-ltb c 128 (omega arith), le-ltb c 2048 (omega arith), le-ltb c 65536 g)

  -- how many they are
  pub length_utf8_one : c < 128 → 1 ≡ length (utf8 c)
  length_utf8_one h = rw (← utf8_one h)

  pub length_utf8_two : 128 ≤ c → c < 2048 → 2 ≡ length (utf8 c)
  length_utf8_two g h = rw (← utf8_two g h)

  pub length_utf8_three : 2048 ≤ c → c < 65536 → 3 ≡ length (utf8 c)
  length_utf8_three g h = rw (← utf8_three g h)

  pub length_utf8_four : 65536 ≤ c → 4 ≡ length (utf8 c)
  length_utf8_four g = rw (← utf8_four g)

  -- and the room that they ask for
  module _ (at size : ℕ) (fits : at + length (utf8 c) ≤ size) where
    pub room_one : c < 128 → at + 1 ≤ size
    room_one h = omega (arith, length_utf8_one h)

    pub room_two : 128 ≤ c → c < 2048 → at + 2 ≤ size
    room_two g h = omega (arith, length_utf8_two g h)

    pub room_three : 2048 ≤ c → c < 65536 → at + 3 ≤ size
    room_three g h = omega (arith, length_utf8_three g h)

    pub room_four : 65536 ≤ c → at + 4 ≤ size
    room_four g = omega (arith, length_utf8_four g)

pub ruleset utf8_lengths = (length_utf8_one, length_utf8_two, length_utf8_three, length_utf8_four)

-- the bytes of a code point, written
module _ (l : List ℕ) (at c : ℕ) (r : List ℕ) where
  pub utf8_laid_one : c < 128 → r ≡ laid l at (c ∷ []) → r ≡ laid l at (utf8 c)
  utf8_laid_one h e = rw (← utf8_one c h) e

  pub utf8_laid_two : 128 ≤ c → c < 2048 → r ≡ laid l at ((192 + c / 64) ∷ (128 + c % 64) ∷ []) → r ≡ laid l at (utf8 c)
  utf8_laid_two g h e = rw (← utf8_two c g h) e

  pub utf8_laid_three : 2048 ≤ c → c < 65536 → r ≡ laid l at ((224 + c / 4096) ∷ (128 + c / 64 % 64) ∷ (128 + c % 64) ∷ [])
      → r ≡ laid l at (utf8 c)
  utf8_laid_three g h e = rw (← utf8_three c g h) e

  pub utf8_laid_four : 65536 ≤ c
      → r ≡ laid l at ((240 + c / 262144) ∷ (128 + c / 4096 % 64) ∷ (128 + c / 64 % 64) ∷ (128 + c % 64) ∷ []) → r ≡ laid l at (utf8 c)
  utf8_laid_four g e = rw (← utf8_four c g) e

pub ruleset utf8_writes = (room_one, room_two, room_three, room_four, utf8_laid_one, utf8_laid_two, utf8_laid_three, utf8_laid_four)

-- a code point that UTF-8 has is a `char`
pub scalar_point : (c : ℕ) → scalar c ≡ is_scalar c
unfolding is_scalar
scalar_point c = either (ltb c 55296) (λ t. rw t refl) (λ t. rw t refl)
