-- The table of classes. Assumes nothing.
--   same_each, equal_each   two tests, two numbers are the same of each number below n: this is computed
--   table_ruled             one test over the table, computed, carries its rule to each entry: it is the class of its
--                           byte
--   classes_ruled           which classes each test of bytes looks for, computed for all 256 bytes
--   table_holds   a quarter of the table is a number whose bits tell its bytes
use Prim.Native.Nat.{ℕ, zero, suc, ◌+◌, ◌-◌, ◌*◌, ◌/◌, ◌%◌, ◌^◌, ◌≤◌, ◌<◌}
use mathlib.Core.Path.{◌≡◌, refl, sym, ◌∙◌, ap}
use mathlib.Core.Bool.{Bool, true, false, not, ◌&&◌}
use mathlib.Core.List.{List, [], ◌∷◌, ◌++◌}
use native.Mathlib.Omega.{arith}
use native.Mathlib.Nat.{pow-suc, mul_assoc}
use Rattle.std.specs.Prelude.{take}
use Rattle.std.proofs.lemmas.Nat.{one_shl}
use native.Mathlib.Numerals.{add-one}
use lib.Dec.{ltb, eqb}
use borrow.Author.Tests.{eqb-true, eqb-false, ltb-true, ltb-false}
use lib.ListN.{length, get_or, length-append, get_or-append}
use lib.Seq.{get_or-append-add}
use lib.Pow.{shr-shr}
use Rattle.byte.specs.Bytes.{is_digit, is_octal, is_hex, is_letter, is_start, is_identifier, is_blank, is_none_of}
use Rattle.byte.specs.Classes.{is_sign, is_alone, class_of}
use Rattle.byte.specs.Code.{class_number, is_from, is_within, TableOf, Table, one, binary, Bits, Holds}
use Rattle.byte.specs.declared.classes.Class.{Class}
use Rattle.byte.proofs.Tests.{&&-left, &&-right}

-- all numbers below n pass a test: this is computed
abbrev pub below : ℕ → (ℕ → Bool) → Bool
below zero test = true
below (suc n) test = test n && below n test

pub below_each : (n : ℕ) (test : ℕ → Bool) → below n test ≡ true → (x : ℕ) → x < n → test x ≡ true
below_each zero test e x h = absurd (omega arith)
below_each (suc n) test e x h = go (eqb x n) refl (below_each n test (&&-right (test n) (below n test) e) x)
  where
    go : (q : Bool) → eqb x n ≡ q → (x < n → test x ≡ true) → test x ≡ true
    go true f ih = rw (eqb-true x n f) (&&-left (test n) (below n test) e)
    go false f ih = ih (omega (arith, eqb-false x n f))

unfoldable pub same : Bool → Bool → Bool
same true b = b
same false b = not b

same_is : (a b : Bool) → same a b ≡ true → a ≡ b
unfolding same
same_is true b e = sym e
same_is false true e = e
same_is false false e = refl

-- two tests that are the same of each, and two numbers
pub same_each : (n : ℕ) (f g : ℕ → Bool) → below n (λ (k : ℕ). same (f k) (g k)) ≡ true → (x : ℕ) → x < n → f x ≡ g x
same_each n f g e x h = same_is (f x) (g x) (below_each n (λ (k : ℕ). same (f k) (g k)) e x h)

equal_each : (n : ℕ) (f g : ℕ → ℕ) → below n (λ (k : ℕ). eqb (f k) (g k)) ≡ true → (x : ℕ) → x < n → f x ≡ g x
equal_each n f g e x h = eqb-true (f x) (g x) (below_each n (λ (k : ℕ). eqb (f k) (g k)) e x h)

-- ---- the rule

-- what a byte's class tells of it
pub record Ruled (b : ℕ) : Type 0 where
  pub sign : is_from 0 0 (class_of b) ≡ is_sign b
  pub octal : is_from 1 1 (class_of b) ≡ is_octal b
  pub digit : is_from 1 2 (class_of b) ≡ is_digit b
  pub hex : is_from 1 3 (class_of b) ≡ is_hex b
  pub letter : is_from 3 4 (class_of b) ≡ is_letter b
  pub start : is_from 3 5 (class_of b) ≡ is_start b
  pub identifier : is_from 1 5 (class_of b) ≡ is_identifier b
  pub alone : is_from 6 7 (class_of b) ≡ is_alone b
  pub blank : is_from 7 7 (class_of b) ≡ is_blank b

-- What the tests of bytes cite.
pub classes_ruled : (b : ℕ) → b < 256 → Ruled b
unfolding same is_from class_of is_sign is_octal is_digit is_hex is_letter is_start is_identifier is_alone is_blank is_none_of
classes_ruled b h =
    record {
      sign = same_each 256 (λ (k : ℕ). is_from 0 0 (class_of k)) is_sign refl b h;
      octal = same_each 256 (λ (k : ℕ). is_from 1 1 (class_of k)) is_octal refl b h;
      digit = same_each 256 (λ (k : ℕ). is_from 1 2 (class_of k)) is_digit refl b h;
      hex = same_each 256 (λ (k : ℕ). is_from 1 3 (class_of k)) is_hex refl b h;
      letter = same_each 256 (λ (k : ℕ). is_from 3 4 (class_of k)) is_letter refl b h;
      start = same_each 256 (λ (k : ℕ). is_from 3 5 (class_of k)) is_start refl b h;
      identifier = same_each 256 (λ (k : ℕ). is_from 1 5 (class_of k)) is_identifier refl b h;
      alone = same_each 256 (λ (k : ℕ). is_from 6 7 (class_of k)) is_alone refl b h;
      blank = same_each 256 (λ (k : ℕ). is_from 7 7 (class_of k)) is_blank refl b h;
    }

-- The same for each test, as the checker finds it.
module _ (b : ℕ) (h : b < 256) where
  pub sign_ruled : is_from 0 0 (class_of b) ≡ is_sign b
  sign_ruled = (classes_ruled b h).sign

  pub octal_ruled : is_from 1 1 (class_of b) ≡ is_octal b
  octal_ruled = (classes_ruled b h).octal

  pub digit_ruled : is_from 1 2 (class_of b) ≡ is_digit b
  digit_ruled = (classes_ruled b h).digit

  pub hex_ruled : is_from 1 3 (class_of b) ≡ is_hex b
  hex_ruled = (classes_ruled b h).hex

  pub letter_ruled : is_from 3 4 (class_of b) ≡ is_letter b
  letter_ruled = (classes_ruled b h).letter

  pub start_ruled : is_from 3 5 (class_of b) ≡ is_start b
  start_ruled = (classes_ruled b h).start

  pub identifier_ruled : is_from 1 5 (class_of b) ≡ is_identifier b
  identifier_ruled = (classes_ruled b h).identifier

  pub alone_ruled : is_from 6 7 (class_of b) ≡ is_alone b
  alone_ruled = (classes_ruled b h).alone

  pub blank_ruled : is_from 7 7 (class_of b) ≡ is_blank b
  blank_ruled = (classes_ruled b h).blank

pub ruleset tests = (sign_ruled, octal_ruled, digit_ruled, hex_ruled, letter_ruled, start_ruled, identifier_ruled, alone_ruled, blank_ruled)

-- ---- bits

one-le : (t : Bool) → one t ≤ 1
unfolding one
one-le true = omega arith
one-le false = omega arith

module _ {A : Type 0} (test : A → Bool) where
  binary-++ : (xs ys : List A) → binary test (xs ++ ys) ≡ binary test xs + binary test ys * 2 ^ length xs
  unfolding binary
  binary-++ [] ys = omega arith
  binary-++ (x ∷ xs) ys =
      let b = binary test ys in
      let n = length xs in
      let e : b * 2 ^ suc n ≡ b * 2 ^ n * 2 = ap (λ (m : ℕ). b * m) (pow-suc 2 n) ∙ sym (mul_assoc b (2 ^ n) 2) in
      omega (arith, binary-++ xs ys, e)

  binary_suc : (d : A) (xs : List A) (i : ℕ) → i < length xs
      → binary test (take (suc i) xs) ≡ binary test (take i xs) + one (test (get_or xs i d)) * 2 ^ i
  unfolding binary
  binary_suc d [] i h = absurd (omega arith)
  binary_suc d (x ∷ xs) zero h = omega arith
  binary_suc d (x ∷ xs) (suc i) h =
      let b = one (test (get_or xs i d)) in
      let e : b * 2 ^ suc i ≡ b * 2 ^ i * 2 = ap (λ (m : ℕ). b * m) (pow-suc 2 i) ∙ sym (mul_assoc b (2 ^ i) 2) in
      omega (arith, binary_suc d xs i (omega arith), e)

  binary_bit : (d : A) (xs : List A) (k : ℕ) → k < length xs
      → binary test xs / 2 ^ k % 2 ≡ one (test (get_or xs k d))
  unfolding binary
  binary_bit d [] k h = absurd (omega arith)
  binary_bit d (x ∷ xs) zero h = omega (arith, one-le (test x))
  binary_bit d (x ∷ xs) (suc k) h =
      let n = one (test x) + 2 * binary test xs in
      let half : n / 2 ^ 1 ≡ binary test xs = omega (arith, one-le (test x)) in
      let at : suc k ≡ 1 + k = omega arith in
      rw (at, ← shr-shr n 1 k, half) (binary_bit d xs k (omega arith))

  row-++ : (row rest : List A) → length row ≡ 16
      → binary test (row ++ rest) ≡ binary test row + 65536 * binary test rest
  row-++ row rest h =
      let e : binary test rest * 2 ^ length row ≡ binary test rest * 65536 = rw (h) refl in
      omega (arith, binary-++ row rest, e)

one_shifted : (t : Bool) (i : ℕ) → i < 64 → one t * 2 ^ i % 18446744073709551616 ≡ one t * 2 ^ i
unfolding one
one_shifted true i h = let e : 1 * 2 ^ i ≡ 2 ^ i = omega arith in one_shl i 64 h ∙ sym e
one_shifted false i h = omega arith

one_fits : (t : Bool) (i : ℕ) → one t * 2 ^ i ≤ 2 ^ i
unfolding one
one_fits true i = omega arith
one_fits false i = omega arith

-- a row is read on by an entry
module _ (first last : Class) (row : List Class) (i set bit : ℕ) (long : length row ≡ 16) (h : i < 16) where
  pub bits_on : set ≡ binary (is_within first last) (take i row) → set < 2 ^ i
      → bit ≡ one (is_within first last (get_or row i Class.S))
      → (set + bit * 2 ^ i % 18446744073709551616 ≡ binary (is_within first last) (take (i + 1) row))
      × (set + bit * 2 ^ i % 18446744073709551616 < 2 ^ (i + 1))
  bits_on e f g =
      let t = is_within first last (get_or row i Class.S) in
      let next = binary_suc (is_within first last) Class.S row i (omega (arith, long, h)) in
      let shifted : bit * 2 ^ i % 18446744073709551616 ≡ one t * 2 ^ i = rw (g) (one_shifted t i (omega (arith, h))) in
      rw (shifted, add-one)
      (omega (arith, e, next), omega (arith, f, one_fits t i, pow-suc 2 i))

-- ---- the table

abbrev entry_of : {A : Type 0} → A → List (List A) → ℕ → A
entry_of past rows b = get_or (get_or rows (b / 16) []) (b % 16) past

-- The one test over the table, computed: it carries its rule to each entry.
pub table_ruled : {A : Type 0} (past : A) (number : A → ℕ) (rows : List (List A))
    → below 16 (λ (row : ℕ). eqb (length (get_or rows row [])) 16) ≡ true
    → below 256 (λ (b : ℕ). eqb (number (entry_of past rows b)) (class_of b)) ≡ true → TableOf past number rows
table_ruled past number rows long right = record {
  wide = equal_each 16 (λ (row : ℕ). length (get_or rows row [])) (λ row. 16) long;
  class = equal_each 256 (λ (b : ℕ). number (entry_of past rows b)) class_of right;
}

-- what holds of an entry of a row, or of those after it
row_entry : {A : Type 0} (d : A) (P : A → Type 0) (row rest : List A) (place : ℕ) → length row ≡ 16
    → (place < 16 → P (get_or row place d)) → (16 ≤ place → P (get_or rest (place - 16) d))
    → P (get_or (row ++ rest) place d)
row_entry d P row rest place long here later = go (ltb place 16) refl
  where
    go : (q : Bool) → ltb place 16 ≡ q → P (get_or (row ++ rest) place d)
    go true f =
        let h : place < 16 = ltb-true place 16 f in
        rw (get_or-append row rest d place (omega (arith, h, long))) (here h)
    go false f =
        let h : 16 ≤ place = ltb-false place 16 f in
        let at : place ≡ length row + (place - 16) = omega (arith, h, long) in
        let e : get_or (row ++ rest) place d ≡ get_or rest (place - 16) d =
        ap (λ (k : ℕ). get_or (row ++ rest) k d) at ∙ get_or-append-add row rest (place - 16) d in
        rw (e) (later h)

-- four rows from one on
module _ (rows : List (List Class)) (t : Table rows) (first_row : ℕ) (low : first_row ≤ 12) where
  abbrev row_at : ℕ → List Class
  row_at i = get_or rows (first_row + i) []

  abbrev Classed : ℕ → Class → Type 0
  Classed place class = class_number class ≡ class_of (16 * first_row + place)

  row_class : (i column place : ℕ) → place ≡ 16 * i + column → column < 16 → place < 64
      → Classed place (get_or (row_at i) column Class.S)
  row_class i column place e h k =
      let row : (16 * first_row + place) / 16 ≡ first_row + i = omega arith in
      let at : (16 * first_row + place) % 16 ≡ column = omega arith in
      rw (row, at) at (t.class (16 * first_row + place) (omega arith))

  row_wide : (i : ℕ) → i < 4 → length (row_at i) ≡ 16
  row_wide i h = t.wide (first_row + i) (omega arith)

  abbrev four_rows : List Class
  four_rows = row_at 0 ++ (row_at 1 ++ (row_at 2 ++ row_at 3))

  four_class : (place : ℕ) → place < 64 → Classed place (get_or four_rows place Class.S)
  four_class place k =
      let P = Classed place in
      row_entry Class.S P (row_at 0) _ place (row_wide 0 (omega arith)) (λ h. row_class 0 place place (omega arith) h k)
      (λ l. row_entry Class.S P (row_at 1) _ (place - 16) (row_wide 1 (omega arith))
      (λ h. row_class 1 (place - 16) place (omega arith) h k)
      (λ m. row_entry Class.S P (row_at 2) (row_at 3) (place - 16 - 16) (row_wide 2 (omega arith))
      (λ h. row_class 2 (place - 16 - 16) place (omega arith) h k)
      (λ n. row_class 3 (place - 16 - 16 - 16) place (omega arith) (omega arith) k)))

  four_long : length four_rows ≡ 64
  four_long =
      omega (
        arith,
        length-append (row_at 0) (row_at 1 ++ (row_at 2 ++ row_at 3)),
        length-append (row_at 1) (row_at 2 ++ row_at 3),
        length-append (row_at 2) (row_at 3),
        row_wide 0 (omega arith),
        row_wide 1 (omega arith),
        row_wide 2 (omega arith),
        row_wide 3 (omega arith),
      )

  -- as a number
  module _ (first last : Class) where
    pub table_holds : {w x y z set : ℕ}
        → Bits first last (get_or rows first_row []) w → Bits first last (row_at 1) x
        → Bits first last (row_at 2) y → Bits first last (row_at 3) z
        → set ≡ w + 65536 * (x + 65536 * (y + 65536 * z)) → Holds first last first_row set
    unfolding Holds
    table_holds {w} {x} {y} {z} {set} e f g i s place h =
        let test = is_within first last in
        let at : first_row + 0 ≡ first_row = omega arith in
        let number : w ≡ binary test (row_at 0) = rw (at) e.number in
        let whole : set ≡ binary test four_rows = omega (
          arith,
          number,
          f.number,
          g.number,
          i.number,
          s,
          row-++ test (row_at 0) (row_at 1 ++ (row_at 2 ++ row_at 3)) (row_wide 0 (omega arith)),
          row-++ test (row_at 1) (row_at 2 ++ row_at 3) (row_wide 1 (omega arith)),
          row-++ test (row_at 2) (row_at 3) (row_wide 2 (omega arith)),
        ) in
        let classed : Classed place (get_or four_rows place Class.S) = four_class place h in
        rw (whole)
        (binary_bit test Class.S four_rows place (omega (arith, h, four_long))
        ∙ ap (λ (n : ℕ). one (is_from (class_number first) (class_number last) n)) classed)

one_is : (t : Bool) → eqb (one t) 1 ≡ t
unfolding one
one_is true = refl
one_is false = refl

-- the bit of a byte is that of its place in its quarter
pub classed : (first last : Class) (b row set : ℕ) → row ≡ 4 * (b / 64) → Holds first last row set
    → eqb (set / 2 ^ (b % 64) % 2) 1 ≡ is_from (class_number first) (class_number last) (class_of b)
unfolding Holds
classed first last b row set e holds =
    let at : 16 * row + b % 64 ≡ b = omega arith in
    rw (holds (b % 64) (omega arith), at) (one_is (is_from (class_number first) (class_number last) (class_of b)))
