-- The class of each byte, as the table of src/classes.rt has it (P6), told by the tests of specs/Bytes.antt.
--   is_sign      one of ' " ` . { } ? < / #, each of which begins a row of its own in Scripting's table
--   is_alone     neither a sign nor an identifier byte: at Scripting it is passed alone
--   class_of     the number of a byte's class: 0 to 7 are the table's letters S O E H L U N B in this order
--                (`class_number`, specs/Code.antt). `Ruled` (proofs/Table.antt) says which numbers each test looks for
--   classes_of   all that a byte counts as, a flag each, as a host is told
use Rattle.std.specs.Prelude.{ℕ, ◌+◌, Bool, ◌&&◌, not, ◌≡◌, refl, if◌then◌else◌}
use Prim.Native.Char.{code}
use Rattle.byte.specs.Bytes.{is_digit, is_octal, is_hex, is_letter, is_start, is_identifier, is_blank, is_none_of}

unfoldable pub is_sign : ℕ → Bool
is_sign b =
    not (is_none_of (code "'") (code "\"") (code "`") (code ".") b
    && is_none_of (code "{") (code "}") (code "?") (code "<") b
    && is_none_of (code "/") (code "#") (code "/") (code "#") b)

unfoldable pub is_alone : ℕ → Bool
is_alone b = not (is_sign b) && not (is_identifier b)

unfoldable pub class_of : ℕ → ℕ
class_of b =
    if is_sign b then 0
    else if is_octal b then 1
    else if is_digit b then 2
    else if is_hex b then 3
    else if is_letter b then 4
    else if is_start b then 5
    else if is_blank b then 7
    else 6

unfoldable pub classes_of : ℕ → ℕ
classes_of b =
    (if is_blank b then 1 else 0)
    + (if is_octal b then 2 else 0) + (if is_digit b then 4 else 0) + (if is_hex b then 8 else 0)
    + (if is_letter b then 16 else 0) + (if is_start b then 32 else 0) + (if is_identifier b then 64 else 0)
    + (if is_sign b then 128 else 0)

-- worked cases: a quote; 7 and 8; f and g; _, 0x80 and 0xFF; DEL, a line feed and a carriage return; a tab
classed :
    (class_of (code "'") ≡ 0) × (class_of (code "7") ≡ 1) × (class_of (code "8") ≡ 2) × (class_of (code "f") ≡ 3)
    × (class_of (code "g") ≡ 4) × (class_of (code "_") ≡ 5) × (class_of 0x80 ≡ 5) × (class_of 0xFF ≡ 5)
    × (class_of 0x7F ≡ 6) × (class_of 10 ≡ 6) × (class_of 13 ≡ 6) × (class_of 9 ≡ 7)
unfolding class_of is_sign is_octal is_digit is_hex is_letter is_start is_blank is_none_of
classed = (refl, refl, refl, refl, refl, refl, refl, refl, refl, refl, refl, refl)

-- all that a digit, a hex letter, the underscore and DEL count as
counted :
    (classes_of (code "7") ≡ 78) × (classes_of (code "f") ≡ 120) × (classes_of (code "_") ≡ 96) × (classes_of 0x7F ≡ 0)
unfolding classes_of is_sign is_octal is_digit is_hex is_letter is_start is_identifier is_blank is_none_of
counted = (refl, refl, refl, refl)
