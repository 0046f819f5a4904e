-- The classes of bytes, from document 01 ("Identifiers") and the PHP manual.
--   is_digit, is_octal, is_hex   the digits of a number or an escape
--   is_letter                    A to Z, a to z
--   is_start                     what an identifier starts with: a letter, _ or 0x80 to 0xFF
--   is_identifier                what may follow: digits too
--   is_blank                     a space or a tab, as indentation has them
--   is_no_break, is_none_of      no LF; none of four bytes
use Rattle.std.specs.Prelude.{ℕ, Bool, ◌||◌, ◌&&◌, not, leb, eqb}
use Rattle.byte.specs.Words.{◌is◌, ◌from◌to◌}

unfoldable pub is_digit : ℕ → Bool
is_digit b = b from "0" to "9"

unfoldable pub is_octal : ℕ → Bool
is_octal b = b from "0" to "7"

unfoldable pub is_hex : ℕ → Bool
is_hex b = b from "0" to "9" || b from "A" to "F" || b from "a" to "f"

unfoldable pub is_letter : ℕ → Bool
is_letter b = b from "A" to "Z" || b from "a" to "z"

unfoldable pub is_start : ℕ → Bool
is_start b = is_letter b || b is "_" || leb 0x80 b

unfoldable pub is_identifier : ℕ → Bool
is_identifier b = is_digit b || is_start b

unfoldable pub is_blank : ℕ → Bool
is_blank b = b is " " || b is "\t"

unfoldable pub is_no_break : ℕ → Bool
is_no_break b = not (b is "\n")

unfoldable pub is_none_of : ℕ → ℕ → ℕ → ℕ → ℕ → Bool
is_none_of w x y z b = not (eqb b w) && not (eqb b x) && not (eqb b y) && not (eqb b z)
