-- The one reader of escapes, as the Rust has it (document 01, "Rules easily misread"): what a backslash and the bytes after it
-- stand for. p is the place after the backslash, n the place of the next byte; `end` says that the text is all there.
--   letters        `\n \r \t \v \e \f \\ \$ \"`, each with its byte
--   overflowing    an octal number over 255: refusal 3 after its digits, or the byte of its low eight bits; the
--                  session's choice decides (document 02, P5)
--   fitted         what digits write: their byte, or that
--   digits         one to three octal digits, one or two hex digits
--   hex            `\x` and a digit or two
--   code_point     `\u{..}`: leading zeros are free; what is no code point is refusal 2 there, or after its brace
--   escape         in double quotes and heredocs; any other backslash stands for itself
--   quote_escape   in single quotes: `\'` and `\\` alone
use Rattle.std.specs.Prelude.{ℕ, zero, suc, ◌+◌, ◌*◌, ◌%◌, Bool, true, false, ◌&&◌, ◌||◌, List, [], ◌∷◌, ◌≡◌, refl, ltb, if◌then◌else◌}
use Prim.Native.Char.{Char, code}
use Rattle.byte.specs.declared.Refusal.{Refusal}
use Rattle.byte.specs.declared.Octal.{Octal}
use Rattle.byte.specs.Refusals.{invalid_unicode_escape, invalid_octal_escape}
use Rattle.byte.specs.Words.{◌is◌, bytes}
use Rattle.unit.specs.declared.TextUnit.{TextUnit}
use Rattle.unit.specs.Digits.{digit_value, is_scalar}

-- nothing is left: this at the announced end, else undecided
abbrev pub last : Bool → TextUnit → TextUnit
last end u = if end then u else TextUnit.Undecided

-- the backslash stands for itself
abbrev pub backslash : ℕ → TextUnit
backslash p = TextUnit.Byte (code "\\") p

abbrev pub letters : List (Char × Char)
letters = ("n", "\n") ∷ ("r", "\r") ∷ ("t", "\t") ∷ ("v", "\u{b}") ∷ ("e", "\u{1b}") ∷ ("f", "\u{c}") ∷ ("\\", "\\") ∷ ("$", "$") ∷ ("\"", "\"") ∷ []

abbrev pub letter_in : List (Char × Char) → ℕ → ℕ
letter_in [] b = 256
letter_in (row ∷ rows) b = if b is row.0 then code row.1 else letter_in rows b

-- the byte that a backslash and this letter stand for; 256 where the two are no escape
unfoldable pub letter_value : ℕ → ℕ
letter_value b = letter_in letters b

-- a value over 255, after its digits
unfoldable pub overflowing : Octal → ℕ → ℕ → TextUnit
overflowing Octal.Rust value n = TextUnit.Fault invalid_octal_escape n
overflowing Octal.Manual value n = TextUnit.Byte (value % 256) n

-- digits with this value end before n
unfoldable pub fitted : Octal → ℕ → ℕ → TextUnit
fitted octals value n = if ltb value 256 then TextUnit.Byte value n else overflowing octals value n

-- after digits with this value: at most `left` more
unfoldable pub digits : Octal → Bool → ℕ → ℕ → ℕ → ℕ → List ℕ → TextUnit
digits octals end base zero value n xs = fitted octals value n
digits octals end base (suc left) value n [] = last end (fitted octals value n)
digits octals end base (suc left) value n (b ∷ rest) =
    if ltb (digit_value b) base then digits octals end base left (value * base + digit_value b) (suc n) rest
    else fitted octals value n

-- after `\x`; two hex digits write less than 256
unfoldable pub hex : Octal → Bool → ℕ → List ℕ → TextUnit
hex octals end p [] = last end (backslash p)
hex octals end p (b ∷ rest) =
    if ltb (digit_value b) 16 then digits octals end 16 1 (digit_value b) (suc (suc p)) rest else backslash p

-- after `\u{` and digits with this value, of which there are some or none: more of them, then `}`
unfoldable pub code_point : Bool → Bool → ℕ → ℕ → List ℕ → TextUnit
code_point end some value n [] = last end (TextUnit.Fault invalid_unicode_escape n)
code_point end some value n (b ∷ rest) =
    if ltb (digit_value b) 16 then code_point end true (value * 16 + digit_value b) (suc n) rest
    else if some && b is "}" then (if is_scalar value then TextUnit.Point value (suc n) else TextUnit.Fault invalid_unicode_escape (suc n))
    else TextUnit.Fault invalid_unicode_escape n

-- after `\u`
unfoldable pub braced : Bool → ℕ → List ℕ → TextUnit
braced end p [] = last end (backslash p)
braced end p (b ∷ rest) = if b is "{" then code_point end false 0 (suc (suc p)) rest else backslash p

unfoldable pub escape : Octal → Bool → ℕ → List ℕ → TextUnit
escape octals end p [] = last end (backslash p)
escape octals end p (b ∷ rest) =
    if ltb (letter_value b) 256 then TextUnit.Byte (letter_value b) (suc p)
    else if ltb (digit_value b) 8 then digits octals end 8 2 (digit_value b) (suc p) rest
    else if b is "x" then hex octals end p rest
    else if b is "u" then braced end p rest
    else backslash p

unfoldable pub quote_escape : Bool → ℕ → List ℕ → TextUnit
quote_escape end p [] = last end (backslash p)
quote_escape end p (b ∷ rest) = if b is "'" || b is "\\" then TextUnit.Byte b (suc p) else backslash p

-- worked sheets e, f, g and h, after their backslash
sheet_e : (octals : Octal) → escape octals true 1 (bytes "377\"") ≡ TextUnit.Byte 255 4
unfolding escape digits fitted letter_value digit_value bytes
sheet_e octals = refl

sheet_f : escape Octal.Rust true 1 (bytes "400\"") ≡ TextUnit.Fault Refusal.InvalidOctalEscape 4
unfolding escape digits fitted overflowing letter_value digit_value bytes
sheet_f = refl

-- the same as the manual has it; `\777`; `\501`, whose low eight bits are an A; `\400` before another digit
overflows :
    (escape Octal.Manual true 1 (bytes "400\"") ≡ TextUnit.Byte 0 4)
    × (escape Octal.Manual true 1 (bytes "777\"") ≡ TextUnit.Byte 255 4)
    × (escape Octal.Manual true 1 (bytes "501\"") ≡ TextUnit.Byte (code "A") 4)
    × (escape Octal.Manual false 1 (bytes "4000") ≡ TextUnit.Byte 0 4)
unfolding escape digits fitted overflowing letter_value digit_value bytes
overflows = (refl, refl, refl, refl)

-- with more announced: two digits wait under either choice, three are told
open_digits : (octals : Octal) → escape octals false 1 (bytes "40") ≡ TextUnit.Undecided
unfolding escape digits letter_value digit_value bytes
open_digits octals = refl

told_digits :
    (escape Octal.Rust false 1 (bytes "400") ≡ TextUnit.Fault Refusal.InvalidOctalEscape 4)
    × (escape Octal.Manual false 1 (bytes "400") ≡ TextUnit.Byte 0 4)
unfolding escape digits fitted overflowing letter_value digit_value bytes
told_digits = (refl, refl)

sheet_g : (octals : Octal) → escape octals true 1 (bytes "u{20AC}\"") ≡ TextUnit.Point 0x20AC 8
unfolding escape braced code_point is_scalar letter_value digit_value bytes
sheet_g octals = refl

sheet_h : (octals : Octal) → escape octals true 1 (bytes "u{110000}\"") ≡ TextUnit.Fault Refusal.InvalidUnicodeEscape 10
unfolding escape braced code_point is_scalar letter_value digit_value bytes
sheet_h octals = refl
