-- The escapes as the PHP manual tells them ("Strings": "Single quoted", "Double quoted"): two tables, a list of entries each.
-- Held line by line to the facts of the manual that are known, not to its pages (docs/DECISIONS.md, 32).
-- An entry is asked with the bytes after the backslash. Digits and UTF-8 are those of specs/Digits.antt.
--   Said                           what an entry answers
--   digits_of, all_digits          the digits of a base that come first, by their values: at most so many, or all
--   number                         what digits write
--   single                         a character, and the byte that it stands for
--   octal                          `\[0-7]{1,3}`, which silently overflows to fit in a byte
--   hexadecimal                    `\x[0-9A-Fa-f]{1,2}`
--   unicode                        `\u{[0-9A-Fa-f]+}`, the code point in UTF-8; what a number that is no code point
--                                  means is not said
--   unmatched                      a `\u{` that this form does not match: to the manual it is text
--   double_quoted, single_quoted   the tables
--   said_by                        the entry that applies; else the backslash stands for itself
--   literal                        a whole literal without variables: up to its closing quote, each backslash by its
--                                  table
--   is_variable                    where a variable begins
--   fits                           an octal number that a choice reads
--   is_agreed                      an escape of which manual and reader say the same
--   first_other                    in double quotes, the first place where a variable begins or an escape is not agreed
--                                  on
--   is_ordinary                    a text that has no such place before its closing quote
--   says         what a unit of the reader is in these words
--   reading_of   what a literal is in the words of the readings
--   EndsAt       a reading that ends at the first other place
-- `escape_manual`, `escape_manual_all`, `escape_overflow`, `escape_unmatched`, `escape_open` and `quote_escape_manual`
-- (proofs/Manual.antt) join the reader to the tables; `single_whole`, `double_whole`, `double_otherwise`,
-- `single_manual` and `double_manual` (proofs/Literals.antt) the readings to the literals.
use Rattle.std.specs.Prelude.{ℕ, zero, suc, ◌+◌, ◌-◌, ◌*◌, ◌%◌, ◌≤◌, Bool, true, false, not, ◌&&◌, ◌||◌, List, [], ◌∷◌, ◌++◌, ◌≡◌, refl, eqb, ltb, length, drop, if◌then◌else◌}
use Prim.Native.Char.{Char, code}
use Rattle.byte.specs.declared.Octal.{Octal}
use Rattle.byte.specs.Refusals.{unexpected_end_of_file, invalid_unicode_escape, invalid_octal_escape}
use Rattle.byte.specs.Words.{◌is◌, bytes}
use Rattle.byte.specs.Bytes.{is_start, is_letter}
use Rattle.unit.specs.declared.Stop.{Stop}
use Rattle.unit.specs.declared.TextUnit.{TextUnit}
use Rattle.unit.specs.Digits.{digit_value, is_scalar, utf8}
use Rattle.unit.specs.Readings.{Reading, Text, Refused, Wait}

-- the escape means these bytes and has so many bytes after its backslash; or the form matches, and what it means is not said; or it
-- is another
pub data Said : Type 0 where
  Means : List ℕ → ℕ → Said
  Open : Said
  Nothing : Said

unfoldable pub is_open : Said → Bool
is_open (Means vs taken) = false
is_open Open = true
is_open Nothing = false

unfoldable pub is_nothing : Said → Bool
is_nothing (Means vs taken) = false
is_nothing Open = false
is_nothing Nothing = true

unfoldable pub digits_of : ℕ → ℕ → List ℕ → List ℕ
digits_of base zero xs = []
digits_of base (suc most) [] = []
digits_of base (suc most) (b ∷ rest) = if ltb (digit_value b) base then digit_value b ∷ digits_of base most rest else []

unfoldable pub all_digits : ℕ → List ℕ → List ℕ
all_digits base [] = []
all_digits base (b ∷ rest) = if ltb (digit_value b) base then digit_value b ∷ all_digits base rest else []

-- after digits with this value
unfoldable pub number : ℕ → ℕ → List ℕ → ℕ
number base value [] = value
number base value (d ∷ ds) = number base (value * base + d) ds

unfoldable pub single : Char → Char → List ℕ → Said
single letter byte [] = Nothing
single letter byte (b ∷ rest) = if b is letter then Means (code byte ∷ []) 1 else Nothing

unfoldable pub octal_of : List ℕ → Said
octal_of [] = Nothing
octal_of (d ∷ ds) = Means (number 8 0 (d ∷ ds) % 256 ∷ []) (length (d ∷ ds))

unfoldable pub octal : List ℕ → Said
octal xs = octal_of (digits_of 8 3 xs)

unfoldable pub hex_of : List ℕ → Said
hex_of [] = Nothing
hex_of (d ∷ ds) = Means (number 16 0 (d ∷ ds) ∷ []) (1 + length (d ∷ ds))

unfoldable pub hexadecimal : List ℕ → Said
hexadecimal [] = Nothing
hexadecimal (b ∷ rest) = if b is "x" then hex_of (digits_of 16 2 rest) else Nothing

-- after `\u{`: these digits, then these bytes
unfoldable pub code_of : List ℕ → List ℕ → Said
code_of [] rest = Nothing
code_of (d ∷ ds) [] = Nothing
code_of (d ∷ ds) (b ∷ rest) =
    if b is "}" then
    (if is_scalar (number 16 0 (d ∷ ds)) then Means (utf8 (number 16 0 (d ∷ ds))) (3 + length (d ∷ ds)) else Open)
    else Nothing

unfoldable pub unicode : List ℕ → Said
unicode [] = Nothing
unicode (b ∷ []) = Nothing
unicode (b ∷ c ∷ rest) =
    if b is "u" && c is "{" then code_of (all_digits 16 rest) (drop (length (all_digits 16 rest)) rest) else Nothing

-- `\u{` without a digit, or without a brace right after its digits
unfoldable pub unmatched : List ℕ → Bool
unmatched [] = false
unmatched (b ∷ []) = false
unmatched (b ∷ c ∷ rest) = (b is "u" && c is "{") && is_nothing (unicode (b ∷ c ∷ rest))

unfoldable pub double_quoted : List (List ℕ → Said)
double_quoted =
    single "n" "\n" ∷ single "r" "\r" ∷ single "t" "\t" ∷ single "v" "\u{b}" ∷ single "e" "\u{1b}" ∷ single "f" "\u{c}"
    ∷ single "\\" "\\" ∷ single "$" "$" ∷ single "\"" "\"" ∷ octal ∷ hexadecimal ∷ unicode ∷ []

unfoldable pub single_quoted : List (List ℕ → Said)
single_quoted = single "'" "'" ∷ single "\\" "\\" ∷ []

unfoldable pub or_else : Said → Said → Said
or_else (Means vs taken) other = Means vs taken
or_else Open other = Open
or_else Nothing other = other

-- a backslash before anything else is printed too, with what follows it
unfoldable pub said_by : List (List ℕ → Said) → List ℕ → Said
said_by [] xs = Means (code "\\" ∷ []) 0
said_by (entry ∷ entries) xs = or_else (entry xs) (said_by entries xs)

-- a literal as the manual tells it: its value and the place after its closing quote; or the manual does not say what an escape in it
-- means; or it is not closed
pub data Literal : Type 0 where
  Closed : List ℕ → ℕ → Literal
  Unsaid : Literal
  Unclosed : Literal

unfoldable pub before : List ℕ → Literal → Literal
before vs (Closed value after) = Closed (vs ++ value) after
before vs Unsaid = Unsaid
before vs Unclosed = Unclosed

-- what an escape means, then what is read after it
unfoldable pub meant : Said → Literal → Literal
meant (Means vs taken) later = before vs later
meant Open later = Unsaid
meant Nothing later = Unclosed

unfoldable pub taken_of : Said → ℕ
taken_of (Means vs taken) = taken
taken_of Open = 0
taken_of Nothing = 0

-- from n on, where `skip` bytes of the last escape are still to be passed: up to the quote; after a backslash the table tells
unfoldable pub literal : List (List ℕ → Said) → Char → ℕ → ℕ → List ℕ → Literal
literal table quote skip n [] = Unclosed
literal table quote (suc k) n (b ∷ rest) = literal table quote k (suc n) rest
literal table quote zero n (b ∷ rest) =
    if b is quote then Closed [] (suc n)
    else if b is "\\" then meant (said_by table rest) (literal table quote (taken_of (said_by table rest)) (suc n) rest)
    else before (b ∷ []) (literal table quote zero (suc n) rest)

-- b and the bytes after it: `$` and a name, `${`, or `{$`
unfoldable pub is_variable : ℕ → List ℕ → Bool
is_variable b [] = false
is_variable b (c ∷ rest) = (b is "$" && (c is "{" || is_start c)) || (b is "{" && c is "$")

-- the choice reads an octal number with this value: the manual's any, the Rust's one below 256
unfoldable pub fits : Octal → ℕ → Bool
fits Octal.Rust value = ltb value 256
fits Octal.Manual value = true

-- after a backslash: no octal number that the choice refuses, no `\u{` that is not matched, none without a code point
unfoldable pub is_agreed : Octal → List ℕ → Bool
is_agreed octals xs =
    (fits octals (number 8 0 (digits_of 8 3 xs)) && not (unmatched xs)) && not (is_open (said_by double_quoted xs))

-- the text from the first place on, before its closing quote, where a variable begins or an escape is not agreed on; [] where
-- there is none. `skip` as in `literal`
unfoldable pub first_other : Octal → ℕ → List ℕ → List ℕ
first_other octals skip [] = []
first_other octals (suc k) (b ∷ rest) = first_other octals k rest
first_other octals zero (b ∷ rest) =
    if b is "\"" then []
    else if b is "\\" then
    (if is_agreed octals rest then first_other octals (taken_of (said_by double_quoted rest)) rest else b ∷ rest)
    else if is_variable b rest then b ∷ rest
    else first_other octals zero rest

unfoldable pub is_ordinary : Octal → List ℕ → Bool
is_ordinary octals xs = eqb (length (first_other octals 0 xs)) 0

-- of a unit whose backslash stands before p
unfoldable pub says : ℕ → TextUnit → Said
says p (TextUnit.Byte value after) = Means (value ∷ []) (after - p)
says p (TextUnit.Point code after) = Means (utf8 code) (after - p)
says p (TextUnit.Ends stop from after) = Nothing
says p (TextUnit.Fault refusal place) = Open
says p TextUnit.Undecided = Nothing

-- of a text that is all there and ends at hi; where the manual does not say, Wait, which no such text gives
unfoldable pub reading_of : ℕ → Literal → Reading
reading_of hi (Closed value after) = Text value Stop.Quote (after - 1) after
reading_of hi Unsaid = Wait
reading_of hi Unclosed = Refused unexpected_end_of_file hi

-- a variable at the byte b; or a refusal: after an octal number over 255 under the Rust's choice, after the digits of a
-- `\u{` that is not matched, after the brace of one that is no code point. The text ends at hi
pub data EndsAt (octals : Octal) (hi : ℕ) : List ℕ → Reading → Type 0 where
  variable : {b : ℕ} {rest value : List ℕ} → is_variable b rest ≡ true
      → EndsAt octals hi (b ∷ rest) (Text value Stop.Interpolation (hi - suc (length rest)) (hi - suc (length rest)))
  overflow : {b : ℕ} {rest : List ℕ} → b is "\\" ≡ true → octals ≡ Octal.Rust
      → 256 ≤ number 8 0 (digits_of 8 3 rest)
      → EndsAt octals hi (b ∷ rest) (Refused invalid_octal_escape (hi - length rest + length (digits_of 8 3 rest)))
  unmatched_code : {b : ℕ} {rest : List ℕ} → b is "\\" ≡ true → unmatched rest ≡ true
      → EndsAt octals hi (b ∷ rest) (Refused invalid_unicode_escape (hi - length rest + 2 + length (all_digits 16 (drop 2 rest))))
  no_code_point : {b : ℕ} {rest : List ℕ} → b is "\\" ≡ true → said_by double_quoted rest ≡ Open
      → EndsAt octals hi (b ∷ rest) (Refused invalid_unicode_escape (hi - length rest + 3 + length (all_digits 16 (drop 2 rest))))

-- the table's own examples: `"\101" === "A"`, `"\400" === "\000"`, `"\u{41}" === "A"`
octal_example : said_by double_quoted (bytes "101") ≡ Means (bytes "A") 3
unfolding said_by double_quoted or_else single octal octal_of digits_of number digit_value bytes
octal_example = refl

overflow_example : said_by double_quoted (bytes "400") ≡ said_by double_quoted (bytes "000")
unfolding said_by double_quoted or_else single octal octal_of digits_of number digit_value bytes
overflow_example = refl

unicode_example : said_by double_quoted (bytes "u{41}") ≡ Means (bytes "A") 5
unfolding said_by double_quoted or_else single octal octal_of digits_of hexadecimal unicode code_of all_digits number is_scalar utf8 digit_value bytes
unicode_example = refl

-- a `\u{` that is not matched is text from its backslash on: `\u{`, `\u{}`, `\u{z`, `\u{41`
unmatched_examples :
    (said_by double_quoted (bytes "u{") ≡ Means (bytes "\\") 0)
    × (said_by double_quoted (bytes "u{}") ≡ Means (bytes "\\") 0)
    × (said_by double_quoted (bytes "u{z") ≡ Means (bytes "\\") 0)
    × (said_by double_quoted (bytes "u{41") ≡ Means (bytes "\\") 0)
unfolding said_by double_quoted or_else single octal octal_of digits_of hexadecimal unicode code_of all_digits digit_value bytes
unmatched_examples = (refl, refl, refl, refl)

unmatched_literal : literal double_quoted "\"" 0 0 (bytes "\\u{41\"") ≡ Closed (bytes "\\u{41") 6
unfolding literal meant taken_of before said_by double_quoted or_else single octal octal_of digits_of hexadecimal unicode code_of all_digits digit_value bytes
unmatched_literal = refl

-- this form is matched, and 110000 is no code point
open_example : said_by double_quoted (bytes "u{110000}") ≡ Open
unfolding said_by double_quoted or_else single octal octal_of digits_of hexadecimal unicode code_of all_digits number is_scalar digit_value bytes
open_example = refl

-- ordinary: letters, a `$` before a digit, a `{` alone, whatever follows the quote
ordinary_examples : (octals : Octal)
    → (is_ordinary octals (bytes "\\n$1{ \"$a") ≡ true) × (is_ordinary octals (bytes "\\u{41}\\377") ≡ true)
unfolding is_ordinary first_other is_agreed fits is_variable unmatched is_nothing is_open taken_of said_by double_quoted or_else single octal octal_of digits_of hexadecimal unicode code_of all_digits number is_scalar digit_value is_start is_letter bytes
ordinary_examples Octal.Rust = (refl, refl)
ordinary_examples Octal.Manual = (refl, refl)

other_examples : (octals : Octal)
    → (first_other octals 0 (bytes " $a\"") ≡ bytes "$a\"")
    × (first_other octals 0 (bytes " ${") ≡ bytes "${")
    × (first_other octals 0 (bytes "\\{$") ≡ bytes "{$")
    × (first_other octals 0 (bytes " \\u{") ≡ bytes "\\u{")
    × (first_other octals 0 (bytes " \\u{D800}") ≡ bytes "\\u{D800}")
unfolding first_other is_agreed fits is_variable unmatched is_nothing is_open taken_of said_by double_quoted or_else single octal octal_of digits_of hexadecimal unicode code_of all_digits number is_scalar digit_value is_start is_letter bytes
other_examples Octal.Rust = (refl, refl, refl, refl, refl)
other_examples Octal.Manual = (refl, refl, refl, refl, refl)

-- an octal number over 255 is another place under the Rust's choice alone
overflow_examples :
    (first_other Octal.Rust 0 (bytes " \\400") ≡ bytes "\\400") × (first_other Octal.Manual 0 (bytes " \\400") ≡ [])
unfolding first_other is_agreed fits is_variable unmatched is_nothing is_open taken_of said_by double_quoted or_else single octal octal_of digits_of hexadecimal unicode code_of all_digits number is_scalar digit_value is_start is_letter bytes
overflow_examples = (refl, refl)
