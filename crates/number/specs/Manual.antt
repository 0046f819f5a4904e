-- Number literals as the PHP manual has them ("Integers" and "Floating point numbers", the formal structure at the end of
-- "Syntax"), and what the reader makes of a text beside them.
-- Written without the manual's pages at hand (docs/DECISIONS.md, 32).
--   grouped               [d]*(_[d]+)*, where d are the bytes that pass a test; in front, or after a digit
--   is_lnum, maybe_lnum   LNUM, [0-9]+(_[0-9]+)*; the same or nothing
--   IntegerLiteral        decimal, hexadecimal, octal, binary
--   Dnum, FloatLiteral DNUM; DNUM or EXPONENT_DNUM
--   closes   what follows a literal does not carry it on: the announced end, or a byte of no identifier and no point
--   LiteralOf, Longest a literal of a kind; the longest literal that a text begins with
--   leading, following digits with one `_` between two of them, as many as stand at the head; what follows them
--   longest_text, kind_of   a text's longest literal, and its kind
--   begins_number           a text that begins with a literal
-- What is read of a text is its longest literal, but for these three, and where no literal begins (stray_text):
--   is_bare_prefix      0x, 0o or 0b without a digit
--   has_bare_exponent   a point, then an exponent without a digit
--   is_loose_octal      a 0 and decimal digits that are no octal of the manual: 08, 0129, 0_1
--   is_regular          none of these
--   ReadAs              what is read of a text with the end announced: a kind, a text and its value
-- `longest_literal`, `no_literal`, `longest_one` (proofs/Longest.antt): `longest_text` is the longest literal, where no number
-- begins there is none, and there are no two. `number_longest`, `number_bare_prefix`, `number_bare_exponent`,
-- `number_loose_octal`, `number-none` (proofs/Grammar.antt): what is read of every text. `integer_read`, `Float-read`
-- (proofs/Manual.antt): a literal that something closes is read whole, with more to come too.
use Rattle.std.specs.Prelude.{ℕ, ◌+◌, ◌≤◌, Bool, true, false, not, ◌&&◌, ◌||◌, List, [], ◌∷◌, ◌++◌, ◌≡◌, refl, ltb, length, take, drop, if◌then◌else◌}
use Prim.Native.Char.{code}
use Rattle.byte.specs.Words.{◌is◌, ◌from◌to◌, bytes}
use Rattle.byte.specs.Bytes.{is_digit, is_octal, is_hex, is_identifier}
use Rattle.number.specs.declared.Base.{Base}
use Rattle.number.specs.declared.Literal.{Literal}
use Rattle.number.specs.Numbers.{Reading, is_one, base_named, base_of, is_exponent, is_sign, number_at, spelled}

unfoldable pub grouped : (ℕ → Bool) → Bool → List ℕ → Bool
grouped digit behind [] = behind
grouped digit behind (b ∷ rest) =
    if digit b then grouped digit true rest else (behind && (b is "_" && grouped digit false rest))

unfoldable pub is_binary : ℕ → Bool
is_binary b = b from "0" to "1"

unfoldable pub is_lnum : List ℕ → Bool
is_lnum xs = grouped is_digit false xs

unfoldable pub maybe_lnum : List ℕ → Bool
maybe_lnum [] = true
maybe_lnum (b ∷ rest) = is_lnum (b ∷ rest)

unfoldable pub maybe_sign : List ℕ → Bool
maybe_sign [] = true
maybe_sign (b ∷ []) = b is "+" || b is "-"
maybe_sign (b ∷ c ∷ rest) = false

-- decimal: [1-9][0-9]*(_[0-9]+)* or 0; hexadecimal: 0[xX] and hex digits; octal: 0[oO]? and octal digits; binary: 0[bB] and 0, 1
pub data IntegerLiteral : List ℕ → Type 0 where
  decimal : (b : ℕ) (ds : List ℕ) → b from "1" to "9" ≡ true → grouped is_digit true ds ≡ true → IntegerLiteral (b ∷ ds)
  nought : IntegerLiteral (code "0" ∷ [])
  hexadecimal : (x : ℕ) (ds : List ℕ) → (x is "x" || x is "X") ≡ true → grouped is_hex false ds ≡ true → IntegerLiteral (code "0" ∷ x ∷ ds)
  octal : (ds : List ℕ) → grouped is_octal false ds ≡ true → IntegerLiteral (code "0" ∷ ds)
  octal_marked : (x : ℕ) (ds : List ℕ) → (x is "o" || x is "O") ≡ true → grouped is_octal false ds ≡ true → IntegerLiteral (code "0" ∷ x ∷ ds)
  binary : (x : ℕ) (ds : List ℕ) → (x is "b" || x is "B") ≡ true → grouped is_binary false ds ≡ true → IntegerLiteral (code "0" ∷ x ∷ ds)

-- LNUM? "." LNUM, or LNUM "." LNUM?
pub data Dnum : List ℕ → Type 0 where
  back : (whole fraction : List ℕ) → maybe_lnum whole ≡ true → is_lnum fraction ≡ true → Dnum (whole ++ (code "." ∷ fraction))
  front : (whole fraction : List ℕ) → is_lnum whole ≡ true → maybe_lnum fraction ≡ true → Dnum (whole ++ (code "." ∷ fraction))

-- DNUM; or LNUM or DNUM, [eE], [+-]?, LNUM
pub data FloatLiteral : List ℕ → Type 0 where
  plain : (text : List ℕ) → Dnum text → FloatLiteral text
  scaled_lnum : (text : List ℕ) (e : ℕ) (sign power : List ℕ) → is_lnum text ≡ true → (e is "e" || e is "E") ≡ true → maybe_sign sign ≡ true → is_lnum power ≡ true → FloatLiteral (text ++ (e ∷ (sign ++ power)))
  scaled_dnum : (text : List ℕ) (e : ℕ) (sign power : List ℕ) → Dnum text → (e is "e" || e is "E") ≡ true → maybe_sign sign ≡ true → is_lnum power ≡ true → FloatLiteral (text ++ (e ∷ (sign ++ power)))

unfoldable pub closes : Bool → List ℕ → Bool
closes end [] = end
closes end (b ∷ rest) = not (is_identifier b || b is ".")

-- a literal of this kind
abbrev pub LiteralOf : Literal → List ℕ → Type 0
LiteralOf Literal.Integer text = IntegerLiteral text
LiteralOf Literal.Float text = FloatLiteral text

-- xs begins with this text
abbrev pub Begins : List ℕ → List ℕ → Type 0
Begins xs text = take (length text) xs ≡ text

-- xs begins with this literal, and with no longer one of either kind
pub record Longest (literal : Literal) (xs text : List ℕ) : Type 0 where
  pub begins : Begins xs text
  pub found : LiteralOf literal text
  pub longest : (kind : Literal) (other : List ℕ) → Begins xs other → LiteralOf kind other → length other ≤ length text

unfoldable pub starts_with : (ℕ → Bool) → List ℕ → Bool
starts_with test [] = false
starts_with test (b ∷ rest) = test b

-- as many as stand at the head, after a digit: digits, and each `_` before a digit
unfoldable pub leading_more : (ℕ → Bool) → List ℕ → List ℕ
leading_more digit [] = []
leading_more digit (b ∷ rest) =
    if digit b || (b is "_" && starts_with digit rest) then b ∷ leading_more digit rest else []

unfoldable pub leading : (ℕ → Bool) → List ℕ → List ℕ
leading digit xs = if starts_with digit xs then leading_more digit xs else []

unfoldable pub following : (ℕ → Bool) → List ℕ → List ℕ
following digit xs = drop (length (leading digit xs)) xs

-- after an exponent's letter: whether [+-]? LNUM stands there, and how much of a sign and digits
unfoldable pub has_power : List ℕ → Bool
has_power [] = false
has_power (b ∷ rest) = if is_sign b then starts_with is_digit rest else is_digit b

unfoldable pub signed_digits : List ℕ → List ℕ
signed_digits [] = []
signed_digits (b ∷ rest) = if is_sign b then b ∷ leading is_digit rest else leading is_digit (b ∷ rest)

-- [eE][+-]? LNUM, or nothing
unfoldable pub power_text : List ℕ → List ℕ
power_text [] = []
power_text (b ∷ rest) = if is_exponent b && has_power rest then b ∷ signed_digits rest else []

-- after whole digits: whether a float goes on there, and with what
unfoldable pub makes_float : List ℕ → Bool
makes_float [] = false
makes_float (b ∷ rest) = b is "." || (is_exponent b && has_power rest)

unfoldable pub float_tail : List ℕ → List ℕ
float_tail [] = []
float_tail (b ∷ rest) =
    if b is "." then b ∷ (leading is_digit rest ++ power_text (following is_digit rest)) else power_text (b ∷ rest)

-- a 0 and octal digits, or decimal digits
unfoldable pub integer_text : List ℕ → List ℕ
integer_text [] = []
integer_text (b ∷ rest) = if b is "0" then b ∷ leading is_octal rest else leading is_digit (b ∷ rest)

-- digits and what makes a float of them, or an integer
unfoldable pub decimal_text : List ℕ → List ℕ
decimal_text xs =
    if makes_float (following is_digit xs) then leading is_digit xs ++ float_tail (following is_digit xs) else integer_text xs

-- 0x, 0o or 0b, with digits or without
unfoldable pub is_named : Base → Bool
is_named Base.Binary = true
is_named Base.Octal = true
is_named Base.Hex = true
is_named Base.Decimal = false

unfoldable pub is_bare_prefix : List ℕ → Bool
is_bare_prefix xs = is_named (base_of xs) && not (starts_with (is_one (base_of xs)) (drop 2 xs))

unfoldable pub prefixed_text : List ℕ → List ℕ
prefixed_text xs = take 2 xs ++ leading (is_one (base_of xs)) (drop 2 xs)

-- a 0 alone, a base's prefix and its digits, or a decimal literal
unfoldable pub longest_text : List ℕ → List ℕ
longest_text xs =
    if is_bare_prefix xs then take 1 xs
    else if is_named (base_of xs) then prefixed_text xs
    else decimal_text xs

unfoldable pub kind_of : List ℕ → Literal
kind_of xs = if not (is_named (base_of xs)) && makes_float (following is_digit xs) then Literal.Float else Literal.Integer

-- a digit, or a point and a digit
unfoldable pub begins_number : List ℕ → Bool
begins_number [] = false
begins_number (b ∷ rest) = is_digit b || (b is "." && starts_with is_digit rest)

-- an exponent's letter without digits; the letter, and its sign where one stands there
unfoldable pub is_bare_mark : List ℕ → Bool
is_bare_mark [] = false
is_bare_mark (b ∷ rest) = is_exponent b && not (has_power rest)

unfoldable pub bare_mark : List ℕ → List ℕ
bare_mark [] = []
bare_mark (b ∷ []) = b ∷ []
bare_mark (b ∷ c ∷ rest) = if is_sign c then b ∷ c ∷ [] else b ∷ []

-- whole digits, a point, digits, then such a mark
unfoldable pub point_and_mark : List ℕ → Bool
point_and_mark [] = false
point_and_mark (b ∷ rest) = b is "." && is_bare_mark (following is_digit rest)

unfoldable pub has_bare_exponent : List ℕ → Bool
has_bare_exponent xs = begins_number xs && point_and_mark (following is_digit xs)

-- more decimal digits than the manual's integer has, and no float
unfoldable pub is_loose_octal : List ℕ → Bool
is_loose_octal xs =
    ltb (length (integer_text xs)) (length (leading is_digit xs)) && not (makes_float (following is_digit xs))

unfoldable pub is_regular : List ℕ → Bool
is_regular xs = begins_number xs && not (is_bare_prefix xs || has_bare_exponent xs || is_loose_octal xs)

-- where no literal begins: a point with an exponent or without, digits or not; an exponent with digits; else nothing
unfoldable pub exponent_text : List ℕ → List ℕ
exponent_text [] = []
exponent_text (b ∷ rest) = if is_exponent b then b ∷ signed_digits rest else []

unfoldable pub stray_text : List ℕ → List ℕ
stray_text [] = []
stray_text (b ∷ rest) = if b is "." then b ∷ exponent_text rest else power_text (b ∷ rest)

-- with the end announced this text is read of xs, as this kind and with its value
abbrev pub ReadAs : Literal → ℕ → List ℕ → List ℕ → Type 0
ReadAs literal n xs text = number_at true n xs ≡ Reading.Number literal (spelled (base_of xs) text) (n + length text)

-- the manual's examples
integers :
    IntegerLiteral (bytes "1234")
    × IntegerLiteral (bytes "0123")
    × IntegerLiteral (bytes "0o123")
    × IntegerLiteral (bytes "0x1A")
    × IntegerLiteral (bytes "0b11111111")
    × IntegerLiteral (bytes "1_234_567")
unfolding grouped is_digit is_octal is_hex is_binary bytes
integers = (
  IntegerLiteral.decimal _ (bytes "234") refl refl,
  IntegerLiteral.octal (bytes "123") refl,
  IntegerLiteral.octal_marked _ (bytes "123") refl refl,
  IntegerLiteral.hexadecimal _ (bytes "1A") refl refl,
  IntegerLiteral.binary _ (bytes "11111111") refl refl,
  IntegerLiteral.decimal _ (bytes "_234_567") refl refl,
)

floats : FloatLiteral (bytes "1.234") × FloatLiteral (bytes "1.2e3") × FloatLiteral (bytes "7E-10") × FloatLiteral (bytes "1_234.567")
unfolding grouped is_lnum maybe_lnum maybe_sign is_digit bytes
floats = (
  FloatLiteral.plain _ (Dnum.back (bytes "1") (bytes "234") refl refl),
  FloatLiteral.scaled_dnum _ _ [] (bytes "3") (Dnum.back (bytes "1") (bytes "2") refl refl) refl refl refl,
  FloatLiteral.scaled_lnum (bytes "7") _ (bytes "-") (bytes "10") refl refl refl refl,
  FloatLiteral.plain _ (Dnum.back (bytes "1_234") (bytes "567") refl refl),
)

-- regular texts: what follows the literal does not carry it on
regular_examples :
    (longest_text (bytes "1_0__0") ≡ bytes "1_0")
    × (longest_text (bytes "1e+x") ≡ bytes "1")
    × (longest_text (bytes "08.5e-1_0x") ≡ bytes "08.5e-1_0")
    × (longest_text (bytes "0x1_G") ≡ bytes "0x1")
    × (is_regular (bytes "08.5e-1_0x") ≡ true)
unfolding longest_text is_regular begins_number is_bare_prefix has_bare_exponent is_loose_octal is_named base_of base_named prefixed_text decimal_text integer_text makes_float float_tail power_text has_power signed_digits point_and_mark is_bare_mark leading leading_more following starts_with is_exponent is_sign is_one is_digit is_octal is_hex bytes
regular_examples = (refl, refl, refl, refl, refl)

-- the others, with the manual's longest literal
other_examples :
    ((is_bare_prefix (bytes "0x_1") ≡ true) × (longest_text (bytes "0x_1") ≡ bytes "0"))
    × ((has_bare_exponent (bytes "1.5e+x") ≡ true) × (longest_text (bytes "1.5e+x") ≡ bytes "1.5"))
    × ((is_loose_octal (bytes "0129") ≡ true) × (longest_text (bytes "0129") ≡ bytes "012"))
    × ((is_loose_octal (bytes "0_1") ≡ true) × (longest_text (bytes "0_1") ≡ bytes "0"))
    × ((begins_number (bytes ".e5") ≡ false) × (stray_text (bytes ".e5") ≡ bytes ".e5"))
unfolding longest_text begins_number is_bare_prefix has_bare_exponent is_loose_octal stray_text exponent_text is_named base_of base_named prefixed_text decimal_text integer_text makes_float float_tail power_text has_power signed_digits point_and_mark is_bare_mark leading leading_more following starts_with is_exponent is_sign is_one is_digit is_octal is_hex bytes
other_examples = ((refl, refl), (refl, refl), (refl, refl), (refl, refl), (refl, refl))
