-- Number literals as the Rust reads them (document 01, "Number", sheets i, j, k), told over the rest of the text.
--   is_one, base_of              the digits of a base; the base that a literal's first two bytes name
--   digits, digits_more          digits with one `_` between two of them: the bytes of the value, and the place after
--   signed, exponent, fraction   after the `e`; after a point and its digits; after the point
--   tail, decimal                after whole digits; a decimal literal
--   number_at                    the number at the head of a text: its kind, its value and the place after it
--   scanned                      what a scan tells of it: the value by its length
--   spelled, value_of            a literal's text as a value has it: no `_`, and `e` for `E` (proofs/Values.antt: it is
--                                the value)
-- n is the position of the text's head. `end`: the end is announced; with more to come, what is not yet known is a wait.
use Rattle.std.specs.Prelude.{ℕ, suc, ◌-◌, Bool, true, false, ◌&&◌, ◌||◌, List, [], ◌∷◌, ◌++◌, ◌≡◌, refl, length, take, drop, if◌then◌else◌, Option, Some, None}
use Prim.Native.Char.{code}
use Prim.Native.String.{String}
use Rattle.byte.specs.Words.{◌is◌, ◌from◌to◌, bytes}
use Rattle.byte.specs.Bytes.{is_digit, is_octal, is_hex}
use Rattle.number.specs.declared.Ahead.{Ahead}
use Rattle.number.specs.declared.Base.{Base}
use Rattle.number.specs.declared.Literal.{Literal}
use Rattle.number.specs.declared.Scanned.{Scanned}

-- digits that were read, as the value has them, and the place after them; or not yet known
pub data Digits : Type 0 where
  Read : (ds : List ℕ) (after : ℕ) → Digits
  Undecided : Digits

-- a number: its kind, its value, the place after it; or more must come
pub data Reading : Type 0 where
  Number : (literal : Literal) (value : List ℕ) (after : ℕ) → Reading
  Wait : Reading

-- a digit of a base
unfoldable pub is_one : Base → ℕ → Bool
is_one Base.Binary b = b from "0" to "1"
is_one Base.Octal b = is_octal b
is_one Base.Decimal b = is_digit b
is_one Base.Hex b = is_hex b

-- the base that the letter after a 0 names
unfoldable pub base_named : ℕ → Base
base_named b =
    if b is "b" || b is "B" then Base.Binary
    else if b is "o" || b is "O" then Base.Octal
    else if b is "x" || b is "X" then Base.Hex
    else Base.Decimal

unfoldable pub base_of : List ℕ → Base
base_of [] = Base.Decimal
base_of (b ∷ []) = Base.Decimal
base_of (b ∷ c ∷ rest) = if b is "0" then base_named c else Base.Decimal

unfoldable pub is_exponent : ℕ → Bool
is_exponent b = b is "e" || b is "E"

unfoldable pub is_sign : ℕ → Bool
is_sign b = b is "+" || b is "-"

-- b before the digits
unfoldable pub before : ℕ → Digits → Digits
before b (Digits.Read ds after) = Digits.Read (b ∷ ds) after
before b Digits.Undecided = Digits.Undecided

-- the text ends here
unfoldable pub last : Bool → ℕ → Digits
last end n = if end then Digits.Read [] n else Digits.Undecided

-- after a digit: one `_` between two digits is skipped
unfoldable pub digits_more : Base → Bool → ℕ → List ℕ → Digits
digits_more base end n [] = last end n
digits_more base end n (b ∷ []) =
    if is_one base b then before b (digits_more base end (suc n) [])
    else if b is "_" then last end n
    else Digits.Read [] n
digits_more base end n (b ∷ c ∷ rest) =
    if is_one base b then before b (digits_more base end (suc n) (c ∷ rest))
    else if b is "_" && is_one base c then before c (digits_more base end (suc (suc n)) rest)
    else Digits.Read [] n

unfoldable pub digits : Base → Bool → ℕ → List ℕ → Digits
digits base end n [] = last end n
digits base end n (b ∷ rest) = if is_one base b then before b (digits_more base end (suc n) rest) else Digits.Read [] n

-- after the `e`: a sign, then digits, each taken even with nothing after
unfoldable pub signed : Bool → ℕ → List ℕ → Digits
signed end n [] = last end n
signed end n (b ∷ rest) =
    if is_sign b then before b (digits Base.Decimal end (suc n) rest) else digits Base.Decimal end n (b ∷ rest)

-- bytes before the value
unfoldable pub onto : List ℕ → Reading → Reading
onto bs (Reading.Number literal value after) = Reading.Number literal (bs ++ value) after
onto bs Reading.Wait = Reading.Wait

-- digits are all that is left of a number
unfoldable pub closing : Literal → Digits → Reading
closing literal (Digits.Read ds after) = Reading.Number literal ds after
closing literal Digits.Undecided = Reading.Wait

-- digits, then what stands after them
unfoldable pub followed : Digits → (ℕ → Reading) → Reading
followed (Digits.Read ds after) next = onto ds (next after)
followed Digits.Undecided next = Reading.Wait

-- the exponent, which is stored as `e`, after its letter
unfoldable pub power : Bool → ℕ → List ℕ → Reading
power end n rest = onto (code "e" ∷ []) (closing Literal.Float (signed end n rest))

-- after a point and its digits: an exponent, bare or not
unfoldable pub exponent : Bool → ℕ → List ℕ → Reading
exponent end n [] = closing Literal.Float (last end n)
exponent end n (b ∷ rest) = if is_exponent b then power end (suc n) rest else Reading.Number Literal.Float [] n

unfoldable pub fraction : Bool → ℕ → List ℕ → Reading
fraction end n xs = followed (digits Base.Decimal end n xs) (λ (after : ℕ). exponent end after (drop (after - n) xs))

-- whether a digit follows
unfoldable pub digit_ahead : Bool → List ℕ → Ahead
digit_ahead end [] = if end then Ahead.No else Ahead.Undecided
digit_ahead end (b ∷ rest) = if is_digit b then Ahead.Yes else Ahead.No

-- whether a digit follows, or a sign and a digit
unfoldable pub power_ahead : Bool → List ℕ → Ahead
power_ahead end [] = if end then Ahead.No else Ahead.Undecided
power_ahead end (b ∷ rest) = if is_sign b then digit_ahead end rest else digit_ahead end (b ∷ rest)

-- with an exponent, or without
unfoldable pub decided : Ahead → Reading → Reading → Reading
decided Ahead.Yes some none = some
decided Ahead.No some none = none
decided Ahead.Undecided some none = Reading.Wait

-- an `e` at n, after whole digits: it makes a float only where digits follow
unfoldable pub marked : Bool → ℕ → List ℕ → Reading
marked end n rest = decided (power_ahead end rest) (power end (suc n) rest) (Reading.Number Literal.Integer [] n)

-- after whole digits: a point makes a float; else it is an integer
unfoldable pub tail : Bool → ℕ → List ℕ → Reading
tail end n [] = closing Literal.Integer (last end n)
tail end n (b ∷ rest) =
    if b is "." then onto (b ∷ []) (fraction end (suc n) rest)
    else if is_exponent b then marked end n rest
    else Reading.Number Literal.Integer [] n

unfoldable pub decimal : Bool → ℕ → List ℕ → Reading
decimal end n xs = followed (digits Base.Decimal end n xs) (λ (after : ℕ). tail end after (drop (after - n) xs))

-- after 0b, 0o, 0x: both bytes are taken even with no digit after
unfoldable pub prefixed : Base → Bool → ℕ → List ℕ → Reading
prefixed base end n xs = onto (take 2 xs) (closing Literal.Integer (digits base end (suc (suc n)) (drop 2 xs)))

unfoldable pub number_in : Base → Bool → ℕ → List ℕ → Reading
number_in Base.Decimal end n xs = decimal end n xs
number_in Base.Binary end n xs = prefixed Base.Binary end n xs
number_in Base.Octal end n xs = prefixed Base.Octal end n xs
number_in Base.Hex end n xs = prefixed Base.Hex end n xs

unfoldable pub number_at : Bool → ℕ → List ℕ → Reading
number_at end n xs = number_in (base_of xs) end n xs

unfoldable pub scanned : Reading → Option Scanned
scanned (Reading.Number literal value after) = Some (record { literal = literal; after = after; len = length value })
scanned Reading.Wait = None

unfoldable pub lower_exponent : ℕ → ℕ
lower_exponent b = if b is "E" then code "e" else b

-- a byte of a literal as a value has it: outside hexadecimal `E` is stored as `e`
unfoldable pub spelling : Base → ℕ → ℕ
spelling Base.Hex b = b
spelling Base.Binary b = lower_exponent b
spelling Base.Octal b = lower_exponent b
spelling Base.Decimal b = lower_exponent b

unfoldable pub spelled : Base → List ℕ → List ℕ
spelled base [] = []
spelled base (b ∷ rest) = if b is "_" then spelled base rest else spelling base b ∷ spelled base rest

-- the value of the literal from `at` up to `after`
unfoldable pub value_of : List ℕ → ℕ → ℕ → List ℕ
value_of src at after = spelled (base_of (drop at src)) (take (after - at) (drop at src))

-- sheets i, j, k; `1.5ex` is not read back; then texts where no number stands
abbrev integer : String → ℕ → Reading
integer text after = Reading.Number Literal.Integer (bytes text) after

abbrev float : String → ℕ → Reading
float text after = Reading.Number Literal.Float (bytes text) after

abbrev number : Bool → String → Reading
number end text = number_at end 0 (bytes text)

sheets :
    (number true "1__0" ≡ integer "1" 1)
    × (number true "0x" ≡ integer "0x" 2)
    × (number true "1E5" ≡ float "1e5" 3)
    × (number true "1.5e+x" ≡ float "1.5e+" 5)
    × (number false "1e" ≡ Reading.Wait)
    × (number false "1e+x" ≡ integer "1" 1)
    × (number false "1.5ex" ≡ float "1.5e" 4)
    × (number true "1_234.567" ≡ float "1234.567" 9)
    × (number true "0xE_E." ≡ integer "0xEE" 5)
    × (number true "x" ≡ integer "" 0)
    × (number true "e5" ≡ float "e5" 2)
    × (number true "." ≡ float "." 1)
    × (number true "_1" ≡ integer "" 0)
    × (number true "" ≡ integer "" 0)
unfolding number_at number_in last marked base_of base_named prefixed decimal tail decided power_ahead digit_ahead fraction exponent power signed digits digits_more before onto closing followed is_exponent is_sign is_one is_digit is_hex bytes
sheets = (refl, refl, refl, refl, refl, refl, refl, refl, refl, refl, refl, refl, refl, refl)
