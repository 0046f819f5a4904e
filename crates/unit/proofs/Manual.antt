-- The reader of escapes says what the PHP manual's tables say:
--   escape_manual         in double quotes, where the choice reads the octal number and a `\u{` is matched
--   escape_manual_all     so under the manual's choice of any octal number
--   escape_overflow       which unit a number over 255 is, after its digits: refusal 3 under the Rust's choice; under
--                         the manual's the byte of its low eight bits, as the manual lets it overflow
--   escape_unmatched      where a `\u{` is not matched, it is refusal 2 after its digits: to the manual it is text
--   escape_open           where the manual does not say what a code point means, it is refusal 2 after its brace
--   quote_escape_manual   in single quotes
-- Code points first (digits: Digits.antt), then the tables, entry by entry; `if_both` goes down a reader and an entry
-- at once.
-- Assumes nothing.
use Rattle.std.specs.Prelude.{if◌then◌else◌}
use Rattle.byte.specs.declared.Refusal.{Refusal}
use mathlib.Core.Path.{◌≡◌, refl, ap, ◌∙◌}
use mathlib.Core.Bool.{Bool, true, false, not, ◌&&◌, ◌||◌}
use mathlib.Core.List.{List, [], ◌∷◌}
use Prim.Native.Nat.{ℕ, suc, ◌+◌, ◌-◌, ◌*◌, ◌%◌, ◌<◌, ◌≤◌}
use Prim.Native.Char.{Char, code}
use native.Mathlib.Omega.{arith}
use native.Mathlib.Nat.{mod-eq_of_lt}
use lib.Dec.{ltb}
use lib.ListN.{length, drop}
use borrow.Author.Tests.{eqb-true, ltb-true, not-true}
use Rattle.byte.specs.declared.Octal.{Octal}
use Rattle.byte.specs.Words.{◌is◌, every}
use Rattle.byte.proofs.Tests.{choice, &&-left, &&-right, if_both}
use Rattle.unit.specs.declared.TextUnit.{TextUnit}
use Rattle.unit.specs.Digits.{digit_value, is_scalar, utf8}
use Rattle.unit.specs.Escapes.{letters, letter_in, letter_value, overflowing, digits, hex, code_point, braced, escape}
use Rattle.unit.specs.Escapes.{quote_escape}
use Rattle.unit.specs.Manual.{Said, Means, Open, Nothing, is_open, is_nothing, digits_of, all_digits, number, single, octal_of, octal}
use Rattle.unit.specs.Manual.{hex_of, hexadecimal, code_of, unicode, unmatched, double_quoted, single_quoted, or_else, said_by}
use Rattle.unit.specs.Manual.{says, fits}
use Rattle.unit.proofs.Openings.{other_byte}
use Rattle.unit.proofs.Stays.{clash}
use Rattle.unit.proofs.Digits.{fits_small, digits_written, digits_overflows, hex_fits}

-- ---- code points

-- what stands after the digits that come first
abbrev behind : List ℕ → List ℕ
behind xs = drop (length (all_digits 16 xs)) xs

-- one digit or more, with this value, end before n; then these bytes
point_from : ℕ → ℕ → List ℕ → TextUnit
point_from value n [] = TextUnit.Fault Refusal.InvalidUnicodeEscape n
point_from value n (b ∷ rest) =
    if b is "}" then (if is_scalar value then TextUnit.Point value (suc n) else TextUnit.Fault Refusal.InvalidUnicodeEscape (suc n)) else TextUnit.Fault Refusal.InvalidUnicodeEscape n

-- after `\u{`, whose `u` stands at p: these digits, then these bytes
point_of : ℕ → List ℕ → List ℕ → TextUnit
point_of p [] rest = TextUnit.Fault Refusal.InvalidUnicodeEscape (p + 2 + 0)
point_of p (d ∷ ds) rest = point_from (number 16 0 (d ∷ ds)) (p + 2 + length (d ∷ ds)) rest

code_point_from : (value n : ℕ) (xs : List ℕ)
    → code_point true true value n xs ≡ point_from (number 16 value (all_digits 16 xs)) (n + length (all_digits 16 xs)) (behind xs)
unfolding code_point all_digits number point_from
code_point_from value n [] = ap (TextUnit.Fault Refusal.InvalidUnicodeEscape) (omega arith)
code_point_from value n (b ∷ xs) =
    if_both (λ u ds. u ≡ point_from (number 16 value ds) (n + length ds) (drop (length ds) (b ∷ xs))) (ltb (digit_value b) 16)
    (λ e. code_point_from (value * 16 + digit_value b) (suc n) xs ∙ rw next)
    (λ e. rw none)
  where
    next : suc n + length (all_digits 16 xs) ≡ n + suc (length (all_digits 16 xs))
    next = omega arith

    none : n + 0 ≡ n
    none = omega arith

code_point_of : (p : ℕ) (xs : List ℕ) → code_point true false 0 (suc (suc p)) xs ≡ point_of p (all_digits 16 xs) (behind xs)
unfolding code_point all_digits number point_of
code_point_of p [] = ap (TextUnit.Fault Refusal.InvalidUnicodeEscape) (omega arith)
code_point_of p (b ∷ xs) =
    if_both (λ u ds. u ≡ point_of p ds (drop (length ds) (b ∷ xs))) (ltb (digit_value b) 16)
    (λ e. code_point_from (0 * 16 + digit_value b) (suc (suc (suc p))) xs ∙ rw next)
    (λ e. ap (TextUnit.Fault Refusal.InvalidUnicodeEscape) (omega arith))
  where
    next : suc (suc (suc p)) + length (all_digits 16 xs) ≡ p + 2 + suc (length (all_digits 16 xs))
    next = omega arith

-- what the unit is, by what the entry says
record Told (p : ℕ) (ds : List ℕ) (u : TextUnit) (s : Said) : Type 0 where
  means : is_nothing s ≡ false → says p u ≡ s
  other : is_nothing s ≡ true → u ≡ TextUnit.Fault Refusal.InvalidUnicodeEscape (p + 2 + length ds)
  unsaid : s ≡ Open → u ≡ TextUnit.Fault Refusal.InvalidUnicodeEscape (p + 3 + length ds)

point_told : (p : ℕ) (ds rest : List ℕ) → Told p ds (point_of p ds rest) (code_of ds rest)
unfolding point_of point_from code_of is_nothing says
point_told p [] rest = record { means = λ e. clash cc; other = λ e. refl; unsaid = λ e. clash cc }
point_told p (d ∷ ds) [] = record { means = λ e. clash cc; other = λ e. refl; unsaid = λ e. clash cc }
point_told p (d ∷ ds) (b ∷ rest) =
    if_both (Told p (d ∷ ds)) (b is "}")
    (λ e. if_both (Told p (d ∷ ds)) (is_scalar (number 16 0 (d ∷ ds)))
    (λ f. record { means = λ h. ap (Means (utf8 (number 16 0 (d ∷ ds)))) three; other = λ h. clash cc; unsaid = λ h. clash cc })
    (λ f. record { means = λ h. refl; other = λ h. clash cc; unsaid = λ h. ap (TextUnit.Fault Refusal.InvalidUnicodeEscape) (omega arith) }))
    (λ e. record { means = λ h. clash cc; other = λ h. refl; unsaid = λ h. clash cc })
  where
    three : suc (p + 2 + length (d ∷ ds)) - p ≡ 3 + length (d ∷ ds)
    three = omega arith

-- ---- the entries

abbrev itself : Said
itself = Means (code "\\" ∷ []) 0

backslash_says : (p : ℕ) → says p (TextUnit.Byte (code "\\") p) ≡ itself
unfolding says
backslash_says p = ap (Means (code "\\" ∷ [])) (omega arith)

hex_says : (octals : Octal) (p : ℕ) (xs : List ℕ)
    → says p (hex octals true p xs) ≡ or_else (hex_of (digits_of 16 2 xs)) itself
unfolding hex digits_of hex_of or_else number
hex_says octals p [] = backslash_says p
hex_says octals p (b ∷ xs) =
    if_both (λ u ds. says p u ≡ or_else (hex_of ds) itself) (ltb (digit_value b) 16)
    (λ e. written (ltb-true (digit_value b) 16 e))
    (λ e. backslash_says p)
  where
    written : digit_value b < 16
        → says p (digits octals true 16 1 (digit_value b) (suc (suc p)) xs)
        ≡ Means (number 16 (0 * 16 + digit_value b) (digits_of 16 1 xs) ∷ []) (1 + suc (length (digits_of 16 1 xs)))
    written h =
        let z : 0 * 16 + digit_value b ≡ digit_value b = omega arith in
        let k : suc (suc p) - p + length (digits_of 16 1 xs) ≡ 1 + suc (length (digits_of 16 1 xs)) = omega arith in
        let small = hex_fits (digit_value b) xs h in
        digits_written octals p 16 1 (digit_value b) (suc (suc p)) xs (omega arith) (fits_small octals _ small)
        ∙ rw (mod-eq_of_lt small, k, z)

unicode_other : (b : ℕ) (xs : List ℕ) → b is "u" ≡ false → unicode (b ∷ xs) ≡ Nothing
unfolding unicode
unicode_other b [] h = refl
unicode_other b (c ∷ xs) h = rw h

or_else_said : (s other : Said) → is_nothing s ≡ false → or_else s other ≡ s
unfolding or_else is_nothing
or_else_said (Means vs k) other e = refl
or_else_said Open other e = refl
or_else_said Nothing other e = clash cc

braced_says : (p b : ℕ) (xs : List ℕ) → b is "u" ≡ true → unmatched (b ∷ xs) ≡ false
    → says p (braced true p xs) ≡ or_else (unicode (b ∷ xs)) itself
unfolding braced unicode unmatched or_else
braced_says p b [] h m = backslash_says p
braced_says p b (c ∷ xs) h m = rw h (go (c is "{") (rw h at m))
  where
    go : (t : Bool) → (t && is_nothing (if t then code_of (all_digits 16 xs) (behind xs) else Nothing)) ≡ false
        → says p (if t then code_point true false 0 (suc (suc p)) xs else TextUnit.Byte (code "\\") p)
        ≡ or_else (if t then code_of (all_digits 16 xs) (behind xs) else Nothing) itself
    go true e =
        rw (code_point_of p xs, or_else_said (code_of (all_digits 16 xs) (behind xs)) itself e)
        ((point_told p (all_digits 16 xs) (behind xs)).means e)
    go false e = backslash_says p

-- after the letters
numbers_say : (octals : Octal) (p b : ℕ) (xs : List ℕ) → unmatched (b ∷ xs) ≡ false
    → fits octals (number 8 0 (digits_of 8 3 (b ∷ xs))) ≡ true
    → says p
    (if ltb (digit_value b) 8 then digits octals true 8 2 (digit_value b) (suc p) xs
    else if b is "x" then hex octals true p xs
    else if b is "u" then braced true p xs
    else TextUnit.Byte (code "\\") p)
    ≡ or_else (octal (b ∷ xs)) (or_else (hexadecimal (b ∷ xs)) (or_else (unicode (b ∷ xs)) itself))
unfolding octal octal_of digits_of hexadecimal or_else number
numbers_say octals p b xs m =
    if_both
    (λ u ds. fits octals (number 8 0 ds) ≡ true → says p u ≡ or_else (octal_of ds) (or_else (hexadecimal (b ∷ xs)) last))
    (ltb (digit_value b) 8)
    (λ e h. written h)
    (λ e h. if_both (λ u s. says p u ≡ or_else s last) (b is "x")
    (λ f. rw (unicode_other b xs (no_u f)) (hex_says octals p xs))
    (λ f. choice (λ u. says p u ≡ last) (b is "u") _ _
    (λ g. braced_says p b xs g m)
    (λ g. rw (unicode_other b xs g) (backslash_says p))))
  where
    last : Said
    last = or_else (unicode (b ∷ xs)) itself

    no_u : b is "x" ≡ true → b is "u" ≡ false
    no_u h =
        let z : b ≡ code "x" = eqb-true b (code "x") h in
        rw z

    written : fits octals (number 8 (0 * 8 + digit_value b) (digits_of 8 2 xs)) ≡ true
        → says p (digits octals true 8 2 (digit_value b) (suc p) xs)
        ≡ Means (number 8 (0 * 8 + digit_value b) (digits_of 8 2 xs) % 256 ∷ []) (suc (length (digits_of 8 2 xs)))
    written h =
        let z : 0 * 8 + digit_value b ≡ digit_value b = omega arith in
        let k : suc p - p + length (digits_of 8 2 xs) ≡ suc (length (digits_of 8 2 xs)) = omega arith in
        digits_written octals p 8 2 (digit_value b) (suc p) xs (omega arith) (rw z at h) ∙ rw (k, z)

-- an entry for each of these letters, then the others
singles : List (Char × Char) → List (List ℕ → Said) → List (List ℕ → Said)
singles [] entries = entries
singles (row ∷ rows) entries = single row.0 row.1 ∷ singles rows entries

single_says : (p v w : ℕ) (t : Bool) (u : TextUnit) (s : Said) → ltb v 256 ≡ true
    → says p (if ltb w 256 then TextUnit.Byte w (suc p) else u) ≡ s
    → says p (if ltb (if t then v else w) 256 then TextUnit.Byte (if t then v else w) (suc p) else u)
    ≡ or_else (if t then Means (v ∷ []) 1 else Nothing) s
unfolding says or_else
single_says p v w true u s h e = rw h (ap (Means (v ∷ [])) (omega arith))
single_says p v w false u s h e = e

letters_say : (rows : List (Char × Char)) (entries : List (List ℕ → Said)) (p b : ℕ) (xs : List ℕ) (u : TextUnit)
    → every (λ row. ltb (code row.1) 256) rows ≡ true
    → says p u ≡ said_by entries (b ∷ xs)
    → says p (if ltb (letter_in rows b) 256 then TextUnit.Byte (letter_in rows b) (suc p) else u)
    ≡ said_by (singles rows entries) (b ∷ xs)
unfolding singles said_by single every
letters_say [] entries p b xs u h e = e
letters_say (row ∷ rows) entries p b xs u h e =
    single_says p (code row.1) (letter_in rows b) (b is row.0) u _ (&&-left (ltb (code row.1) 256) _ h)
    (letters_say rows entries p b xs u (&&-right (ltb (code row.1) 256) _ h) e)

-- ---- the tables

pub escape_manual : (octals : Octal) (p : ℕ) (xs : List ℕ) → fits octals (number 8 0 (digits_of 8 3 xs)) ≡ true
    → unmatched xs ≡ false
    → says p (escape octals true p xs) ≡ said_by double_quoted xs
unfolding escape letter_value said_by double_quoted singles single octal octal_of digits_of hexadecimal unicode or_else every
escape_manual octals p [] h m = backslash_says p
escape_manual octals p (b ∷ xs) h m =
    letters_say letters (octal ∷ hexadecimal ∷ unicode ∷ []) p b xs _ refl (numbers_say octals p b xs m h)

-- under the manual's choice of any octal number
pub escape_manual_all : (p : ℕ) (xs : List ℕ) → unmatched xs ≡ false
    → says p (escape Octal.Manual true p xs) ≡ said_by double_quoted xs
unfolding fits
escape_manual_all p xs m = escape_manual Octal.Manual p xs refl m

-- an octal digit is none of the letters
letter_in_other : (test : ℕ → Bool) (b : ℕ) → test b ≡ true → (rows : List (Char × Char))
    → every (λ row. not (test (code row.0))) rows ≡ true → letter_in rows b ≡ 256
unfolding every
letter_in_other test b h [] e = refl
letter_in_other test b h (row ∷ rows) e =
    rw (other_byte test (code row.0) b (not-true (test (code row.0)) (&&-left (not (test (code row.0))) _ e)) h)
    (letter_in_other test b h rows (&&-right (not (test (code row.0))) _ e))

pub escape_overflow : (octals : Octal) (p : ℕ) (xs : List ℕ) → 256 ≤ number 8 0 (digits_of 8 3 xs)
    → escape octals true p xs ≡ overflowing octals (number 8 0 (digits_of 8 3 xs)) (p + length (digits_of 8 3 xs))
unfolding escape letter_value digits_of digit_value number every
escape_overflow octals p [] h = absurd (omega arith)
escape_overflow octals p (b ∷ xs) h = go (ltb (digit_value b) 8) refl h
  where
    go : (t : Bool) → ltb (digit_value b) 8 ≡ t → 256 ≤ number 8 0 (if t then digit_value b ∷ digits_of 8 2 xs else [])
        → (if ltb (letter_in letters b) 256 then TextUnit.Byte (letter_in letters b) (suc p)
        else if t then digits octals true 8 2 (digit_value b) (suc p) xs
        else if b is "x" then hex octals true p xs
        else if b is "u" then braced true p xs
        else TextUnit.Byte (code "\\") p)
        ≡ overflowing octals (number 8 0 (if t then digit_value b ∷ digits_of 8 2 xs else []))
        (p + length (if t then digit_value b ∷ digits_of 8 2 xs else []))
    go true e k =
        let z : 0 * 8 + digit_value b ≡ digit_value b = omega arith in
        let w : number 8 (0 * 8 + digit_value b) (digits_of 8 2 xs) ≡ number 8 (digit_value b) (digits_of 8 2 xs) =
        ap (λ v. number 8 v (digits_of 8 2 xs)) z in
        rw (letter_in_other (λ x. ltb (digit_value x) 8) b e letters refl)
        (digits_overflows octals 8 2 (digit_value b) (suc p) xs (omega arith)
        ∙ rw w (ap (overflowing octals _) (omega arith)))
    go false e k = absurd (omega arith)

-- ---- code points that the reader refuses

-- after `u`
escape_braced : (octals : Octal) (p b : ℕ) (xs : List ℕ) → b is "u" ≡ true
    → escape octals true p (b ∷ xs) ≡ braced true p xs
unfolding escape letter_value digit_value
escape_braced octals p b xs h =
    let z : b ≡ code "u" = eqb-true b (code "u") h in
    rw z

-- after `u{`
escape_point : (octals : Octal) (p b c : ℕ) (xs : List ℕ) → (b is "u" && c is "{") ≡ true
    → escape octals true p (b ∷ c ∷ xs) ≡ point_of p (all_digits 16 xs) (behind xs)
unfolding braced
escape_point octals p b c xs h =
    escape_braced octals p b (c ∷ xs) (&&-left (b is "u") (c is "{") h)
    ∙ rw (&&-right (b is "u") (c is "{") h) (code_point_of p xs)

pub escape_unmatched : (octals : Octal) (p : ℕ) (xs : List ℕ) → unmatched xs ≡ true
    → escape octals true p xs ≡ TextUnit.Fault Refusal.InvalidUnicodeEscape (p + 2 + length (all_digits 16 (drop 2 xs)))
unfolding unmatched unicode
escape_unmatched octals p [] m = clash cc
escape_unmatched octals p (b ∷ []) m = clash cc
escape_unmatched octals p (b ∷ c ∷ xs) m =
    let h = &&-left (b is "u" && c is "{") _ m in
    let e : is_nothing (code_of (all_digits 16 xs) (behind xs)) ≡ true = rw h at m in
    escape_point octals p b c xs h ∙ (point_told p (all_digits 16 xs) (behind xs)).other e

-- the other entries leave nothing open
pub single_open : (letter byte : Char) (xs : List ℕ) → is_open (single letter byte xs) ≡ false
unfolding single is_open
single_open letter byte [] = refl
single_open letter byte (b ∷ xs) = choice (λ s. is_open s ≡ false) (b is letter) _ _ (λ e. refl) (λ e. refl)

octal_open : (ds : List ℕ) → is_open (octal_of ds) ≡ false
unfolding octal_of is_open
octal_open [] = refl
octal_open (d ∷ ds) = refl

hex_of_open : (ds : List ℕ) → is_open (hex_of ds) ≡ false
unfolding hex_of is_open
hex_of_open [] = refl
hex_of_open (d ∷ ds) = refl

hexadecimal_open : (xs : List ℕ) → is_open (hexadecimal xs) ≡ false
unfolding hexadecimal is_open
hexadecimal_open [] = refl
hexadecimal_open (b ∷ xs) = choice (λ s. is_open s ≡ false) (b is "x") _ _ (λ e. hex_of_open (digits_of 16 2 xs)) (λ e. refl)

or_else_open : (s other : Said) → is_open s ≡ false → or_else s other ≡ Open → other ≡ Open
unfolding or_else is_open
or_else_open (Means vs k) other h e = clash cc
or_else_open Open other h e = clash cc
or_else_open Nothing other h e = e

singles_open : (rows : List (Char × Char)) (entries : List (List ℕ → Said)) (xs : List ℕ)
    → said_by (singles rows entries) xs ≡ Open → said_by entries xs ≡ Open
unfolding singles said_by
singles_open [] entries xs e = e
singles_open (row ∷ rows) entries xs e =
    singles_open rows entries xs (or_else_open _ _ (single_open row.0 row.1 xs) e)

itself_open : (s : Said) → or_else s itself ≡ Open → s ≡ Open
unfolding or_else
itself_open (Means vs k) e = clash cc
itself_open Open e = refl
itself_open Nothing e = clash cc

unicode_open : (xs : List ℕ) → said_by double_quoted xs ≡ Open → unicode xs ≡ Open
unfolding said_by double_quoted singles octal
unicode_open xs e =
    itself_open (unicode xs)
    (or_else_open _ _ (hexadecimal_open xs)
    (or_else_open _ _ (octal_open (digits_of 8 3 xs)) (singles_open letters (octal ∷ hexadecimal ∷ unicode ∷ []) xs e)))

unicode_refused : (octals : Octal) (p : ℕ) (xs : List ℕ) → unicode xs ≡ Open
    → escape octals true p xs ≡ TextUnit.Fault Refusal.InvalidUnicodeEscape (p + 3 + length (all_digits 16 (drop 2 xs)))
unfolding unicode
unicode_refused octals p [] h = clash cc
unicode_refused octals p (b ∷ []) h = clash cc
unicode_refused octals p (b ∷ c ∷ xs) h = go (b is "u" && c is "{") refl h
  where
    go : (t : Bool) → (b is "u" && c is "{") ≡ t → (if t then code_of (all_digits 16 xs) (behind xs) else Nothing) ≡ Open
        → escape octals true p (b ∷ c ∷ xs) ≡ TextUnit.Fault Refusal.InvalidUnicodeEscape (p + 3 + length (all_digits 16 xs))
    go true e h = escape_point octals p b c xs e ∙ (point_told p (all_digits 16 xs) (behind xs)).unsaid h
    go false e h = clash cc

pub escape_open : (octals : Octal) (p : ℕ) (xs : List ℕ) → said_by double_quoted xs ≡ Open
    → escape octals true p xs ≡ TextUnit.Fault Refusal.InvalidUnicodeEscape (p + 3 + length (all_digits 16 (drop 2 xs)))
escape_open octals p xs e = unicode_refused octals p xs (unicode_open xs e)

pub quote_escape_manual : (p : ℕ) (xs : List ℕ) → says p (quote_escape true p xs) ≡ said_by single_quoted xs
unfolding quote_escape said_by single_quoted single or_else says
quote_escape_manual p [] = backslash_says p
quote_escape_manual p (b ∷ xs) = go (b is "'") (b is "\\") (eqb-true b (code "'")) (eqb-true b (code "\\"))
  where
    go : (t s : Bool) → (t ≡ true → b ≡ code "'") → (s ≡ true → b ≡ code "\\")
        → says p (if t || s then TextUnit.Byte b (suc p) else TextUnit.Byte (code "\\") p)
        ≡ or_else (if t then Means (code "'" ∷ []) 1 else Nothing)
        (or_else (if s then Means (code "\\" ∷ []) 1 else Nothing) itself)
    go true s f g = rw (f refl) (ap (Means (code "'" ∷ [])) (omega arith))
    go false true f g = rw (g refl) (ap (Means (code "\\" ∷ [])) (omega arith))
    go false false f g = backslash_says p
