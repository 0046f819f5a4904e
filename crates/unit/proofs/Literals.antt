-- A literal in quotes is read as the manual tells it, both ways: closed, with its value and its place, or not closed. Assumes nothing.
--   single_whole                   in single quotes, on every text
--   double_whole                   in double quotes, on every text that is ordinary; to the manual's choice any octal
--                                  number is
--   double_otherwise               on every other the reading ends at the first other place: at a variable, or refused
--                                  with 2 or, under the Rust's choice, with 3
--   single_manual, double_manual   where `text_at` ends at the quote, `literal` gives the same value and the same place
use Rattle.std.specs.Prelude.{if◌then◌else◌}
use Prim.Native.Nat.{ℕ, zero, suc, ◌+◌, ◌-◌}
use Prim.Native.Char.{Char, code}
use Rattle.byte.specs.declared.Refusal.{Refusal}
use mathlib.Core.Path.{◌≡◌, refl, sym, ap, subst, ◌∙◌}
use mathlib.Core.Bool.{Bool, true, false, not, ◌&&◌, ◌||◌}
use mathlib.Core.List.{List, [], ◌∷◌}
use native.Mathlib.Omega.{arith}
use lib.Dec.{eqb}
use lib.ListN.{length}
use borrow.Author.Tests.{eqb-true}
use Rattle.byte.specs.declared.Octal.{Octal}
use Rattle.byte.specs.Words.{◌is◌}
use Rattle.byte.specs.Bytes.{is_start}
use Rattle.byte.proofs.Tests.{choice}
use Rattle.unit.specs.declared.Mode.{Mode}
use Rattle.unit.specs.declared.Stop.{Stop}
use Rattle.unit.specs.declared.TextUnit.{TextUnit}
use Rattle.unit.specs.Digits.{utf8}
use Rattle.unit.specs.Escapes.{overflowing, escape, quote_escape}
use Rattle.unit.specs.Interpolations.{found, find_dollar, find_brace}
use Rattle.unit.specs.Units.{unit_at}
use Rattle.unit.specs.Readings.{Reading, Text, Refused, Wait, onto, taken, after_of, collected, loses_break, finished, text_at}
use Rattle.unit.specs.Manual.{Said, Means, Open, Nothing, is_open, Literal, Closed, Unsaid, Unclosed, before, meant, taken_of}
use Rattle.unit.specs.Manual.{literal, or_else, said_by, says, double_quoted, single_quoted, digits_of, number, unmatched}
use Rattle.unit.specs.Manual.{fits, is_variable, is_agreed, first_other, is_ordinary, reading_of, EndsAt}
use Rattle.unit.proofs.Stays.{clash}
use Rattle.unit.proofs.Digits.{fits_not}
use Rattle.unit.proofs.Manual.{escape_manual, escape_overflow, escape_unmatched, escape_open, quote_escape_manual, single_open}

-- a reading of a text with this first other place: the manual's literal where there is none
abbrev Whole : Octal → ℕ → Literal → List ℕ → Reading → Type 0
Whole octals hi l [] r = r ≡ reading_of hi l
Whole octals hi l (b ∷ rest) r = EndsAt octals hi (b ∷ rest) r

before_onto : (hi : ℕ) (vs : List ℕ) (l : Literal) → onto vs (reading_of hi l) ≡ reading_of hi (before vs l)
unfolding reading_of onto before
before_onto hi vs (Closed value after) = refl
before_onto hi vs Unsaid = refl
before_onto hi vs Unclosed = refl

ends_at_onto : (octals : Octal) (hi : ℕ) (vs ys : List ℕ) (r : Reading) → EndsAt octals hi ys r
    → EndsAt octals hi ys (onto vs r)
unfolding onto
ends_at_onto octals hi vs _ _ (EndsAt.variable h) = EndsAt.variable h
ends_at_onto octals hi vs _ _ (EndsAt.overflow s o h) = EndsAt.overflow s o h
ends_at_onto octals hi vs _ _ (EndsAt.unmatched_code s h) = EndsAt.unmatched_code s h
ends_at_onto octals hi vs _ _ (EndsAt.no_code_point s h) = EndsAt.no_code_point s h

-- bytes before what is read, and before the literal that it is
whole_onto : (octals : Octal) (hi : ℕ) (vs : List ℕ) (l : Literal) (ys : List ℕ) (r : Reading) → Whole octals hi l ys r
    → Whole octals hi (before vs l) ys (onto vs r)
whole_onto octals hi vs l [] r e = ap (onto vs) e ∙ before_onto hi vs l
whole_onto octals hi vs l (b ∷ rest) r e = ends_at_onto octals hi vs (b ∷ rest) r e

-- a table always says something
said_by_told : (table : List (List ℕ → Said)) (xs : List ℕ) → said_by table xs ≡ Nothing → ⊥
unfolding said_by or_else
said_by_told [] xs e = clash cc
said_by_told (entry ∷ entries) xs e = go (entry xs) (said_by_told entries xs) e
  where
    go : (s : Said) → (said_by entries xs ≡ Nothing → ⊥) → or_else s (said_by entries xs) ≡ Nothing → ⊥
    go (Means vs k) ih e = clash cc
    go Open ih e = clash cc
    go Nothing ih e = ih e

-- after a backslash at n: a unit that says what the table says, and the literal after it; t k is the first other place after k bytes
module _ (octals : Octal) (m : Mode) (table : List (List ℕ → Said)) (quote : Char) (hi n : ℕ) (rest : List ℕ)
    (t : ℕ → List ℕ)
    (ih : (k : ℕ) → Whole octals hi (literal table quote k (suc n) rest) (t k) (collected m [] true k (suc n) rest))
  where
    whole_escape : (u : TextUnit) → says (suc n) u ≡ said_by table rest → is_open (said_by table rest) ≡ false
        → Whole octals hi (meant (said_by table rest) (literal table quote (taken_of (said_by table rest)) (suc n) rest))
        (t (taken_of (said_by table rest)))
        (taken u (collected m [] true (after_of u - suc n) (suc n) rest))
    unfolding taken after_of says meant taken_of is_open
    whole_escape (TextUnit.Byte v a) h o = rw (← h) (whole_onto octals hi (v ∷ []) _ (t (a - suc n)) _ (ih (a - suc n)))
    whole_escape (TextUnit.Point c a) h o =
        rw (← h) (whole_onto octals hi (utf8 c) _ (t (a - suc n)) _ (ih (a - suc n)))
    whole_escape (TextUnit.Ends stop from after) h o = absurd (said_by_told table rest (sym h))
    whole_escape (TextUnit.Fault refusal place) h o = clash cc
    whole_escape TextUnit.Undecided h o = absurd (said_by_told table rest (sym h))

    -- a byte that stands for itself
    whole_byte : (b : ℕ)
        → Whole octals hi (before (b ∷ []) (literal table quote zero (suc n) rest)) (t zero)
        (onto (b ∷ []) (collected m [] true (suc n - suc n) (suc n) rest))
    whole_byte b =
        let z : suc n - suc n ≡ 0 = omega arith in
        rw z (whole_onto octals hi (b ∷ []) _ (t zero) _ (ih zero))

-- the closing quote at n
whole_quote : (n hi : ℕ) → Text [] Stop.Quote n (suc n) ≡ reading_of hi (Closed [] (suc n))
unfolding reading_of
whole_quote n hi =
    let one : suc n - 1 ≡ n = omega arith in
    ap (λ (k : ℕ). Text [] Stop.Quote k (suc n)) (sym one)

-- a mode whose texts lose no break
pub finished_whole : (m : Mode) (r : Reading) → ((stop : Stop) → loses_break m stop ≡ false) → finished m r ≡ r
unfolding finished
finished_whole m (Text value stop from after) h = rw (h stop)
finished_whole m (Refused refusal place) h = refl
finished_whole m Wait h = refl

-- ---- single quotes

or_else_closed : (s other : Said) → is_open s ≡ false → is_open other ≡ false → is_open (or_else s other) ≡ false
unfolding or_else is_open
or_else_closed (Means vs k) other h e = refl
or_else_closed Open other h e = h
or_else_closed Nothing other h e = e

single_quoted_closed : (xs : List ℕ) → is_open (said_by single_quoted xs) ≡ false
unfolding said_by single_quoted is_open
single_quoted_closed xs = or_else_closed _ _ (single_open "'" "'" xs) (or_else_closed _ _ (single_open "\\" "\\" xs) refl)

single_collected : (skip n : ℕ) (xs : List ℕ)
    → collected Mode.Single [] true skip n xs ≡ reading_of (n + length xs) (literal single_quoted "'" skip n xs)
unfolding collected literal unit_at taken after_of reading_of
single_collected skip n [] = ap (Refused Refusal.UnexpectedEndOfFile) (omega arith)
single_collected (suc k) n (b ∷ xs) =
    let z : suc n + length xs ≡ n + suc (length xs) = omega arith in
    rw (← z) (single_collected k (suc n) xs)
single_collected zero n (b ∷ xs) =
    let z : suc n + length xs ≡ n + suc (length xs) = omega arith in
    go (b is "'") (b is "\\") (λ k. rw (← z) (single_collected k (suc n) xs))
  where
    hi : ℕ
    hi = n + suc (length xs)

    go : (t s : Bool)
        → ((k : ℕ) → collected Mode.Single [] true k (suc n) xs ≡ reading_of hi (literal single_quoted "'" k (suc n) xs))
        → taken (if t then TextUnit.Ends Stop.Quote n (suc n) else if s then quote_escape true (suc n) xs else TextUnit.Byte b (suc n))
        (collected Mode.Single [] true
        (after_of (if t then TextUnit.Ends Stop.Quote n (suc n) else if s then quote_escape true (suc n) xs else TextUnit.Byte b (suc n)) - suc n)
        (suc n) xs)
        ≡ reading_of hi
        (if t then Closed [] (suc n)
        else if s then meant (said_by single_quoted xs) (literal single_quoted "'" (taken_of (said_by single_quoted xs)) (suc n) xs)
        else before (b ∷ []) (literal single_quoted "'" zero (suc n) xs))
    go true s ih = whole_quote n hi
    go false true ih =
        whole_escape Octal.Rust Mode.Single single_quoted "'" hi n xs (λ k. []) ih (quote_escape true (suc n) xs)
        (quote_escape_manual (suc n) xs)
        (single_quoted_closed xs)
    go false false ih = whole_byte Octal.Rust Mode.Single single_quoted "'" hi n xs (λ k. []) ih b

pub single_whole : (n : ℕ) (xs : List ℕ)
    → text_at Mode.Single [] true n xs ≡ reading_of (n + length xs) (literal single_quoted "'" 0 n xs)
unfolding text_at loses_break
single_whole n xs = finished_whole Mode.Single _ (λ stop. refl) ∙ single_collected 0 n xs

-- ---- double quotes

-- what is neither quote nor backslash begins a variable, or stands for itself
dollar_unit : (n b : ℕ) (xs : List ℕ) → b ≡ code "$"
    → find_dollar true n xs ≡ (if is_variable b xs then found n else TextUnit.Byte b (suc n))
unfolding find_dollar is_variable
dollar_unit n b [] e = rw e
dollar_unit n b (c ∷ xs) e = rw e (go (c is "{" || is_start c))
  where
    go : (t : Bool) → (if t then found n else TextUnit.Byte (code "$") (suc n))
        ≡ (if t || false then found n else TextUnit.Byte (code "$") (suc n))
    go true = refl
    go false = refl

brace_unit : (n b : ℕ) (xs : List ℕ) → b ≡ code "{"
    → find_brace true n xs ≡ (if is_variable b xs then found n else TextUnit.Byte b (suc n))
unfolding find_brace is_variable
brace_unit n b [] e = rw e
brace_unit n b (c ∷ xs) e = rw e

no_variable : (b : ℕ) (xs : List ℕ) → b is "$" ≡ false → b is "{" ≡ false → is_variable b xs ≡ false
unfolding is_variable
no_variable b [] d o = refl
no_variable b (c ∷ xs) d o = rw (d, o)

variable_unit : (n b : ℕ) (xs : List ℕ)
    → (if b is "$" then find_dollar true n xs else if b is "{" then find_brace true n xs else TextUnit.Byte b (suc n))
    ≡ (if is_variable b xs then found n else TextUnit.Byte b (suc n))
variable_unit n b xs =
    choice (λ u. u ≡ unit) (b is "$") _ _
    (λ d. dollar_unit n b xs (eqb-true b (code "$") d))
    (λ d. choice (λ u. u ≡ unit) (b is "{") _ _
    (λ o. brace_unit n b xs (eqb-true b (code "{") o))
    (λ o. rw (no_variable b xs d o)))
  where
    unit : TextUnit
    unit = if is_variable b xs then found n else TextUnit.Byte b (suc n)

-- a backslash at n
module _ (octals : Octal) (hi n b : ℕ) (rest : List ℕ) (s : b is "\\" ≡ true) (z : hi ≡ n + suc (length rest))
    (ih : (k : ℕ)
    → Whole octals hi (literal double_quoted "\"" k (suc n) rest) (first_other octals k rest)
    (collected (Mode.Double octals) [] true k (suc n) rest))
  where
    abbrev Escaped : Bool → TextUnit → Type 0
    Escaped t u =
        Whole octals hi
        (meant (said_by double_quoted rest) (literal double_quoted "\"" (taken_of (said_by double_quoted rest)) (suc n) rest))
        (if t then first_other octals (taken_of (said_by double_quoted rest)) rest else b ∷ rest)
        (taken u (collected (Mode.Double octals) [] true (after_of u - suc n) (suc n) rest))

    double_escape : Escaped (is_agreed octals rest) (escape octals true (suc n) rest)
    unfolding is_agreed overflowing taken after_of is_open
    double_escape = go _ _ (said_by double_quoted rest) refl refl refl
      where
        after : suc n ≡ hi - length rest
        after = omega (arith, z)

        refused : octals ≡ Octal.Rust → (value place : ℕ) → overflowing octals value place ≡ TextUnit.Fault Refusal.InvalidOctalEscape place
        refused z value place = rw z

        go : (f m : Bool) (s : Said) → fits octals (number 8 0 (digits_of 8 3 rest)) ≡ f → unmatched rest ≡ m
            → said_by double_quoted rest ≡ s
            → Escaped ((f && not m) && not (is_open s)) (escape octals true (suc n) rest)
        go false m _ h u e =
            let x = fits_not octals _ h in
            rw (escape_overflow octals (suc n) rest x.1, refused x.0 _ _, after) (EndsAt.overflow s x.0 x.1)
        go true true _ h u e = rw (escape_unmatched octals (suc n) rest u, after) (EndsAt.unmatched_code s u)
        go true false Open h u e = rw (escape_open octals (suc n) rest e, after) (EndsAt.no_code_point s e)
        go true false (Means vs k) h u e =
            whole_escape octals (Mode.Double octals) double_quoted "\"" hi n rest (λ k. first_other octals k rest) ih
            (escape octals true (suc n) rest)
            (escape_manual octals (suc n) rest h u)
            (rw e)
        go true false Nothing h u e = absurd (said_by_told double_quoted rest e)

double_collected : (octals : Octal) (skip n : ℕ) (xs : List ℕ)
    → Whole octals (n + length xs) (literal double_quoted "\"" skip n xs) (first_other octals skip xs)
    (collected (Mode.Double octals) [] true skip n xs)
unfolding collected literal first_other unit_at taken after_of reading_of
double_collected octals skip n [] = ap (Refused Refusal.UnexpectedEndOfFile) (omega arith)
double_collected octals (suc k) n (b ∷ xs) =
    let z : suc n + length xs ≡ n + suc (length xs) = omega arith in
    rw (← z) (double_collected octals k (suc n) xs)
double_collected octals zero n (b ∷ xs) =
    let z : suc n + length xs ≡ n + suc (length xs) = omega arith in
    rw (variable_unit n b xs)
    (go (b is "\"") (b is "\\") (is_variable b xs) refl refl (λ k. rw (← z) (double_collected octals k (suc n) xs)))
  where
    hi : ℕ
    hi = n + suc (length xs)

    unit : Bool → Bool → Bool → TextUnit
    unit t s v =
        if t then TextUnit.Ends Stop.Quote n (suc n) else if s then escape octals true (suc n) xs
        else if v then found n else TextUnit.Byte b (suc n)

    go : (t s v : Bool) → b is "\\" ≡ s → is_variable b xs ≡ v
        → ((k : ℕ)
        → Whole octals hi (literal double_quoted "\"" k (suc n) xs) (first_other octals k xs)
        (collected (Mode.Double octals) [] true k (suc n) xs))
        → Whole octals hi
        (if t then Closed [] (suc n)
        else if s then meant (said_by double_quoted xs) (literal double_quoted "\"" (taken_of (said_by double_quoted xs)) (suc n) xs)
        else before (b ∷ []) (literal double_quoted "\"" zero (suc n) xs))
        (if t then []
        else if s then (if is_agreed octals xs then first_other octals (taken_of (said_by double_quoted xs)) xs else b ∷ xs)
        else if v then b ∷ xs
        else first_other octals zero xs)
        (taken (unit t s v) (collected (Mode.Double octals) [] true (after_of (unit t s v) - suc n) (suc n) xs))
    go true s v e f ih = whole_quote n hi
    go false true v e f ih = double_escape octals hi n b xs e refl ih
    go false false true e f ih =
        let here : n ≡ hi - suc (length xs) = omega arith in
        subst (λ k. EndsAt octals hi (b ∷ xs) (Text [] Stop.Interpolation k k)) (sym here) (EndsAt.variable f)
    go false false false e f ih =
        whole_byte octals (Mode.Double octals) double_quoted "\"" hi n xs (λ k. first_other octals k xs) ih b

double_text : (octals : Octal) (n : ℕ) (xs : List ℕ)
    → Whole octals (n + length xs) (literal double_quoted "\"" 0 n xs) (first_other octals 0 xs)
    (text_at (Mode.Double octals) [] true n xs)
unfolding text_at loses_break
double_text octals n xs =
    rw (finished_whole (Mode.Double octals) (collected (Mode.Double octals) [] true 0 n xs) (λ stop. refl))
    (double_collected octals 0 n xs)

pub double_whole : (octals : Octal) (n : ℕ) (xs : List ℕ) → is_ordinary octals xs ≡ true
    → text_at (Mode.Double octals) [] true n xs ≡ reading_of (n + length xs) (literal double_quoted "\"" 0 n xs)
unfolding is_ordinary
double_whole octals n xs h = go (first_other octals 0 xs) h (double_text octals n xs)
  where
    go : (ys : List ℕ) → eqb (length ys) 0 ≡ true
        → Whole octals (n + length xs) (literal double_quoted "\"" 0 n xs) ys (text_at (Mode.Double octals) [] true n xs)
        → text_at (Mode.Double octals) [] true n xs ≡ reading_of (n + length xs) (literal double_quoted "\"" 0 n xs)
    go [] h w = w
    go (b ∷ rest) h w = absurd (omega (arith, eqb-true (suc (length rest)) 0 h))

pub double_otherwise : (octals : Octal) (n : ℕ) (xs : List ℕ) → is_ordinary octals xs ≡ false
    → EndsAt octals (n + length xs) (first_other octals 0 xs) (text_at (Mode.Double octals) [] true n xs)
unfolding is_ordinary
double_otherwise octals n xs h = go (first_other octals 0 xs) h (double_text octals n xs)
  where
    go : (ys : List ℕ) → eqb (length ys) 0 ≡ false
        → Whole octals (n + length xs) (literal double_quoted "\"" 0 n xs) ys (text_at (Mode.Double octals) [] true n xs)
        → EndsAt octals (n + length xs) ys (text_at (Mode.Double octals) [] true n xs)
    go [] h w = clash cc
    go (b ∷ rest) h w = w

-- ---- up to the quote

-- what is read as a closed literal is one
closed_read : (hi : ℕ) (l : Literal) (value : List ℕ) (from after : ℕ) → reading_of hi l ≡ Text value Stop.Quote from after
    → l ≡ Closed value after
unfolding reading_of
closed_read hi (Closed v a) value from after e = cc
closed_read hi Unsaid value from after e = clash cc
closed_read hi Unclosed value from after e = clash cc

ends_at_read : (octals : Octal) (hi : ℕ) (ys : List ℕ) (r : Reading) (value : List ℕ) (from after : ℕ)
    → EndsAt octals hi ys r
    → r ≡ Text value Stop.Quote from after → ⊥
ends_at_read octals hi _ _ value from after (EndsAt.variable h) e = clash cc
ends_at_read octals hi _ _ value from after (EndsAt.overflow s o h) e = clash cc
ends_at_read octals hi _ _ value from after (EndsAt.unmatched_code s h) e = clash cc
ends_at_read octals hi _ _ value from after (EndsAt.no_code_point s h) e = clash cc

pub single_manual : (n : ℕ) (xs value : List ℕ) (from after : ℕ) → text_at Mode.Single [] true n xs ≡ Text value Stop.Quote from after
    → literal single_quoted "'" 0 n xs ≡ Closed value after
single_manual n xs value from after e = closed_read _ _ value from after (sym (single_whole n xs) ∙ e)

pub double_manual : (octals : Octal) (n : ℕ) (xs value : List ℕ) (from after : ℕ)
    → text_at (Mode.Double octals) [] true n xs ≡ Text value Stop.Quote from after
    → literal double_quoted "\"" 0 n xs ≡ Closed value after
double_manual octals n xs value from after e = go _ refl
  where
    go : (t : Bool) → is_ordinary octals xs ≡ t → literal double_quoted "\"" 0 n xs ≡ Closed value after
    go true h = closed_read _ _ value from after (sym (double_whole octals n xs h) ∙ e)
    go false h = absurd (ends_at_read octals _ _ _ value from after (double_otherwise octals n xs h) e)
