-- No literal that a text begins with is longer than `longest_text`: `literal_covers`. With it: where a literal stands, a
-- number begins (`literal_begins`). Nothing here speaks of the reader. Assumes nothing.
use Prim.Native.Nat.{ℕ, suc, ◌≤◌}
use mathlib.Core.Path.{◌≡◌, refl, sym, subst}
use mathlib.Core.Bool.{true, false, false≢true}
use mathlib.Core.List.{List, [], ◌∷◌, ◌++◌, append_assoc}
use native.Mathlib.Omega.{arith}
use lib.ListN.{length, drop, length-append}
use borrow.Author.Tests.{eqb-true}
use Rattle.byte.specs.Words.{◌is◌, ◌from◌to◌}
use Rattle.byte.specs.Bytes.{is_digit, is_octal}
use Rattle.byte.proofs.Tests.{choice}
use Rattle.number.specs.declared.Base.{Base}
use Rattle.number.specs.declared.Literal.{Literal}
use Rattle.number.specs.Numbers.{is_one, base_named, base_of, is_exponent, is_sign}
use Rattle.number.specs.Manual.{grouped, is_lnum, maybe_lnum, is_binary, maybe_sign, IntegerLiteral, Dnum}
use Rattle.number.specs.Manual.{FloatLiteral, LiteralOf, starts_with, leading_more, leading, following, has_power}
use Rattle.number.specs.Manual.{signed_digits, power_text, makes_float, float_tail, integer_text, decimal_text}
use Rattle.number.specs.Manual.{is_named, is_bare_prefix, prefixed_text, longest_text, begins_number}
use Rattle.number.proofs.Values.{either, letter_either}
use Rattle.number.proofs.Manual.{range_in, names_none, grouped_octal, digit_sign, lnum, lnum_base, lnum_maybe}
use Rattle.number.proofs.Manual.{point_base}
use Rattle.number.proofs.Leading.{begins_split, leading_lnum, leading_begins, leading_more_run, leading_run}
use Rattle.number.proofs.Leading.{leading_none, leading_whole, leading_covers, grouped_starts}

-- octal digits go no further than decimal ones
octal_within : (xs : List ℕ) → length (leading is_octal xs) ≤ length (leading_more is_digit xs)
octal_within xs =
    either (starts_with is_octal xs)
    (λ s.
    let octals : List ℕ = leading is_octal xs in
    let wide = grouped_octal false true octals (λ e. absurd (false≢true e)) (leading_lnum is_octal xs s) in
    let after : List ℕ = drop (length octals) xs in
    subst (λ (ys : List ℕ). length octals ≤ length (leading_more is_digit ys))
    (sym (begins_split xs octals (leading_begins is_octal xs)))
    (rw (leading_more_run is_digit octals after wide, length-append octals (leading_more is_digit after)) (omega arith)))
    (λ s. rw (leading_none is_octal xs s).0 (omega arith))

pub integer_within : (xs : List ℕ) → length (integer_text xs) ≤ length (leading is_digit xs)
unfolding integer_text leading leading_more starts_with is_digit
integer_within [] = omega arith
integer_within (b ∷ xs) =
    choice (λ (text : List ℕ). length text ≤ length (leading is_digit (b ∷ xs))) (b is "0") _ _
    (λ z. zero b (eqb-true b 48 z))
    (λ _. omega arith)
  where
    zero : (c : ℕ) → c ≡ 48 → length (c ∷ leading is_octal xs) ≤ length (leading is_digit (c ∷ xs))
    zero c e = rw e (omega (arith, octal_within xs))

decimal_covers : (xs : List ℕ) → is_named (base_of xs) ≡ false → length (integer_text xs) ≤ length (longest_text xs)
unfolding longest_text is_bare_prefix decimal_text
decimal_covers xs named =
    rw named
    (choice (λ (text : List ℕ). length (integer_text xs) ≤ length text) (makes_float (following is_digit xs)) _ _
    (λ _. rw (length-append (leading is_digit xs) (float_tail (following is_digit xs)))
    (omega (arith, integer_within xs)))
    (λ _. omega arith))

-- a base that is none
unnamed : (base : Base) → base ≡ Base.Decimal → is_named base ≡ false
unfolding is_named
unnamed base e = rw e refl

decimal_literal_covers : (b : ℕ) (ds rest : List ℕ) → b from "1" to "9" ≡ true → grouped is_digit true ds ≡ true
    → length (b ∷ ds) ≤ length (longest_text (b ∷ (ds ++ rest)))
unfolding integer_text leading leading_more starts_with base_of is_digit
decimal_literal_covers b ds rest first g =
    let zero : b is "0" ≡ false =
    either (b is "0") (λ z. absurd (false≢true (rw (eqb-true b 48 z) at first))) (λ z. z) in
    let digit : is_digit b ≡ true = range_in b 49 57 48 57 (omega arith) (omega arith) first in
    let text : length (b ∷ (ds ++ leading_more is_digit rest)) ≤ length (longest_text (b ∷ (ds ++ rest))) =
    rw (zero, digit, leading_more_run is_digit ds rest g) at
    (decimal_covers (b ∷ (ds ++ rest)) (unnamed _ (other_base (ds ++ rest) zero))) in
    omega (arith, text, length-append ds (leading_more is_digit rest))
  where
    other_base : (ys : List ℕ) → b is "0" ≡ false → base_of (b ∷ ys) ≡ Base.Decimal
    other_base [] z = refl
    other_base (c ∷ ys) z = rw z refl

nought_covers : (rest : List ℕ) → 1 ≤ length (longest_text (48 ∷ rest))
unfolding longest_text prefixed_text integer_text
nought_covers rest =
    either (is_named (base_of (48 ∷ rest)))
    (λ named. choice (λ (text : List ℕ). 1 ≤ length text) (is_bare_prefix (48 ∷ rest)) _ _ (λ _. omega arith)
    (λ _. rw named (omega arith)))
    (λ named. omega (arith, decimal_covers (48 ∷ rest) named))

prefixed_covers : (x : ℕ) (ds rest : List ℕ) → is_named (base_named x) ≡ true
    → grouped (is_one (base_named x)) false ds ≡ true
    → length (48 ∷ x ∷ ds) ≤ length (longest_text (48 ∷ x ∷ (ds ++ rest)))
unfolding longest_text is_bare_prefix prefixed_text base_of
prefixed_covers x ds rest named g =
    rw (named, grouped_starts (is_one (base_named x)) ds rest g, leading_run (is_one (base_named x)) ds rest g)
    (omega (arith, length-append ds (leading_more (is_one (base_named x)) rest)))

octal_base : (ds rest : List ℕ) → grouped is_octal false ds ≡ true → base_of (48 ∷ (ds ++ rest)) ≡ Base.Decimal
unfolding base_of grouped is_octal
octal_base [] rest g = absurd (false≢true g)
octal_base (c ∷ ds) rest g =
    either (is_octal c) (λ o. names_none c is_octal refl refl refl refl refl refl o)
    (λ o. absurd (false≢true (rw o at g)))

octal_covers : (ds rest : List ℕ) → grouped is_octal false ds ≡ true
    → length (48 ∷ ds) ≤ length (longest_text (48 ∷ (ds ++ rest)))
unfolding integer_text
octal_covers ds rest g =
    let text = decimal_covers (48 ∷ (ds ++ rest)) (unnamed _ (octal_base ds rest g)) in
    let run : suc (length (ds ++ leading_more is_octal rest)) ≤ length (longest_text (48 ∷ (ds ++ rest))) =
    rw (leading_run is_octal ds rest g) at text in
    omega (arith, run, length-append ds (leading_more is_octal rest))

integer_covers : (text rest : List ℕ) → IntegerLiteral text → length text ≤ length (longest_text (text ++ rest))
unfolding is_named is_one is_binary base_named
integer_covers _ rest (IntegerLiteral.decimal b ds first g) = decimal_literal_covers b ds rest first g
integer_covers _ rest IntegerLiteral.nought = nought_covers rest
integer_covers _ rest (IntegerLiteral.octal ds g) = octal_covers ds rest g
integer_covers _ rest (IntegerLiteral.hexadecimal x ds letter g) =
    let named : base_named x ≡ Base.Hex = letter_either (λ (k : ℕ). base_named k ≡ Base.Hex) x 120 88 letter refl refl in
    prefixed_covers x ds rest (rw named refl) (rw named g)
integer_covers _ rest (IntegerLiteral.octal_marked x ds letter g) =
    let named : base_named x ≡ Base.Octal =
    letter_either (λ (k : ℕ). base_named k ≡ Base.Octal) x 111 79 letter refl refl in
    prefixed_covers x ds rest (rw named refl) (rw named g)
integer_covers _ rest (IntegerLiteral.binary x ds letter g) =
    let named : base_named x ≡ Base.Binary =
    letter_either (λ (k : ℕ). base_named k ≡ Base.Binary) x 98 66 letter refl refl in
    prefixed_covers x ds rest (rw named refl) (rw named g)

-- digits or none, a point, and whatever follows
point_longest : (whole rest : List ℕ) → maybe_lnum whole ≡ true
    → longest_text (whole ++ (46 ∷ rest)) ≡ whole ++ (46 ∷ (leading is_digit rest ++ power_text (following is_digit rest)))
unfolding longest_text is_bare_prefix decimal_text makes_float float_tail leading_more is_digit
point_longest whole rest w =
    let (all, after) = leading_whole whole (46 ∷ rest) w refl in
    rw (unnamed _ (point_base true whole rest w), after, all) refl

-- an exponent's letter ends digits and names no base
pub mark_facts : (e : ℕ) (rest : List ℕ) → is_exponent e ≡ true
    → (leading_more is_digit (e ∷ rest) ≡ []) × (base_of (48 ∷ e ∷ rest) ≡ Base.Decimal) × (e is "." ≡ false)
unfolding is_exponent leading_more is_digit base_of base_named
mark_facts e rest m =
    letter_either
    (λ (k : ℕ). (leading_more is_digit (k ∷ rest) ≡ []) × (base_of (48 ∷ k ∷ rest) ≡ Base.Decimal) × (k is "." ≡ false))
    e 101 69 m (refl, refl, refl) (refl, refl, refl)

-- digits, an exponent's letter, and a sign or none and digits
mark_longest : (text rest : List ℕ) (e : ℕ) → is_lnum text ≡ true → is_exponent e ≡ true → has_power rest ≡ true
    → longest_text (text ++ (e ∷ rest)) ≡ text ++ (e ∷ signed_digits rest)
unfolding longest_text is_bare_prefix decimal_text makes_float float_tail power_text
mark_longest text rest e l m h =
    let (stops, nameless, point) = mark_facts e rest m in
    let (all, after) = leading_whole text (e ∷ rest) (lnum_maybe text l) stops in
    rw (unnamed _ (lnum_base text (e ∷ rest) (lnum text l) nameless), after, all) (rw (point, m, h) refl)

power_covers : (sign power rest : List ℕ) → maybe_sign sign ≡ true → is_lnum power ≡ true
    → (has_power (sign ++ (power ++ rest)) ≡ true)
    × (length (sign ++ power) ≤ length (signed_digits (sign ++ (power ++ rest))))
unfolding maybe_sign is_sign is_lnum has_power signed_digits starts_with grouped
power_covers [] [] rest s g = absurd (false≢true g)
power_covers [] (b ∷ power) rest s g =
    let digit : is_digit b ≡ true = grouped_starts is_digit (b ∷ power) rest g in (
      rw (digit_sign b digit) digit,
      rw (digit_sign b digit)
          (leading_covers (b ∷ power) rest (lnum_maybe (b ∷ power) g)),
    )
power_covers (c ∷ []) power rest s g =
    let digits : length power ≤ length (leading is_digit (power ++ rest)) =
    leading_covers power rest (lnum_maybe power g) in
    (rw s (grouped_starts is_digit power rest g), rw s (omega arith))
power_covers (c ∷ d ∷ sign) power rest s g = absurd (false≢true s)

-- a point with digits on a side, and whatever follows; then with an exponent
dnum_covers : (whole part rest : List ℕ) → maybe_lnum whole ≡ true → maybe_lnum part ≡ true
    → length (whole ++ (46 ∷ part)) ≤ length (longest_text ((whole ++ (46 ∷ part)) ++ rest))
dnum_covers whole part rest w f =
    rw (append_assoc whole (46 ∷ part) rest, point_longest whole (part ++ rest) w)
    (omega (
      arith,
      leading_covers part rest f,
      length-append whole (46 ∷ part),
      length-append whole (46 ∷ (leading is_digit (part ++ rest) ++ power_text (following is_digit (part ++ rest)))),
      length-append (leading is_digit (part ++ rest)) (power_text (following is_digit (part ++ rest))),
    ))

-- both sides of the `e` of a float
scaled_dnum_covers : (whole part : List ℕ) (e : ℕ) (sign power rest : List ℕ) → maybe_lnum whole ≡ true
    → maybe_lnum part ≡ true
    → is_exponent e ≡ true → maybe_sign sign ≡ true → is_lnum power ≡ true
    → length ((whole ++ (46 ∷ part)) ++ (e ∷ (sign ++ power)))
    ≤ length (longest_text (((whole ++ (46 ∷ part)) ++ (e ∷ (sign ++ power))) ++ rest))
unfolding power_text
scaled_dnum_covers whole part e sign power rest w f m s g =
    let zs : List ℕ = sign ++ (power ++ rest) in
    let same : ((whole ++ (46 ∷ part)) ++ (e ∷ (sign ++ power))) ++ rest ≡ whole ++ (46 ∷ (part ++ (e ∷ zs))) =
    rw (
      append_assoc (whole ++ (46 ∷ part)) (e ∷ (sign ++ power)) rest,
      append_assoc sign power rest,
      append_assoc whole (46 ∷ part) (e ∷ zs),
    ) refl in
    let (all, after) = leading_whole part (e ∷ zs) f (mark_facts e zs m).0 in
    let (some, size) = power_covers sign power rest s g in
    rw (same, point_longest whole (part ++ (e ∷ zs)) w, all, after, m, some)
    (omega (
      arith,
      size,
      length-append (whole ++ (46 ∷ part)) (e ∷ (sign ++ power)),
      length-append whole (46 ∷ part),
      length-append whole (46 ∷ (part ++ (e ∷ signed_digits zs))),
      length-append part (e ∷ signed_digits zs),
    ))

scaled_lnum_covers : (text : List ℕ) (e : ℕ) (sign power rest : List ℕ) → is_lnum text ≡ true → is_exponent e ≡ true
    → maybe_sign sign ≡ true → is_lnum power ≡ true
    → length (text ++ (e ∷ (sign ++ power))) ≤ length (longest_text ((text ++ (e ∷ (sign ++ power))) ++ rest))
scaled_lnum_covers text e sign power rest l m s g =
    let zs : List ℕ = sign ++ (power ++ rest) in
    let same : (text ++ (e ∷ (sign ++ power))) ++ rest ≡ text ++ (e ∷ zs) =
    rw (append_assoc text (e ∷ (sign ++ power)) rest, append_assoc sign power rest) refl in
    let (some, size) = power_covers sign power rest s g in
    rw (same, mark_longest text zs e l m some)
    (omega (arith, size, length-append text (e ∷ (sign ++ power)), length-append text (e ∷ signed_digits zs)))

float_covers : (text rest : List ℕ) → FloatLiteral text → length text ≤ length (longest_text (text ++ rest))
unfolding is_exponent
float_covers _ rest (FloatLiteral.plain _ (Dnum.back whole part w f)) =
    dnum_covers whole part rest w (lnum_maybe part f)
float_covers _ rest (FloatLiteral.plain _ (Dnum.front whole part w f)) =
    dnum_covers whole part rest (lnum_maybe whole w) f
float_covers _ rest (FloatLiteral.scaled_dnum _ e sign power (Dnum.back whole part w f) m s g) =
    scaled_dnum_covers whole part e sign power rest w (lnum_maybe part f) m s g
float_covers _ rest (FloatLiteral.scaled_dnum _ e sign power (Dnum.front whole part w f) m s g) =
    scaled_dnum_covers whole part e sign power rest (lnum_maybe whole w) f m s g
float_covers _ rest (FloatLiteral.scaled_lnum text e sign power l m s g) =
    scaled_lnum_covers text e sign power rest l m s g

pub literal_covers : (kind : Literal) (text rest : List ℕ) → LiteralOf kind text
    → length text ≤ length (longest_text (text ++ rest))
literal_covers Literal.Integer text rest found = integer_covers text rest found
literal_covers Literal.Float text rest found = float_covers text rest found

lnum_begins : (text rest : List ℕ) → is_lnum text ≡ true → begins_number (text ++ rest) ≡ true
unfolding is_lnum grouped begins_number starts_with
lnum_begins [] rest l = absurd (false≢true l)
lnum_begins (b ∷ text) rest l =
    let digit : is_digit b ≡ true = grouped_starts is_digit (b ∷ text) rest l in
    rw digit refl

dnum_begins : (text rest : List ℕ) → Dnum text → begins_number (text ++ rest) ≡ true
unfolding is_lnum maybe_lnum begins_number is_digit
dnum_begins _ rest (Dnum.back [] part w f) = grouped_starts is_digit part rest f
dnum_begins _ rest (Dnum.back (b ∷ whole) part w f) =
    subst (λ (ys : List ℕ). begins_number ys ≡ true) (sym (append_assoc (b ∷ whole) (46 ∷ part) rest))
    (lnum_begins (b ∷ whole) (46 ∷ (part ++ rest)) w)
dnum_begins _ rest (Dnum.front whole part w f) =
    rw (append_assoc whole (46 ∷ part) rest) (lnum_begins whole (46 ∷ (part ++ rest)) w)

pub literal_begins : (kind : Literal) (text rest : List ℕ) → LiteralOf kind text → begins_number (text ++ rest) ≡ true
unfolding begins_number is_digit
literal_begins Literal.Integer _ rest (IntegerLiteral.decimal b ds first g) =
    rw (range_in b 49 57 48 57 (omega arith) (omega arith) first) refl
literal_begins Literal.Integer _ rest IntegerLiteral.nought = refl
literal_begins Literal.Integer _ rest (IntegerLiteral.octal ds g) = refl
literal_begins Literal.Integer _ rest (IntegerLiteral.hexadecimal x ds letter g) = refl
literal_begins Literal.Integer _ rest (IntegerLiteral.octal_marked x ds letter g) = refl
literal_begins Literal.Integer _ rest (IntegerLiteral.binary x ds letter g) = refl
literal_begins Literal.Float _ rest (FloatLiteral.plain text d) = dnum_begins text rest d
literal_begins Literal.Float _ rest (FloatLiteral.scaled_dnum text e sign power d m s g) =
    rw (append_assoc text (e ∷ (sign ++ power)) rest) (dnum_begins text ((e ∷ (sign ++ power)) ++ rest) d)
literal_begins Literal.Float _ rest (FloatLiteral.scaled_lnum text e sign power l m s g) =
    rw (append_assoc text (e ∷ (sign ++ power)) rest) (lnum_begins text ((e ∷ (sign ++ power)) ++ rest) l)
