-- With the end announced: what is read of every text, beside the manual's longest literal (proofs/Longest.antt).
-- Assumes nothing.
--   number_longest         of a regular text, the longest literal, as its kind and with its value
--   number_bare_prefix     0x, 0o or 0b without a digit: both bytes; the literal is 0
--   number_bare_exponent   a point, then an exponent without a digit: the literal, the exponent's letter and its sign
--   number_loose_octal     08, 0_1: all decimal digits; the literal is the 0 and the octal digits right after it
--   number-none            where no literal begins: nothing, or a point or an exponent without digits before it
use Rattle.std.specs.Prelude.{if◌then◌else◌}
use Prim.Native.Nat.{ℕ, ◌+◌, ◌≤◌, ◌<◌}
use Prim.Native.Char.{code}
use mathlib.Core.Path.{◌≡◌, refl, sym, ap, subst, ◌∙◌}
use mathlib.Core.Bool.{true, false, not, ◌&&◌, ◌||◌, false≢true}
use mathlib.Core.List.{List, [], ◌∷◌, ◌++◌, append_assoc, append-nil}
use native.Mathlib.Omega.{arith}
use lib.Dec.{ltb}
use lib.ListN.{length, take, drop}
use lib.Seq.{drop-append_seam, length-take-le}
use borrow.Author.Tests.{eqb-true, ltb-true, ltb-false, not-true}
use Rattle.byte.specs.Words.{◌is◌}
use Rattle.byte.specs.Bytes.{is_digit, is_octal}
use Rattle.byte.proofs.Tests.{&&-left, &&-right, ||-neither}
use Rattle.number.specs.declared.Literal.{Literal}
use Rattle.number.specs.Numbers.{Reading, is_one, base_named, base_of, is_exponent, is_sign, number_at}
use Rattle.number.specs.Manual.{grouped, is_lnum, maybe_lnum, LiteralOf, Begins, Longest, starts_with, leading_more}
use Rattle.number.specs.Manual.{leading, following, has_power, signed_digits, power_text, makes_float, float_tail}
use Rattle.number.specs.Manual.{integer_text, decimal_text, is_named, is_bare_prefix, prefixed_text, longest_text}
use Rattle.number.specs.Manual.{kind_of, begins_number, is_bare_mark, bare_mark, point_and_mark, has_bare_exponent}
use Rattle.number.specs.Manual.{is_loose_octal, is_regular, exponent_text, stray_text, ReadAs}
use Rattle.number.proofs.Values.{either, letter_either, prefix}
use Rattle.number.proofs.Leading.{begins_split, leading_begins, leading_none, leading_whole}
use Rattle.number.proofs.Texts.{read_tail, read_text, number_text}
use Rattle.number.proofs.Covers.{integer_within}
use Rattle.number.proofs.Longest.{integer_text_begins, longest_literal, no_literal}

-- the same told of a text and of a kind that are equal
longest_same : (literal : Literal) (xs text : List ℕ) → begins_number xs ≡ true → kind_of xs ≡ literal
    → longest_text xs ≡ text
    → Longest literal xs text
longest_same literal xs text h k e =
    subst (λ (kind : Literal). Longest kind xs text) k
    (subst (λ (ys : List ℕ). Longest (kind_of xs) xs ys) e (longest_literal xs h))

read_same : (literal : Literal) (n : ℕ) (xs text : List ℕ) → kind_of xs ≡ literal → read_text xs ≡ text
    → ReadAs literal n xs text
read_same literal n xs text k e =
    subst (λ (kind : Literal). ReadAs kind n xs text) k
    (subst (λ (ys : List ℕ). ReadAs (kind_of xs) n xs ys) e (number_text n xs))

-- ---- a base that is named

-- its letter ends digits, and no float goes on with it
letter_facts : (c : ℕ) (rest : List ℕ) → is_named (base_named c) ≡ true
    → (leading_more is_digit (c ∷ rest) ≡ []) × (makes_float (c ∷ rest) ≡ false)
unfolding base_named is_named leading_more makes_float is_digit is_exponent
letter_facts c rest named =
    either (c is "b" || c is "B") (λ t. letter_either facts c 98 66 t (refl, refl) (refl, refl))
    (λ t. either (c is "o" || c is "O") (λ u. letter_either facts c 111 79 u (refl, refl) (refl, refl))
    (λ u. either (c is "x" || c is "X") (λ v. letter_either facts c 120 88 v (refl, refl) (refl, refl))
    (λ v. absurd (false≢true (rw (t, u, v) at named)))))
  where
    facts : ℕ → Type 0
    facts k = (leading_more is_digit (k ∷ rest) ≡ []) × (makes_float (k ∷ rest) ≡ false)

record Named (xs : List ℕ) : Type 0 where
  begins : begins_number xs ≡ true
  zero : take 1 xs ≡ code "0" ∷ []
  digits : leading is_digit xs ≡ code "0" ∷ []
  whole : makes_float (following is_digit xs) ≡ false

named : (xs : List ℕ) → is_named (base_of xs) ≡ true → Named xs
unfolding base_of is_named begins_number is_digit maybe_lnum is_lnum grouped
named [] h = absurd (false≢true h)
named (b ∷ []) h = absurd (false≢true h)
named (b ∷ c ∷ rest) h =
    either (b is "0")
    (λ z.
    let (stops, whole) = letter_facts c rest (rw z at h) in
    let (all, after) = leading_whole (48 ∷ []) (c ∷ rest) refl stops in
    rw (eqb-true b 48 z) (record { begins = refl; zero = refl; digits = all; whole = rw after whole }))
    (λ z. absurd (false≢true (rw z at h)))

kind_named : (xs : List ℕ) → is_named (base_of xs) ≡ true → kind_of xs ≡ Literal.Integer
unfolding kind_of
kind_named xs h = rw h refl

-- ---- a regular text

exponent_power : (xs : List ℕ) → is_bare_mark xs ≡ false → exponent_text xs ≡ power_text xs
unfolding is_bare_mark exponent_text power_text
exponent_power [] h = refl
exponent_power (b ∷ xs) h =
    either (is_exponent b)
    (λ m. either (has_power xs) (λ p. rw (m, p) refl) (λ p. absurd (false≢true (sym (rw (m, p) at h)))))
    (λ m. rw m refl)

read_tail_float : (xs : List ℕ) → point_and_mark xs ≡ false → read_tail xs ≡ float_tail xs
unfolding point_and_mark read_tail float_tail
read_tail_float [] h = refl
read_tail_float (b ∷ xs) h =
    either (b is ".")
    (λ p. rw p
    (ap (λ (text : List ℕ). b ∷ (leading is_digit xs ++ text)) (exponent_power (following is_digit xs) (rw p at h))))
    (λ p. rw p refl)

read_tail_whole : (xs : List ℕ) → makes_float xs ≡ false → read_tail xs ≡ []
unfolding makes_float read_tail power_text
read_tail_whole [] h = refl
read_tail_whole (b ∷ xs) h =
    let (point, mark) = ||-neither (b is ".") (is_exponent b && has_power xs) h in
    rw (point, mark) refl

-- texts at the head of one text that are as long are the same
begins_same : (xs text other : List ℕ) → Begins xs text → Begins xs other → length text ≡ length other → text ≡ other
begins_same xs text other h k e = sym h ∙ rw e k

module _ (xs : List ℕ) (unnamed : is_named (base_of xs) ≡ false) where
  read_decimal : read_text xs ≡ leading is_digit xs ++ read_tail (following is_digit xs)
  unfolding read_text
  read_decimal = rw unnamed refl

  longest_decimal : longest_text xs ≡ decimal_text xs
  unfolding longest_text is_bare_prefix
  longest_decimal = rw unnamed refl

  kind_decimal : kind_of xs ≡ (if makes_float (following is_digit xs) then Literal.Float else Literal.Integer)
  unfolding kind_of
  kind_decimal = rw unnamed refl

  read_whole_digits : makes_float (following is_digit xs) ≡ false → read_text xs ≡ leading is_digit xs
  read_whole_digits whole = read_decimal
      ∙ rw (read_tail_whole (following is_digit xs) whole) (append-nil (leading is_digit xs))

  regular_decimal : point_and_mark (following is_digit xs) ≡ false → is_loose_octal xs ≡ false
      → read_text xs ≡ longest_text xs
  unfolding decimal_text is_loose_octal
  regular_decimal mark loose =
      either (makes_float (following is_digit xs))
      (λ float. read_decimal ∙ rw (read_tail_float (following is_digit xs) mark) (sym (longest_decimal ∙ rw float refl)))
      (λ whole.
      let tight : (ltb (length (integer_text xs)) (length (leading is_digit xs)) && true) ≡ false = rw whole at loose in
      let short : length (leading is_digit xs) ≤ length (integer_text xs) =
      either (ltb (length (integer_text xs)) (length (leading is_digit xs)))
      (λ t. absurd (false≢true (sym (rw t at tight)))) (λ t. ltb-false _ _ t) in
      let size : length (leading is_digit xs) ≡ length (integer_text xs) = omega (arith, short, integer_within xs) in
      let same =
      begins_same xs (leading is_digit xs) (integer_text xs) (leading_begins is_digit xs) (integer_text_begins xs) size in
      read_whole_digits whole ∙ same ∙ sym (longest_decimal ∙ rw whole refl))

regular_text : (xs : List ℕ) → begins_number xs ≡ true → is_bare_prefix xs ≡ false → has_bare_exponent xs ≡ false
    → is_loose_octal xs ≡ false → read_text xs ≡ longest_text xs
unfolding read_text longest_text has_bare_exponent
regular_text xs h bare exponent loose =
    either (is_named (base_of xs)) (λ named. rw (bare, named) refl)
    (λ unnamed. regular_decimal xs unnamed (rw h at exponent) loose)

pub number_longest : (n : ℕ) (xs : List ℕ) → is_regular xs ≡ true
    → Longest (kind_of xs) xs (longest_text xs) × ReadAs (kind_of xs) n xs (longest_text xs)
unfolding is_regular
number_longest n xs h =
    let begins : begins_number xs ≡ true = &&-left (begins_number xs) _ h in
    let none = not-true _ (&&-right (begins_number xs) _ h) in
    let (some, loose) = ||-neither (is_bare_prefix xs || has_bare_exponent xs) (is_loose_octal xs) none in
    let (bare, exponent) = ||-neither (is_bare_prefix xs) (has_bare_exponent xs) some in (
      longest_literal xs begins,
      read_same (kind_of xs) n xs (longest_text xs) refl
          (regular_text xs begins bare exponent loose),
    )

-- ---- a bare prefix

pub number_bare_prefix : (n : ℕ) (xs : List ℕ) → is_bare_prefix xs ≡ true
    → Longest Literal.Integer xs (code "0" ∷ [])
    × (number_at true n xs ≡ Reading.Number Literal.Integer (take 2 xs) (n + 2))
unfolding is_bare_prefix read_text prefixed_text longest_text is_named
number_bare_prefix n xs h =
    let base : is_named (base_of xs) ≡ true = &&-left (is_named (base_of xs)) _ h in
    let none : starts_with (is_one (base_of xs)) (drop 2 xs) ≡ false = not-true _ (&&-right (is_named (base_of xs)) _ h) in
    let facts = named xs base in
    let kind = kind_named xs base in
    let two = prefix (base_of xs) xs refl (λ z. false≢true (rw z at base)) in
    let size : length (take 2 xs) ≡ 2 = length-take-le 2 xs two.inside in
    let text : read_text xs ≡ take 2 xs =
    rw (base, (leading_none (is_one (base_of xs)) (drop 2 xs) none).0) (append-nil (take 2 xs)) in
    let read : ReadAs Literal.Integer n xs (take 2 xs) = read_same Literal.Integer n xs (take 2 xs) kind text in (
      longest_same Literal.Integer xs _ facts.begins kind (rw (base, none) facts.zero),
      read ∙ rw (← two.told, size) refl,
    )

-- ---- a bare exponent

exponent_mark : (xs : List ℕ) → is_bare_mark xs ≡ true → (exponent_text xs ≡ bare_mark xs) × (power_text xs ≡ [])
unfolding is_bare_mark exponent_text power_text bare_mark has_power signed_digits starts_with
exponent_mark [] h = absurd (false≢true h)
exponent_mark (b ∷ []) h =
    let mark : is_exponent b ≡ true = &&-left (is_exponent b) _ h in
    (rw mark refl, rw mark refl)
exponent_mark (b ∷ c ∷ xs) h =
    let mark : is_exponent b ≡ true = &&-left (is_exponent b) _ h in
    let none : has_power (c ∷ xs) ≡ false = not-true _ (&&-right (is_exponent b) _ h) in (
      rw mark (either (is_sign c)
          (λ s. rw (s, (leading_none is_digit xs (rw s at none)).0) refl)
          (λ s. rw (s, (leading_none is_digit (c ∷ xs) (rw s at none)).0) refl)),
      rw (mark, none) refl,
    )

module _ (n : ℕ) (xs : List ℕ) (unnamed : is_named (base_of xs) ≡ false) (begins : begins_number xs ≡ true) where
  abbrev Marked : Type 0
  Marked =
      Longest Literal.Float xs (longest_text xs)
      × ReadAs Literal.Float n xs (longest_text xs ++ bare_mark (drop (length (longest_text xs)) xs))

  -- digits, the point, digits, then the mark
  point_marked : (y : ℕ) (rest : List ℕ) → following is_digit xs ≡ y ∷ rest → y is "." ≡ true
      → is_bare_mark (following is_digit rest) ≡ true → Marked
  unfolding decimal_text makes_float float_tail read_tail following
  point_marked y rest e p h =
      let digits : List ℕ = leading is_digit rest in
      let after : List ℕ = following is_digit rest in
      let text : List ℕ = leading is_digit xs ++ (y ∷ digits) in
      let (mark, none) = exponent_mark after h in
      let split : xs ≡ text ++ after =
      begins_split xs (leading is_digit xs) (leading_begins is_digit xs)
      ∙ ap (λ (ys : List ℕ). leading is_digit xs ++ ys)
      (e ∙ ap (λ (ys : List ℕ). y ∷ ys) (begins_split rest digits (leading_begins is_digit rest)))
      ∙ sym (append_assoc (leading is_digit xs) (y ∷ digits) after) in
      let longest : longest_text xs ≡ text =
      longest_decimal xs unnamed
      ∙ rw (e, p, none) (ap (λ (ys : List ℕ). leading is_digit xs ++ (y ∷ ys)) (append-nil digits)) in
      let read : read_text xs ≡ text ++ bare_mark after =
      read_decimal xs unnamed
      ∙ rw (e, p, mark) (sym (append_assoc (leading is_digit xs) (y ∷ digits) (bare_mark after))) in
      let rest-same : drop (length text) xs ≡ after =
      ap (λ (ys : List ℕ). drop (length text) ys) split ∙ drop-append_seam text after in
      let kind : kind_of xs ≡ Literal.Float = kind_decimal xs unnamed ∙ rw (e, p) refl in (
        longest_same Literal.Float xs _ begins kind refl,
        read_same Literal.Float n xs _ kind (rw (longest, rest-same) read),
      )

pub number_bare_exponent : (n : ℕ) (xs : List ℕ) → has_bare_exponent xs ≡ true
    → Longest Literal.Float xs (longest_text xs)
    × ReadAs Literal.Float n xs (longest_text xs ++ bare_mark (drop (length (longest_text xs)) xs))
unfolding has_bare_exponent point_and_mark makes_float
number_bare_exponent n xs h = go (following is_digit xs) refl (&&-right (begins_number xs) _ h)
  where
    go : (ys : List ℕ) → following is_digit xs ≡ ys → point_and_mark ys ≡ true
        → Longest Literal.Float xs (longest_text xs)
        × ReadAs Literal.Float n xs (longest_text xs ++ bare_mark (drop (length (longest_text xs)) xs))
    go [] e m = absurd (false≢true m)
    go (y ∷ rest) e m =
        let point : y is "." ≡ true = &&-left (y is ".") _ m in
        either (is_named (base_of xs))
        (λ base. absurd (false≢true (sym (rw (e, point) at (named xs base).whole))))
        (λ unnamed. point_marked n xs unnamed (&&-left (begins_number xs) _ h) y rest e point (&&-right (y is ".") _ m))

-- ---- a loose octal

-- more digits than the integer has: a 0 stands in front, and no base is named
loose_zero : (xs : List ℕ) → length (integer_text xs) < length (leading is_digit xs)
    → (begins_number xs ≡ true) × (is_named (base_of xs) ≡ false)
    × (integer_text xs ≡ code "0" ∷ leading is_octal (drop 1 xs))
unfolding integer_text begins_number is_digit starts_with
loose_zero [] h = absurd (omega (arith, ap length (leading_none is_digit [] refl).0))
loose_zero (b ∷ rest) h =
    either (b is "0")
    (λ z. (
      rw (eqb-true b 48 z) refl,
      either (is_named (base_of (b ∷ rest)))
          (λ base.
          let one : length (leading is_digit (b ∷ rest)) ≡ 1 = ap length (named (b ∷ rest) base).digits in
          let more : length (b ∷ leading is_octal rest) < length (leading is_digit (b ∷ rest)) = rw z at h in
          absurd (omega (arith, one, more)))
          (λ unnamed. unnamed),
      rw (eqb-true b 48 z) refl,
    ))
    (λ z.
    let same : length (leading is_digit (b ∷ rest)) < length (leading is_digit (b ∷ rest)) = rw z at h in
    absurd (omega (arith, same)))

pub number_loose_octal : (n : ℕ) (xs : List ℕ) → is_loose_octal xs ≡ true
    → Longest Literal.Integer xs (code "0" ∷ leading is_octal (drop 1 xs))
    × ReadAs Literal.Integer n xs (leading is_digit xs)
unfolding is_loose_octal decimal_text
number_loose_octal n xs h =
    let more : ltb (length (integer_text xs)) (length (leading is_digit xs)) ≡ true =
    &&-left _ (not (makes_float (following is_digit xs))) h in
    let whole : makes_float (following is_digit xs) ≡ false =
    not-true _ (&&-right (ltb (length (integer_text xs)) (length (leading is_digit xs))) _ h) in
    let (begins, unnamed, octal) = loose_zero xs (ltb-true _ _ more) in
    let kind : kind_of xs ≡ Literal.Integer = kind_decimal xs unnamed ∙ rw whole refl in (
      longest_same Literal.Integer xs _ begins kind (longest_decimal xs unnamed ∙ rw whole octal),
      read_same Literal.Integer n xs _ kind (read_whole_digits xs unnamed whole),
    )

-- ---- no literal

stray_digit : (xs : List ℕ) → begins_number xs ≡ false → starts_with is_digit xs ≡ false
unfolding begins_number starts_with
stray_digit [] h = refl
stray_digit (b ∷ xs) h = (||-neither (is_digit b) _ h).0

read_tail_stray : (xs : List ℕ) → begins_number xs ≡ false → read_tail xs ≡ stray_text xs
unfolding begins_number read_tail stray_text
read_tail_stray [] h = refl
read_tail_stray (b ∷ xs) h =
    either (b is ".")
    (λ p.
    let none : starts_with is_digit xs ≡ false =
    rw p at (||-neither (is_digit b) (b is "." && starts_with is_digit xs) h).1 in
    let (digits, after) = leading_none is_digit xs none in
    rw (p, digits, after) refl)
    (λ p. rw p refl)

pub number-none : (n : ℕ) (xs : List ℕ) → begins_number xs ≡ false
    → ((kind : Literal) (text : List ℕ) → Begins xs text → LiteralOf kind text → ⊥)
    × ReadAs (kind_of xs) n xs (stray_text xs)
number-none n xs h =
    let unnamed : is_named (base_of xs) ≡ false =
    either (is_named (base_of xs)) (λ base. absurd (false≢true (sym h ∙ (named xs base).begins))) (λ base. base) in
    let (digits, after) = leading_none is_digit xs (stray_digit xs h) in
    let text : read_text xs ≡ stray_text xs = read_decimal xs unnamed ∙ rw (digits, after) (read_tail_stray xs h) in
    (no_literal xs h, read_same (kind_of xs) n xs (stray_text xs) refl text)
