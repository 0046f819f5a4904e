-- The manual's longest literal: `longest_text` is one, and no literal that a text begins with is longer. Assumes nothing.
--   longest_found     where a number begins, it is a literal
--   longest_literal   and it is the longest (proofs/Covers.antt)
--   no_literal        where no number begins there is none
--   longest_one       a text has no two longest literals, and its longest has one kind
use Rattle.std.specs.Prelude.{if◌then◌else◌}
use Prim.Native.Nat.{ℕ, ◌≤◌}
use mathlib.Core.Path.{◌≡◌, refl, sym, ap, subst, ◌∙◌}
use mathlib.Core.Bool.{true, false, ◌&&◌, ◌||◌, false≢true}
use mathlib.Core.List.{List, [], ◌∷◌, ◌++◌, append_assoc, append-nil}
use native.Mathlib.Omega.{arith}
use lib.Dec.{leb}
use lib.ListN.{length, take, drop}
use borrow.Author.Tests.{leb-true, le-leb, eqb-true, eqb-false}
use Rattle.byte.specs.Words.{◌is◌, ◌from◌to◌}
use Rattle.byte.specs.Bytes.{is_digit, is_octal}
use Rattle.byte.proofs.Tests.{&&-left, &&-right, &&-both, choice}
use Rattle.number.specs.declared.Literal.{Literal}
use Rattle.number.specs.Numbers.{Reading, is_one, base_named, base_of, is_exponent, is_sign}
use Rattle.number.specs.Manual.{grouped, is_lnum, is_binary, maybe_sign, IntegerLiteral, Dnum, FloatLiteral}
use Rattle.number.specs.Manual.{LiteralOf, Begins, Longest, starts_with, leading_more, leading, following}
use Rattle.number.specs.Manual.{has_power, signed_digits, power_text, makes_float, float_tail, integer_text}
use Rattle.number.specs.Manual.{decimal_text, is_named, is_bare_prefix, prefixed_text, longest_text, kind_of}
use Rattle.number.specs.Manual.{begins_number, closes}
use Rattle.number.proofs.Values.{either}
use Rattle.number.proofs.Manual.{integer_read, float_read}
use Rattle.number.proofs.Leading.{begins_append, begins_split, leading_lnum, leading_begins, leading_none}
use Rattle.number.proofs.Leading.{leading_maybe, leading_more_grouped}
use Rattle.number.proofs.Covers.{literal_covers, literal_begins}
use Rattle.number.proofs.Texts.{power_text_begins, prefixed_text_begins}

-- a 0, the letter of a base and its digits
named_literal : (c : ℕ) (ds : List ℕ) → is_named (base_named c) ≡ true → grouped (is_one (base_named c)) false ds ≡ true
    → IntegerLiteral (48 ∷ c ∷ ds)
unfolding base_named is_named is_one is_binary
named_literal c ds named g =
    either (c is "b" || c is "B") (λ t. IntegerLiteral.binary c ds t (rw t at g))
    (λ t. either (c is "o" || c is "O") (λ u. IntegerLiteral.octal_marked c ds u (rw (t, u) at g))
    (λ u. either (c is "x" || c is "X") (λ v. IntegerLiteral.hexadecimal c ds v (rw (t, u, v) at g))
    (λ v. absurd (false≢true (rw (t, u, v) at named)))))

prefixed_found : (xs : List ℕ) → is_named (base_of xs) ≡ true
    → IntegerLiteral (if starts_with (is_one (base_of xs)) (drop 2 xs) then prefixed_text xs else take 1 xs)
unfolding base_of prefixed_text is_named
prefixed_found [] named = absurd (false≢true named)
prefixed_found (b ∷ []) named = absurd (false≢true named)
prefixed_found (b ∷ c ∷ rest) named =
    either (b is "0")
    (λ z.
    rw (eqb-true b 48 z)
    (choice IntegerLiteral (starts_with (is_one (base_named c)) rest) _ _
    (λ s. named_literal c _ (rw z at named) (leading_lnum (is_one (base_named c)) rest s)) (λ _. IntegerLiteral.nought)))
    (λ z. absurd (false≢true (rw z at named)))

-- where a number begins and no float goes on, a digit stands
integer_digit : (b : ℕ) (rest : List ℕ) → begins_number (b ∷ rest) ≡ true
    → makes_float (following is_digit (b ∷ rest)) ≡ false
    → is_digit b ≡ true
unfolding begins_number makes_float starts_with
integer_digit b rest h whole =
    either (is_digit b) (λ d. d)
    (λ d.
    let point : b is "." ≡ true = &&-left (b is ".") (starts_with is_digit rest) (rw d at h) in
    absurd (false≢true (sym (rw ((leading_none is_digit (b ∷ rest) d).1, point) at whole))))

nonzero : (b : ℕ) → is_digit b ≡ true → b is "0" ≡ false → b from "1" to "9" ≡ true
unfolding is_digit
nonzero b d z =
    let low : 48 ≤ b = leb-true 48 b (&&-left (leb 48 b) (leb b 57) d) in
    let other : b ≡ 48 → ⊥ = eqb-false b 48 z in
    &&-both (leb 49 b) (leb b 57) (le-leb 49 b (omega arith)) (&&-right (leb 48 b) (leb b 57) d)

integer_found : (xs : List ℕ) → begins_number xs ≡ true → makes_float (following is_digit xs) ≡ false
    → IntegerLiteral (integer_text xs)
unfolding integer_text leading leading_more starts_with begins_number
integer_found [] h whole = absurd (false≢true h)
integer_found (b ∷ rest) h whole =
    let first : is_digit b ≡ true = integer_digit b rest h whole in
    either (b is "0")
    (λ z.
    rw (eqb-true b 48 z)
    (either (starts_with is_octal rest) (λ s. IntegerLiteral.octal (leading is_octal rest) (leading_lnum is_octal rest s))
    (λ s. rw (leading_none is_octal rest s).0 IntegerLiteral.nought)))
    (λ z. rw (z, first)
    (IntegerLiteral.decimal b (leading_more is_digit rest) (nonzero b first z) (leading_more_grouped is_digit rest)))

-- a sign or none, and digits
data Scale : List ℕ → Type 0 where
  scale : (sign power : List ℕ) → maybe_sign sign ≡ true → is_lnum power ≡ true → Scale (sign ++ power)

signed_scale : (xs : List ℕ) → has_power xs ≡ true → Scale (signed_digits xs)
unfolding has_power signed_digits maybe_sign is_sign is_lnum starts_with
signed_scale [] h = absurd (false≢true h)
signed_scale (b ∷ rest) h =
    either (is_sign b) (λ s. rw s (scale (b ∷ []) (leading is_digit rest) s (leading_lnum is_digit rest (rw s at h))))
    (λ s. rw s (scale [] (leading is_digit (b ∷ rest)) refl (leading_lnum is_digit (b ∷ rest) (rw s at h))))

dnum_power : (text xs : List ℕ) → Dnum text → FloatLiteral (text ++ power_text xs)
unfolding power_text is_exponent
dnum_power text [] d = rw (append-nil text) (FloatLiteral.plain text d)
dnum_power text (e ∷ rest) d =
    choice (λ (ys : List ℕ). FloatLiteral (text ++ ys)) (is_exponent e && has_power rest) _ _
    (λ h. go (signed_digits rest) (&&-left (is_exponent e) _ h) (signed_scale rest (&&-right (is_exponent e) _ h)))
    (λ _. rw (append-nil text) (FloatLiteral.plain text d))
  where
    go : (ys : List ℕ) → is_exponent e ≡ true → Scale ys → FloatLiteral (text ++ (e ∷ ys))
    go _ m (scale sign power s g) = FloatLiteral.scaled_dnum text e sign power d m s g

lnum_power : (text rest : List ℕ) (e : ℕ) → is_lnum text ≡ true → is_exponent e ≡ true → has_power rest ≡ true
    → FloatLiteral (text ++ (e ∷ signed_digits rest))
unfolding is_exponent
lnum_power text rest e l m h = go (signed_digits rest) (signed_scale rest h)
  where
    go : (ys : List ℕ) → Scale ys → FloatLiteral (text ++ (e ∷ ys))
    go _ (scale sign power s g) = FloatLiteral.scaled_lnum text e sign power l m s g

-- where a number begins, digits stand before what follows them, or it is a point with a digit
module _ (xs : List ℕ) (h : begins_number xs ≡ true) (y : ℕ) (rest : List ℕ) (e : following is_digit xs ≡ y ∷ rest) where
  begins_stray : starts_with is_digit xs ≡ false → (y is "." && starts_with is_digit rest) ≡ true
  unfolding begins_number starts_with
  begins_stray s =
      let same : xs ≡ y ∷ rest = sym (leading_none is_digit xs s).1 ∙ e in
      let digit : is_digit y ≡ false = rw same at s in
      let all : begins_number (y ∷ rest) ≡ true = rw same at h in
      rw digit at all

  point_dnum : y is "." ≡ true → Dnum (leading is_digit xs ++ (46 ∷ leading is_digit rest))
  unfolding is_lnum
  point_dnum p =
      either (starts_with is_digit xs)
      (λ s. Dnum.front (leading is_digit xs) (leading is_digit rest) (leading_lnum is_digit xs s) (leading_maybe rest))
      (λ s.
      let digit = &&-right (y is ".") (starts_with is_digit rest) (begins_stray s) in
      Dnum.back (leading is_digit xs) (leading is_digit rest) (leading_maybe xs) (leading_lnum is_digit rest digit))

  mark_lnum : y is "." ≡ false → is_lnum (leading is_digit xs) ≡ true
  unfolding is_lnum
  mark_lnum p =
      either (starts_with is_digit xs) (λ s. leading_lnum is_digit xs s)
      (λ s. absurd (false≢true (sym p ∙ &&-left (y is ".") (starts_with is_digit rest) (begins_stray s))))

float_found : (xs : List ℕ) → begins_number xs ≡ true → makes_float (following is_digit xs) ≡ true
    → FloatLiteral (leading is_digit xs ++ float_tail (following is_digit xs))
unfolding makes_float float_tail power_text
float_found xs h float = go (following is_digit xs) refl float
  where
    go : (ys : List ℕ) → following is_digit xs ≡ ys → makes_float ys ≡ true
        → FloatLiteral (leading is_digit xs ++ float_tail ys)
    go [] e m = absurd (false≢true m)
    go (y ∷ rest) e m =
        either (y is ".")
        (λ p.
        let same =
        append_assoc (leading is_digit xs) (46 ∷ leading is_digit rest) (power_text (following is_digit rest)) in
        rw (eqb-true y 46 p) (rw (← same) (dnum_power _ (following is_digit rest) (point_dnum xs h y rest e p))))
        (λ p.
        let pair : (is_exponent y && has_power rest) ≡ true = rw p at m in
        rw (p, pair)
        (lnum_power (leading is_digit xs) rest y (mark_lnum xs h y rest e p)
        (&&-left (is_exponent y) _ pair) (&&-right (is_exponent y) _ pair)))

longest_found : (xs : List ℕ) → begins_number xs ≡ true → LiteralOf (kind_of xs) (longest_text xs)
unfolding kind_of longest_text is_bare_prefix decimal_text
longest_found xs h =
    either (is_named (base_of xs))
    (λ named. either (starts_with (is_one (base_of xs)) (drop 2 xs))
    (λ s. rw (named, s) (rw s at (prefixed_found xs named)))
    (λ s. rw (named, s) (rw s at (prefixed_found xs named))))
    (λ named. either (makes_float (following is_digit xs))
    (λ float. rw (named, float) (float_found xs h float))
    (λ whole. rw (named, whole) (integer_found xs h whole)))

-- a text begins with it
float_tail_begins : (xs : List ℕ) → Begins xs (float_tail xs)
unfolding float_tail following
float_tail_begins [] = refl
float_tail_begins (b ∷ xs) =
    choice (Begins (b ∷ xs)) (b is ".") _ _
    (λ _. ap (λ (text : List ℕ). b ∷ text)
    (begins_append xs (leading is_digit xs) _ (leading_begins is_digit xs) (power_text_begins _)))
    (λ _. power_text_begins (b ∷ xs))

pub integer_text_begins : (xs : List ℕ) → Begins xs (integer_text xs)
unfolding integer_text
integer_text_begins [] = refl
integer_text_begins (b ∷ xs) =
    choice (Begins (b ∷ xs)) (b is "0") _ _ (λ _. ap (λ (text : List ℕ). b ∷ text) (leading_begins is_octal xs))
    (λ _. leading_begins is_digit (b ∷ xs))

longest_begins : (xs : List ℕ) → Begins xs (longest_text xs)
unfolding longest_text decimal_text following
longest_begins xs =
    choice (Begins xs) (is_bare_prefix xs) _ _ (λ _. first xs)
    (λ _. choice (Begins xs) (is_named (base_of xs)) _ _ (λ named. prefixed_text_begins xs named)
    (λ _. choice (Begins xs) (makes_float (following is_digit xs)) _ _
    (λ _. begins_append xs (leading is_digit xs) _ (leading_begins is_digit xs)
    (float_tail_begins (following is_digit xs)))
    (λ _. integer_text_begins xs)))
  where
    first : (ys : List ℕ) → Begins ys (take 1 ys)
    first [] = refl
    first (b ∷ ys) = refl

pub longest_literal : (xs : List ℕ) → begins_number xs ≡ true → Longest (kind_of xs) xs (longest_text xs)
longest_literal xs h = record {
  begins = longest_begins xs;
  found = longest_found xs h;
  longest = λ kind other begins found.
      subst (λ (ys : List ℕ). length other ≤ length (longest_text ys)) (sym (begins_split xs other begins))
      (literal_covers kind other (drop (length other) xs) found);
}

pub no_literal : (xs : List ℕ) → begins_number xs ≡ false → (kind : Literal) (text : List ℕ) → Begins xs text
    → LiteralOf kind text → ⊥
no_literal xs h kind text begins found =
    let same : begins_number xs ≡ true =
    rw (begins_split xs text begins) (literal_begins kind text (drop (length text) xs) found) in
    false≢true (sym h ∙ same)

-- an integer literal is no float literal: each is read as what it is
kinds_clash : (v w : List ℕ) (m n : ℕ) → Reading.Number Literal.Integer v m ≡ Reading.Number Literal.Float w n → ⊥
kinds_clash v w m n e =
    let z : Reading.Number Literal.Integer v m ≡ Reading.Number Literal.Float w n = e in
    let y : ◌≡◌ {A = ℕ} 0 1 = cc in
    omega arith

kinds_apart : (text : List ℕ) → IntegerLiteral text → FloatLiteral text → ⊥
unfolding closes
kinds_apart text integer float =
    kinds_clash _ _ _ _ (sym (integer_read true 0 text [] integer refl) ∙ float_read true 0 text [] float refl)

kind_one : (text : List ℕ) (literal kind : Literal) → LiteralOf literal text → LiteralOf kind text → literal ≡ kind
kind_one text Literal.Integer Literal.Integer found other = refl
kind_one text Literal.Integer Literal.Float found other = absurd (kinds_apart text found other)
kind_one text Literal.Float Literal.Integer found other = absurd (kinds_apart text other found)
kind_one text Literal.Float Literal.Float found other = refl

pub longest_one : (xs : List ℕ) (literal kind : Literal) (text other : List ℕ) → Longest literal xs text
    → Longest kind xs other → (literal ≡ kind) × (text ≡ other)
longest_one xs literal kind text other h k =
    let size : length text ≡ length other =
    omega (arith, h.longest kind other k.begins k.found, k.longest literal text h.begins h.found) in
    let same : text ≡ other = sym h.begins ∙ rw size k.begins in
    (kind_one text literal kind h.found (rw same k.found), same)
