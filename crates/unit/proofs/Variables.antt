-- The reader of variables says what the PHP manual says, of the text after a `$` at n, which is all there:
--   variable_manual   the longest name, and what belongs to it
--   variable_loose    a `[` that no offset and `]` follow is text to the manual: the reader takes it for an offset
--   variable_none     without a name it is `${`, or the sign itself
--   variable_found    a literal finds something where there is a name or a `{`
--   brace_manual      after a `{`: a `$`, or the brace itself, in both readings
-- Assumes nothing.
use Rattle.std.specs.Prelude.{if◌then◌else◌, Some}
use Prim.Native.Nat.{ℕ, suc, ◌+◌, ◌<◌}
use Prim.Native.Char.{code}
use mathlib.Core.Path.{◌≡◌, refl, ap, ◌∙◌}
use mathlib.Core.Bool.{Bool, true, false, not, ◌&&◌, ◌||◌}
use mathlib.Core.List.{List, [], ◌∷◌}
use native.Mathlib.Omega.{arith}
use lib.Dec.{eqb}
use lib.ListN.{drop}
use borrow.Author.Tests.{eqb-true, ne_eqb}
use Rattle.byte.specs.Words.{◌is◌, run}
use Rattle.byte.specs.Bytes.{is_start, is_identifier, is_letter}
use Rattle.byte.proofs.Tests.{choice, &&-left, if_both}
use Rattle.unit.specs.declared.Follow.{Follow}
use Rattle.unit.specs.declared.Stop.{Stop}
use Rattle.unit.specs.declared.TextUnit.{TextUnit}
use Rattle.unit.specs.Interpolations.{plain, property, arrow, question_arrow, follow, variable, name, dollar}
use Rattle.unit.specs.Interpolations.{brace, found, find_dollar, find_brace}
use Rattle.unit.specs.Variables.{name_length, offset_length, Belonging, Alone, begins, bracketed, pointed}
use Rattle.unit.specs.Variables.{belonging, is_alone, is_loose, follow_of}
use Rattle.unit.proofs.Openings.{other_byte}
use Rattle.unit.proofs.Stays.{clash}

-- ---- what follows the name

-- a name has a byte
named : (k : ℕ) → eqb (suc k) 0 ≡ false
named k = ne_eqb (suc k) 0 (λ e. omega arith)

-- an arrow's name, whatever the arrow's size
property_pointed : (size : ℕ) (xs : List ℕ) → property true xs ≡ Some (follow_of (pointed size xs))
unfolding property pointed name_length follow_of
property_pointed size [] = refl
property_pointed size (b ∷ rest) = go (is_start b)
  where
    go : (t : Bool) → Some (if t then Follow.Property else Follow.Other)
        ≡ Some (follow_of (if eqb (if t then suc (run is_identifier rest) else 0) 0 then Alone
        else Belonging.Property (size + (if t then suc (run is_identifier rest) else 0))))
    go true = rw (named (run is_identifier rest))
    go false = refl

-- an arrow's `>` and its name
arrow_pointed : (size : ℕ) (xs : List ℕ)
    → arrow true xs ≡ Some (follow_of (if begins (code ">") xs then pointed size (drop 1 xs) else Alone))
unfolding arrow begins follow_of
arrow_pointed size [] = refl
arrow_pointed size (b ∷ rest) =
    if_both (λ l y. l ≡ Some (follow_of y)) (b is ">") (λ e. property_pointed size rest) (λ e. refl)

question_arrow_pointed : (xs : List ℕ)
    → question_arrow true xs
    ≡ Some
    (follow_of (if begins (code "-") xs && begins (code ">") (drop 1 xs) then pointed 3 (drop 2 xs) else Alone))
unfolding question_arrow begins follow_of
question_arrow_pointed [] = refl
question_arrow_pointed (b ∷ rest) = go (b is "-")
  where
    go : (t : Bool) → (if t then arrow true rest else Some Follow.Other)
        ≡ Some (follow_of (if t && begins (code ">") rest then pointed 3 (drop 1 rest) else Alone))
    go true = arrow_pointed 3 rest
    go false = refl

bracketed_offset : (xs : List ℕ) → is_alone (bracketed xs) ≡ false → Follow.Offset ≡ follow_of (bracketed xs)
unfolding bracketed is_alone follow_of
bracketed_offset xs =
    choice (λ y. is_alone y ≡ false → Follow.Offset ≡ follow_of y)
    (not (eqb (offset_length xs) 0) && begins (code "]") (drop (offset_length xs) xs)) _ _
    (λ e h. refl)
    (λ e h. clash cc)

follow_manual : (xs : List ℕ) → is_loose xs ≡ false → follow true xs ≡ Some (follow_of (belonging xs))
unfolding follow belonging is_loose follow_of begins
follow_manual [] h = refl
follow_manual (b ∷ rest) h =
    if_both (λ l y. (b is "[" && is_alone y) ≡ false → l ≡ Some (follow_of y)) (b is "[")
    (λ e. rw e (λ z. ap Some (bracketed_offset rest z)))
    (λ e z. go (b is "-") (b is "?") (eqb-true b (code "-")) (eqb-true b (code "?")))
    h
  where
    go : (t q : Bool) → (t ≡ true → b ≡ code "-") → (q ≡ true → b ≡ code "?")
        → (if t then arrow true rest else if q then question_arrow true rest else Some Follow.Other)
        ≡ Some
        (follow_of
        (if t && begins (code ">") rest then pointed 2 (drop 1 rest)
        else if (q && begins (code "-") rest) && begins (code ">") (drop 1 rest) then pointed 3 (drop 2 rest)
        else Alone))
    go true true f g = absurd (omega (arith, f refl, g refl))
    go true false f g = arrow_pointed 2 rest
    go false true f g = question_arrow_pointed rest
    go false false f g = refl

follow_loose : (xs : List ℕ) → is_loose xs ≡ true → follow true xs ≡ Some Follow.Offset
unfolding follow is_loose begins
follow_loose [] h = clash cc
follow_loose (b ∷ rest) h = rw (&&-left (b is "[") _ h)

-- ---- the name

name_run : (from n : ℕ) (xs : List ℕ)
    → name true from n xs ≡ variable from (n + run is_identifier xs) (follow true (drop (run is_identifier xs) xs))
unfolding name run
name_run from n [] = ap (λ k. variable from k (follow true [])) (omega arith)
name_run from n (b ∷ rest) =
    if_both (λ u k. u ≡ variable from (n + k) (follow true (drop k (b ∷ rest)))) (is_identifier b)
    (λ e. name_run from (suc n) rest
    ∙ ap (λ k. variable from k (follow true (drop (run is_identifier rest) rest))) (omega arith))
    (λ e. ap (λ k. variable from k (follow true (b ∷ rest))) (omega arith))

-- a name and what follows it
dollar_name : (n : ℕ) (xs : List ℕ) → 0 < name_length xs
    → dollar true n xs ≡ variable n (n + 1 + name_length xs) (follow true (drop (name_length xs) xs))
unfolding dollar name_length is_start is_letter
dollar_name n [] h = absurd (omega arith)
dollar_name n (b ∷ rest) h = go (is_start b) refl h
  where
    go : (t : Bool) → is_start b ≡ t → 0 < (if t then suc (run is_identifier rest) else 0)
        → (if b is "{" then TextUnit.Ends Stop.DollarLeftBrace n (suc (suc n))
        else if t then name true n (suc (suc n)) rest
        else plain (code "$") n)
        ≡ variable n (n + 1 + (if t then suc (run is_identifier rest) else 0))
        (follow true (drop (if t then suc (run is_identifier rest) else 0) (b ∷ rest)))
    go true e h =
        rw (other_byte is_start (code "{") b refl e)
        (name_run n (suc (suc n)) rest
        ∙ ap (λ k. variable n k (follow true (drop (run is_identifier rest) rest))) (omega arith))
    go false e h = absurd (omega arith)

-- ---- the theorems

module _ (n : ℕ) (xs : List ℕ) where
  pub variable_manual : 0 < name_length xs → is_loose (drop (name_length xs) xs) ≡ false
      → dollar true n xs
      ≡ TextUnit.Ends (Stop.Variable (follow_of (belonging (drop (name_length xs) xs)))) n (n + 1 + name_length xs)
  unfolding variable
  variable_manual h l = dollar_name n xs h ∙ rw (follow_manual (drop (name_length xs) xs) l)

  pub variable_loose : 0 < name_length xs → is_loose (drop (name_length xs) xs) ≡ true
      → dollar true n xs ≡ TextUnit.Ends (Stop.Variable Follow.Offset) n (n + 1 + name_length xs)
  unfolding variable
  variable_loose h l = dollar_name n xs h ∙ rw (follow_loose (drop (name_length xs) xs) l)

pub variable_none : (n : ℕ) (xs : List ℕ) → name_length xs ≡ 0
    → dollar true n xs
    ≡ (if begins (code "{") xs then TextUnit.Ends Stop.DollarLeftBrace n (n + 2) else plain (code "$") n)
unfolding dollar name_length begins
variable_none n [] h = refl
variable_none n (b ∷ rest) h = go (is_start b) h
  where
    go : (t : Bool) → (if t then suc (run is_identifier rest) else 0) ≡ 0
        → (if b is "{" then TextUnit.Ends Stop.DollarLeftBrace n (suc (suc n))
        else if t then name true n (suc (suc n)) rest
        else plain (code "$") n)
        ≡ (if b is "{" then TextUnit.Ends Stop.DollarLeftBrace n (n + 2) else plain (code "$") n)
    go true h = absurd (omega arith)
    go false h =
        let z : suc (suc n) ≡ n + 2 = omega arith in
        rw z

pub variable_found : (n : ℕ) (xs : List ℕ)
    → find_dollar true n xs
    ≡ (if begins (code "{") xs || not (eqb (name_length xs) 0) then found n else plain (code "$") n)
unfolding find_dollar name_length begins
variable_found n [] = refl
variable_found n (b ∷ rest) = go (is_start b)
  where
    go : (t : Bool) → (if b is "{" || t then found n else plain (code "$") n)
        ≡ (if b is "{" || not (eqb (if t then suc (run is_identifier rest) else 0) 0) then found n
        else plain (code "$") n)
    go true = rw (named (run is_identifier rest))
    go false = refl

pub brace_manual : (n : ℕ) (xs : List ℕ)
    → (brace true n xs ≡ (if begins (code "$") xs then TextUnit.Ends Stop.LeftBrace n (suc n) else plain (code "{") n))
    × (find_brace true n xs ≡ (if begins (code "$") xs then found n else plain (code "{") n))
unfolding brace find_brace begins
brace_manual n [] = (refl, refl)
brace_manual n (b ∷ rest) = (refl, refl)
