-- The lines of a text: how many bytes they have, and that all but the last have a break.
--   total, total_lines             the lines of a text have its bytes
--   Lined, lines_lined             a line that others follow has a break, at its end
--   Continues, lines-append        the lines of a text and of a longer one: the last line may go on
--   Grown, lines_grown             the lines of a text and with one byte more, no break: the last line goes on, or one
--                                  begins
--   flat, flat_lines, lines_flat   the lines of a text one after the other are the text, and back
-- Assumes nothing.
use Rattle.std.specs.Prelude.{if◌then◌else◌}
use Prim.Native.Nat.{ℕ, suc, ◌+◌}
use mathlib.Core.Path.{◌≡◌, refl, ap, ◌∙◌}
use mathlib.Core.Bool.{Bool, true, false, ◌||◌, false≢true}
use mathlib.Core.List.{List, [], ◌∷◌, ◌++◌}
use native.Mathlib.Omega.{arith}
use lib.ListN.{length}
use Rattle.byte.specs.Words.{◌is◌, every}
use Rattle.byte.proofs.Tests.{choice, &&-left, &&-right}
use Rattle.unit.proofs.Openings.{one_more}
use Rattle.sheet.specs.Bodies.{in_front, lines}
use Rattle.sheet.specs.Code.{is_line}

unfoldable pub total : List (List ℕ) → ℕ
total [] = 0
total (line ∷ more) = length line + total more

total_in_front : (b : ℕ) (ls : List (List ℕ)) → total (in_front b ls) ≡ suc (total ls)
unfolding total in_front
total_in_front b [] = refl
total_in_front b (line ∷ more) = omega arith

pub total_lines : (xs : List ℕ) → total (lines xs) ≡ length xs
unfolding lines total
total_lines [] = refl
total_lines (b ∷ rest) =
    choice (λ ls. total ls ≡ suc (length rest)) (b is "\n") ((b ∷ []) ∷ lines rest) (in_front b (lines rest))
    (λ e. omega (arith, total_lines rest))
    (λ e. total_in_front b (lines rest) ∙ ap suc (total_lines rest))

-- a break stands in it
unfoldable pub has_break : List ℕ → Bool
has_break [] = false
has_break (b ∷ rest) = b is "\n" || has_break rest

pub data Lined : List (List ℕ) → Type 0 where
  none : Lined []
  last : {line : List ℕ} → Lined (line ∷ [])
  broken : {line : List ℕ} {later : List (List ℕ)} → is_line line ≡ true → Lined later → Lined (line ∷ later)

pub line-break : (line : List ℕ) → is_line line ≡ true → has_break line ≡ true
unfolding is_line has_break
line-break [] h = absurd (false≢true h)
line-break (b ∷ []) h = rw h
line-break (b ∷ c ∷ rest) h = go (b is "\n") (line-break (c ∷ rest)) h
  where
    go : (t : Bool) → (is_line (c ∷ rest) ≡ true → has_break (c ∷ rest) ≡ true)
        → (if t then false else is_line (c ∷ rest)) ≡ true → (t || has_break (c ∷ rest)) ≡ true
    go true ih e = absurd (false≢true e)
    go false ih e = ih e

line_front : (b : ℕ) (line : List ℕ) → (b is "\n") ≡ false → is_line line ≡ true → is_line (b ∷ line) ≡ true
unfolding is_line
line_front b [] e h = absurd (false≢true h)
line_front b (c ∷ rest) e h = rw e h

in_front_lined : (b : ℕ) {ls : List (List ℕ)} → (b is "\n") ≡ false → Lined ls → Lined (in_front b ls)
unfolding in_front
in_front_lined b e none = last
in_front_lined b e last = last
in_front_lined b e (broken {line} h l) = broken (line_front b line e h) l

pub lines_lined : (xs : List ℕ) → Lined (lines xs)
unfolding lines is_line
lines_lined [] = none
lines_lined (b ∷ rest) =
    choice Lined (b is "\n") _ _ (λ e. broken {line = b ∷ []} (rw e) (lines_lined rest)) (λ e. in_front_lined b e (lines_lined rest))

pub data Continues : List (List ℕ) → List (List ℕ) → Type 0 where
  behind : {later : List (List ℕ)} → Continues [] later
  longer : {line : List ℕ} {later : List (List ℕ)} (tail : List ℕ) → Continues (line ∷ []) ((line ++ tail) ∷ later)
  alike : {line : List ℕ} {ls ls' : List (List ℕ)} → Continues ls ls' → Continues (line ∷ ls) (line ∷ ls')

in_front_continues : (b : ℕ) {ls ls' : List (List ℕ)} → Continues ls ls' → Continues (in_front b ls) (in_front b ls')
unfolding in_front
in_front_continues b (behind {later = []}) = longer []
in_front_continues b (behind {later = line ∷ later}) = longer line
in_front_continues b (longer tail) = longer tail
in_front_continues b (alike c) = alike c

if_continues : (t : Bool) {u u' v v' : List (List ℕ)} → Continues u u' → Continues v v'
    → Continues (if t then u else v) (if t then u' else v')
if_continues true c d = c
if_continues false c d = d

pub lines-append : (xs more : List ℕ) → Continues (lines xs) (lines (xs ++ more))
unfolding lines
lines-append [] more = behind
lines-append (b ∷ xs) more =
    if_continues (b is "\n") (alike (lines-append xs more)) (in_front_continues b (lines-append xs more))

pub data Grown : List (List ℕ) → List (List ℕ) → Type 0 where
  begun : Grown [] (one_more ∷ [])
  grown : {line : List ℕ} → Grown (line ∷ []) ((line ++ one_more) ∷ [])
  beside : {line : List ℕ} {ls ls' : List (List ℕ)} → is_line line ≡ true → Grown ls ls' → Grown (line ∷ ls) (line ∷ ls')

in_front_grown : (b : ℕ) {ls ls' : List (List ℕ)} → (b is "\n") ≡ false → Grown ls ls' → Grown (in_front b ls) (in_front b ls')
unfolding in_front
in_front_grown b e begun = grown
in_front_grown b e grown = grown
in_front_grown b e (beside {line} h g) = beside (line_front b line e h) g

pub lines_grown : (xs : List ℕ) → Grown (lines xs) (lines (xs ++ one_more))
unfolding lines in_front is_line
lines_grown [] = begun
lines_grown (b ∷ xs) = go (b is "\n") refl (lines_grown xs)
  where
    go : (t : Bool) → (b is "\n") ≡ t → Grown (lines xs) (lines (xs ++ one_more))
        → Grown (if t then (b ∷ []) ∷ lines xs else in_front b (lines xs))
        (if t then (b ∷ []) ∷ lines (xs ++ one_more) else in_front b (lines (xs ++ one_more)))
    go true e g = beside {line = b ∷ []} (rw e) g
    go false e g = in_front_grown b e g

unfoldable pub flat : List (List ℕ) → List ℕ
flat [] = []
flat (line ∷ more) = line ++ flat more

flat_in_front : (b : ℕ) (ls : List (List ℕ)) → flat (in_front b ls) ≡ b ∷ flat ls
unfolding flat in_front
flat_in_front b [] = refl
flat_in_front b (line ∷ more) = refl

pub flat_lines : (xs : List ℕ) → flat (lines xs) ≡ xs
unfolding lines flat
flat_lines [] = refl
flat_lines (b ∷ rest) =
    choice (λ ls. flat ls ≡ b ∷ rest) (b is "\n") ((b ∷ []) ∷ lines rest) (in_front b (lines rest))
    (λ e. ap (λ (r : List ℕ). b ∷ r) (flat_lines rest))
    (λ e. flat_in_front b (lines rest) ∙ ap (λ (r : List ℕ). b ∷ r) (flat_lines rest))

lines-first : (line rest : List ℕ) → is_line line ≡ true → lines (line ++ rest) ≡ line ∷ lines rest
unfolding lines is_line in_front
lines-first [] rest h = absurd (false≢true h)
lines-first (b ∷ []) rest h = rw h
lines-first (b ∷ c ∷ line) rest h = go (b is "\n") (lines-first (c ∷ line) rest) h
  where
    go : (t : Bool) → (is_line (c ∷ line) ≡ true → lines ((c ∷ line) ++ rest) ≡ (c ∷ line) ∷ lines rest)
        → (if t then false else is_line (c ∷ line)) ≡ true
        → (if t then (b ∷ []) ∷ lines ((c ∷ line) ++ rest) else in_front b (lines ((c ∷ line) ++ rest)))
        ≡ (b ∷ c ∷ line) ∷ lines rest
    go true ih e = absurd (false≢true e)
    go false ih e = ap (in_front b) (ih e)

pub lines_flat : (ls : List (List ℕ)) → every is_line ls ≡ true → lines (flat ls) ≡ ls
unfolding flat every lines
lines_flat [] h = refl
lines_flat (line ∷ more) h =
    lines-first line (flat more) (&&-left (is_line line) (every is_line more) h)
    ∙ ap (λ (ls : List (List ℕ)). line ∷ ls) (lines_flat more (&&-right (is_line line) (every is_line more) h))
