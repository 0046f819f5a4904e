-- Where the first tag of a text lies: `tagged_inside`. Assumes nothing.
use Prim.Native.Nat.{ℕ, suc, ◌+◌, ◌≤◌}
use mathlib.Core.Path.{◌≡◌, subst}
use mathlib.Core.Bool.{Bool}
use mathlib.Core.List.{List, [], ◌∷◌}
use native.Mathlib.Omega.{arith}
use lib.Dec.{eqb}
use lib.ListN.{length}
use Rattle.byte.specs.Words.{◌is◌, bytes}
use Rattle.byte.proofs.Tests.{choice}
use Rattle.outcome.specs.declared.OpenTagKind.{OpenTagKind}
use Rattle.outcome.specs.declared.Tag.{Tag}
use Rattle.outcome.specs.declared.Tagged.{Tagged}
use Rattle.outcome.specs.Initials.{lower, full_tag, open_tag, tag, or_later, tagged, tag_length}

-- a tag has no more bytes than so many
abbrev TagFits : ℕ → Tag → Type 0
TagFits hi (Tag.Open kind) = tag_length kind ≤ hi
TagFits hi Tag.None = Unit {0}
TagFits hi Tag.Undecided = Unit {0}

-- m bytes of it stand before the letters
full_tag_fits : (end : Bool) (letters xs : List ℕ) (m : ℕ) → 2 ≤ m → m + length letters ≡ 5
    → TagFits (m + length xs) (full_tag end letters xs)
unfolding full_tag tag_length
full_tag_fits end [] xs m h e = omega arith
full_tag_fits end (a ∷ letters) [] m h e = choice (TagFits (m + 0)) end _ _ (λ t. omega arith) (λ t. tt)
full_tag_fits end (a ∷ letters) (b ∷ rest) m h e =
    choice (TagFits (m + suc (length rest))) (eqb a (lower b)) _ _
    (λ t.
    let f : m + suc (length rest) ≡ suc m + length rest = omega arith in
    rw f (full_tag_fits end letters rest (suc m) (omega arith) (omega arith)))
    (λ t. omega arith)

open_tag_fits : (end : Bool) (xs : List ℕ) → TagFits (suc (suc (length xs))) (open_tag end xs)
unfolding open_tag tag_length bytes
open_tag_fits end [] = choice (TagFits 2) end _ _ (λ t. omega arith) (λ t. tt)
open_tag_fits end (b ∷ rest) =
    let f : suc (suc (suc (length rest))) ≡ 2 + suc (length rest) = omega arith in
    choice (TagFits (suc (suc (suc (length rest))))) (b is "=") _ _ (λ t. omega arith)
    (λ t. rw f (full_tag_fits end (bytes "php") (b ∷ rest) 2 (omega arith) (omega arith)))

tag_fits : (end : Bool) (xs : List ℕ) → TagFits (suc (length xs)) (tag end xs)
unfolding tag
tag_fits end [] = choice (TagFits 1) end _ _ (λ t. tt) (λ t. tt)
tag_fits end (b ∷ rest) = choice (TagFits (suc (suc (length rest)))) (b is "?") _ _ (λ t. open_tag_fits end rest) (λ t. tt)

pub record TagInside (n hi : ℕ) (kind : OpenTagKind) (place : ℕ) : Type 0 where
  pub low : n ≤ place
  pub high : place + tag_length kind ≤ hi

abbrev pub TaggedInside : ℕ → ℕ → Tagged → Type 0
TaggedInside n hi (Tagged.At kind place) = TagInside n hi kind place
TaggedInside n hi Tagged.Over = Unit {0}
TaggedInside n hi Tagged.Undecided = Unit {0}

later_inside : (n hi : ℕ) (t : Tagged) → TaggedInside (suc n) hi t → TaggedInside n hi t
later_inside n hi (Tagged.At kind place) i = record { low = omega (arith, i.low); high = i.high }
later_inside n hi Tagged.Over i = tt
later_inside n hi Tagged.Undecided i = tt

or_later_inside : (n m : ℕ) (t : Tag) (later : Tagged) → TagFits m t → TaggedInside n (n + m) later
    → TaggedInside n (n + m) (or_later t n later)
unfolding or_later
or_later_inside n m (Tag.Open kind) later f i = record { low = omega arith; high = omega arith }
or_later_inside n m Tag.None later f i = i
or_later_inside n m Tag.Undecided later f i = tt

pub tagged_within : (end : Bool) (n : ℕ) (xs : List ℕ) → TaggedInside n (n + length xs) (tagged end n xs)
unfolding tagged
tagged_within end n [] = choice (TaggedInside n (n + 0)) end _ _ (λ t. tt) (λ t. tt)
tagged_within end n (b ∷ rest) =
    let f : n + suc (length rest) ≡ suc n + length rest = omega arith in
    let later : TaggedInside n (n + suc (length rest)) (tagged end (suc n) rest) =
    later_inside n (n + suc (length rest)) (tagged end (suc n) rest) (rw f (tagged_within end (suc n) rest)) in
    choice (TaggedInside n (n + suc (length rest))) (b is "<") _ _
    (λ t. or_later_inside n (suc (length rest)) (tag end rest) (tagged end (suc n) rest) (tag_fits end rest) later)
    (λ t. later)

-- the first tag from n on lies in the text
pub tagged_inside : (end : Bool) (n : ℕ) (xs : List ℕ) (kind : OpenTagKind) (place : ℕ) → tagged end n xs ≡ Tagged.At kind place
    → TagInside n (n + length xs) kind place
tagged_inside end n xs kind place e = subst (TaggedInside n (n + length xs)) e (tagged_within end n xs)
