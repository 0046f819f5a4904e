-- Refusals and their numbers: no two have one number, and none has 0. Assumes nothing.
use Rattle.std.specs.Prelude.{if◌then◌else◌}
use Prim.Native.Nat.{ℕ}
use mathlib.Core.Path.{◌≡◌, refl, sym, ap, ◌∙◌}
use mathlib.Core.Bool.{Bool, true, false, ◌||◌, false≢true}
use mathlib.Core.List.{List, [], ◌∷◌}
use lib.Dec.{eqb}
use borrow.Author.Tests.{eqb-true, eq-eqb}
use Rattle.byte.specs.declared.Refusal.{Refusal}
use Rattle.byte.specs.Refusals.{number_of, is_same, is_among}
use Rattle.byte.specs.Words.{every}
use Rattle.byte.proofs.Tests.{&&-left, &&-right}

-- the refusal with a number
abbrev refusal_of : ℕ → Refusal
refusal_of n =
    if eqb n 1 then Refusal.UnexpectedEndOfFile
    else if eqb n 2 then Refusal.InvalidUnicodeEscape
    else if eqb n 3 then Refusal.InvalidOctalEscape
    else if eqb n 4 then Refusal.InvalidDocIndentation
    else if eqb n 5 then Refusal.NoProperty
    else if eqb n 6 then Refusal.Wait
    else if eqb n 7 then Refusal.ListFull
    else if eqb n 8 then Refusal.PoolFull
    else if eqb n 9 then Refusal.StackFull
    else if eqb n 10 then Refusal.OutOfPlace
    else if eqb n 11 then Refusal.TooLarge
    else if eqb n 12 then Refusal.BadSession
    else Refusal.StrayIndentation

back : (r : Refusal) → refusal_of (number_of r) ≡ r
back Refusal.UnexpectedEndOfFile = refl
back Refusal.InvalidUnicodeEscape = refl
back Refusal.InvalidOctalEscape = refl
back Refusal.InvalidDocIndentation = refl
back Refusal.NoProperty = refl
back Refusal.Wait = refl
back Refusal.ListFull = refl
back Refusal.PoolFull = refl
back Refusal.StackFull = refl
back Refusal.OutOfPlace = refl
back Refusal.TooLarge = refl
back Refusal.BadSession = refl
back Refusal.StrayIndentation = refl

pub number_of_one : (a b : Refusal) → number_of a ≡ number_of b → a ≡ b
number_of_one a b e = sym (back a) ∙ ap refusal_of e ∙ back b

pub is_same_one : (a b : Refusal) → is_same a b ≡ true → a ≡ b
is_same_one a b e = number_of_one a b (eqb-true (number_of a) (number_of b) e)

pub same_here : (a b : Refusal) → a ≡ b → is_same a b ≡ true
same_here a b e = eq-eqb (number_of a) (number_of b) (ap number_of e)

pub number_of_some : (r : Refusal) → eqb (number_of r) 0 ≡ false
number_of_some Refusal.UnexpectedEndOfFile = refl
number_of_some Refusal.InvalidUnicodeEscape = refl
number_of_some Refusal.InvalidOctalEscape = refl
number_of_some Refusal.InvalidDocIndentation = refl
number_of_some Refusal.NoProperty = refl
number_of_some Refusal.Wait = refl
number_of_some Refusal.ListFull = refl
number_of_some Refusal.PoolFull = refl
number_of_some Refusal.StackFull = refl
number_of_some Refusal.OutOfPlace = refl
number_of_some Refusal.TooLarge = refl
number_of_some Refusal.BadSession = refl
number_of_some Refusal.StrayIndentation = refl

-- what holds of all refusals of a list holds of each
pub among_every : (test : Refusal → Bool) (refusals : List Refusal) → every test refusals ≡ true
    → (refusal : Refusal) → is_among refusal refusals ≡ true → test refusal ≡ true
unfolding every is_among
among_every test [] h refusal e = absurd (false≢true e)
among_every test (r ∷ refusals) h refusal e =
    go (is_same refusal r) refl e (among_every test refusals (&&-right (test r) _ h) refusal)
  where
    go : (t : Bool) → is_same refusal r ≡ t → (t || is_among refusal refusals) ≡ true
        → (is_among refusal refusals ≡ true → test refusal ≡ true)
        → test refusal ≡ true
    go true z f later = rw (is_same_one refusal r z) (&&-left (test r) _ h)
    go false z f later = later f
