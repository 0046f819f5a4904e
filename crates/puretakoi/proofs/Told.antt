-- Of a call that may be refused: which number is given back. Assumes nothing.
--   number_some, told_none     the number is 0 where there is no refusal, and there alone
--   told_among                 the number of a refusal of a list is one of the list's numbers
--   one_of_more, one_of_here   a longer list, and its first
use Rattle.std.specs.Prelude.{Result, Ok, Err}
use Prim.Native.Nat.{ℕ}
use mathlib.Core.Path.{◌≡◌, refl, sym, ap, ◌∙◌}
use mathlib.Core.Bool.{Bool, true, false, ◌||◌, false≢true}
use mathlib.Core.List.{List, [], ◌∷◌}
use lib.Dec.{eqb}
use borrow.Author.Tests.{eq-eqb}
use Rattle.byte.specs.declared.Refusal.{Refusal}
use Rattle.byte.specs.Refusals.{number_of, is_same, is_among}
use Rattle.byte.specs.Words.{is_one_of}
use Rattle.byte.proofs.Refusals.{number_of_some}
use Rattle.puretakoi.specs.Told.{told_number, numbers_told}

-- no refusal has number 0
pub number_some : (refusal : Refusal) → number_of refusal ≡ 0 → ⊥
number_some refusal e = false≢true (sym (number_of_some refusal) ∙ eq-eqb (number_of refusal) 0 e)

pub told_none : (told : Result (Unit {0}) Refusal) → told_number told ≡ 0 → told ≡ Ok tt
told_none (Ok tt) e = refl
told_none (Err refusal) e = absurd (number_some refusal e)

same_told : (refusal : Refusal) (refusals : List Refusal)
    → is_one_of (number_of refusal) (numbers_told refusals) ≡ is_among refusal refusals
unfolding is_one_of is_among
same_told refusal [] = refl
same_told refusal (r ∷ more) = ap (λ (t : Bool). is_same refusal r || t) (same_told refusal more)

pub told_among : (refusal : Refusal) (refusals : List Refusal) → is_among refusal refusals ≡ true
    → is_one_of (number_of refusal) (numbers_told refusals) ≡ true
told_among refusal refusals e = same_told refusal refusals ∙ e

pub one_of_more : (number n : ℕ) (numbers : List ℕ) → is_one_of number numbers ≡ true → is_one_of number (n ∷ numbers) ≡ true
unfolding is_one_of
one_of_more number n numbers e = go (eqb number n)
  where
    go : (t : Bool) → (t || is_one_of number numbers) ≡ true
    go true = refl
    go false = e

pub one_of_here : (n : ℕ) (numbers : List ℕ) → is_one_of n (n ∷ numbers) ≡ true
unfolding is_one_of
one_of_here n numbers = rw (eq-eqb n n refl)
