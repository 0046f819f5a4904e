-- What a call comes to that may be refused.
--   told_by       the refusal's number, or 0
--   told_number   the number that a host is given
--   told_after    what was lent, after the call: where it is refused, as it was
--   numbers_told  the numbers of a list of refusals
--   Tells         the refusal and what was lent, before the number is told
use Rattle.std.specs.Prelude.{ℕ, Result, Ok, Err, List, [], ◌∷◌, ◌≡◌}
use Rattle.byte.specs.declared.Refusal.{Refusal}
use Rattle.byte.specs.Refusals.{number_of}

abbrev pub told_by : {R : Type 0} → (R → ℕ) → Result (Unit {0}) R → ℕ
told_by number (Ok passes) = 0
told_by number (Err refusal) = number refusal

abbrev pub told_number : Result (Unit {0}) Refusal → ℕ
told_number told = told_by number_of told

abbrev pub told_after : Result (Unit {0}) Refusal → List ℕ → List ℕ → List ℕ
told_after (Ok passes) written lent = written
told_after (Err refusal) written lent = lent

abbrev pub numbers_told : List Refusal → List ℕ
numbers_told [] = []
numbers_told (refusal ∷ more) = number_of refusal ∷ numbers_told more

pub record Tells (refusal : Result (Unit {0}) Refusal) (written lent : List ℕ) (r : Result (Unit {0}) Refusal) (after : List ℕ) : Type 0 where
  pub told : r ≡ refusal
  pub holds : after ≡ told_after refusal written lent
