-- What a host finds under the finger (include/puretakoi.h), as three numbers, or four.
--   found_numbers   whether a record was found, its number, and how many records were looked at
--   found_ended     the same and, where the slice has a fourth number, where the step ended that wrote it
--   finds_number    the refusal of a look-up, or 0
--   found_after     the slice after it: a refusal changes nothing
--   Finds           the refusal or 0, and what the slice holds: 10 first, for fewer than three numbers
use Rattle.std.specs.Prelude.{ℕ, List, [], ◌∷◌, ◌++◌, ◌≡◌, leb, length, if◌then◌else◌, Option, None, Some, Result, Ok, Err}
use Rattle.byte.specs.Laid.{laid}
use Rattle.byte.specs.Refusals.{out_of_place, number_of}
use Rattle.lookup.specs.declared.Looked.{Looked}
use Rattle.lookup.specs.declared.Refused.{Refused}
use Rattle.lookup.specs.Lookups.{looked_up}

unfoldable pub found_numbers : Option ℕ → ℕ → List ℕ
found_numbers None looks = 0 ∷ 0 ∷ looks ∷ []
found_numbers (Some number) looks = 1 ∷ number ∷ looks ∷ []

-- for a slice of so many numbers
unfoldable pub found_ended : ℕ → Option ℕ → ℕ → ℕ → List ℕ
found_ended size found looks end =
    if leb 4 size then found_numbers found looks ++ (end ∷ []) else found_numbers found looks

unfoldable pub finds_number : Result Looked Refused → ℕ
finds_number (Ok looked) = 0
finds_number (Err refused) = number_of refused.refusal

unfoldable pub found_after : Result Looked Refused → List ℕ → List ℕ
found_after (Ok looked) slice = laid slice 0 (found_ended (length slice) looked.found looked.looks looked.end)
found_after (Err refused) slice = slice

pub record Finds (list : List ℕ) (count byte : ℕ) (found : List ℕ) (r : ℕ) (found' : List ℕ) : Type 0 where
  pub number : r ≡ (if leb 3 (length found) then finds_number (looked_up list count byte) else number_of out_of_place)
  pub holds : found' ≡ (if leb 3 (length found) then found_after (looked_up list count byte) found else found)
