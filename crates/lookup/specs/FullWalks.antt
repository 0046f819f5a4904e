-- The full walk over all records, which a look-up is held to (document 02, P3). The positions of records are given by
-- their numbers.
--   last_before   of the first so many records the last whose position is at or before the byte
--   IsLast        what that means, record by record: `last_before_last`, `last_one` (proofs/FullWalks.antt) say that
--                 the full walk gives it
--   NeverFalls    the positions of the first so many records never fall
--   AsFullWalk    the look-up finds what the full walk finds
--   is_seen       what is found was looked at
--   IsReached     what is found is at or before the byte
use Rattle.std.specs.Prelude.{ℕ, zero, suc, ◌≤◌, ◌<◌, Bool, true, List, ◌≡◌, leb, length, if◌then◌else◌, Option, None, Some, Ok}
use Rattle.byte.specs.Words.{is_one_of}
use Rattle.lookup.specs.Lookups.{position_in, end_in, searched, looked_up}

unfoldable pub last_before : (ℕ → ℕ) → ℕ → ℕ → Option ℕ
last_before position byte zero = None
last_before position byte (suc i) = if leb (position i) byte then Some i else last_before position byte i

-- it is at or before the byte, and every later record is after it; or every record is after it
abbrev pub IsLast : (ℕ → ℕ) → ℕ → ℕ → Option ℕ → Type 0
IsLast position byte count None = (j : ℕ) → j < count → byte < position j
IsLast position byte count (Some i) =
    (i < count) × (position i ≤ byte) × ((j : ℕ) → i < j → j < count → byte < position j)

abbrev pub NeverFalls : (ℕ → ℕ) → ℕ → Type 0
NeverFalls position count = (i j : ℕ) → i ≤ j → j < count → position i ≤ position j

abbrev pub AsFullWalk : List ℕ → ℕ → ℕ → Type 0
AsFullWalk list count byte =
    let last = last_before (position_in list) byte count in
    looked_up list count byte
    ≡ Ok (record { found = last; looks = length (searched (position_in list) byte 0 count).trail; end = end_in list last })

unfoldable pub is_seen : Option ℕ → List ℕ → Bool
is_seen None trail = true
is_seen (Some i) trail = is_one_of i trail

abbrev pub IsReached : (ℕ → ℕ) → ℕ → Option ℕ → Type 0
IsReached position byte None = Unit {0}
IsReached position byte (Some i) = position i ≤ byte
