-- Which token is under the finger? (Document 02, P3.) The last record whose position is at or before a byte, looked
-- for by halving.
--   position_in     a record's position: the fifth of its eight numbers
--   end_in          where the step ended that wrote what was found: the eighth; 0 for nothing (document 02, P4)
--   record_before   the last of so many records; of none, nothing
--   Search          the records looked at, in order, and what was found
--   search_in       a search over the records from low on, before high, one look a round, of at most so many rounds
--   searched        the same with as many rounds as there are records: `searched_on`, `searched_over`
--                   (proofs/Searches.antt) say that it never wants more
--   find_refusal    11 for a list over 65,537 places, then 12 for a count above its places, or none. The list has so many
--                   numbers
--   told            what a search over a list comes to: what was found, the number of looks, and the end
--   looked_up       the refusal, at the script's beginning; or what the search comes to
-- FullWalks.antt has the full walk. Where positions never fall both find the same; on other lists only this is
-- promised.
use Rattle.std.specs.Prelude.{ℕ, Result, Ok, Err, zero, suc, ◌+◌, ◌-◌, ◌*◌, ◌/◌, List, [], ◌∷◌, leb, eqb, length, get_or, if◌then◌else◌, Option, None, Some}
use Rattle.byte.specs.declared.Refusal.{Refusal}
use Rattle.byte.specs.Refusals.{too_large, bad_session}
use Rattle.source.specs.Cursor.{origin}
use Rattle.lookup.specs.declared.Looked.{Looked}
use Rattle.lookup.specs.declared.Refused.{Refused}

abbrev pub position_in : List ℕ → ℕ → ℕ
position_in list i = get_or list (i * 8 + 4) 0

unfoldable pub end_in : List ℕ → Option ℕ → ℕ
end_in list None = 0
end_in list (Some i) = get_or list (i * 8 + 7) 0

unfoldable pub record_before : ℕ → Option ℕ
record_before zero = None
record_before (suc i) = Some i

pub record Search : Type 0 where
  pub trail : List ℕ
  pub found : Option ℕ

-- no record is left to look at: those before low are at or before the byte
abbrev pub over : ℕ → Search
over low = record { trail = []; found = record_before low }

-- record i is looked at, and then the others
abbrev pub look : ℕ → Search → Search
look i later = record { trail = i ∷ later.trail; found = later.found }

-- the positions of records are given by their numbers
unfoldable pub search_in : ℕ → (ℕ → ℕ) → ℕ → ℕ → ℕ → Search
search_in zero position byte low high = over low
search_in (suc rounds) position byte low high =
    let middle = (low + high) / 2 in
    if leb high low then over low
    else look middle
    (if leb (position middle) byte then search_in rounds position byte (middle + 1) high
    else search_in rounds position byte low middle)

abbrev pub searched : (ℕ → ℕ) → ℕ → ℕ → ℕ → Search
searched position byte low high = search_in (high - low) position byte low high

unfoldable pub find_refusal : ℕ → ℕ → Result (Unit {0}) Refusal
find_refusal numbers count =
    if leb (numbers / 8) 65537 then (if leb count (numbers / 8) then Ok tt else Err bad_session) else Err too_large

abbrev pub told : List ℕ → Search → Looked
told list s = record { found = s.found; looks = length s.trail; end = end_in list s.found }

-- what was found, or the refusal
abbrev pub unless_refused : Result (Unit {0}) Refusal → Looked → Result Looked Refused
unless_refused (Ok passes) looked = Ok looked
unless_refused (Err refusal) looked = Err (record { refusal = refusal; span = origin })

unfoldable pub looked_up : List ℕ → ℕ → ℕ → Result Looked Refused
looked_up list count byte =
    unless_refused (find_refusal (length list) count) (told list (searched (position_in list) byte 0 count))
