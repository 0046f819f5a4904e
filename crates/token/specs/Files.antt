-- The record file (document 01, "Token list"): 32-byte records, little-endian, no header.
--   little_endian     a number as four bytes, the lowest first
--   file_of           the bytes of a list of numbers
--   number_at         the number in the four bytes from a place on
--   list_of           so many numbers from the file's start on
--   records_refusal   of so many places, so many to a record, and room for so many records: 11, 10, full, or none
--   to_file_refusal   of a list of so many numbers and a file of so many bytes: 11, 10, 8, or none
--   to_list_refusal   of a file of so many bytes and a list of so many numbers: 11, 10, 7, or none
--   ToFile, ToList    answer, and what the lent file or list then holds: a refusal changes nothing
-- `to_file_to_list` and `to_list_to_file` (proofs/RoundTrips.antt) say that each undoes the other.
use Rattle.std.specs.Prelude.{ℕ, Result, Ok, Err, zero, suc, ◌+◌, ◌*◌, ◌/◌, ◌%◌, ◌&&◌, List, [], ◌∷◌, ◌++◌, ◌≡◌, refl, leb, eqb, length, get_or, drop, if◌then◌else◌}
use Rattle.byte.specs.declared.Refusal.{Refusal}
use Rattle.byte.specs.Laid.{laid}
use Rattle.source.specs.Cursor.{origin}
use Rattle.byte.specs.Refusals.{list_full, pool_full, out_of_place, too_large}
use Rattle.state.specs.declared.Answer.{Answer}

unfoldable pub little_endian : ℕ → List ℕ
little_endian n = n % 256 ∷ n / 256 % 256 ∷ n / 65536 % 256 ∷ n / 16777216 % 256 ∷ []

unfoldable pub file_of : List ℕ → List ℕ
file_of [] = []
file_of (n ∷ rest) = little_endian n ++ file_of rest

unfoldable pub number_at : List ℕ → ℕ → ℕ
number_at file at =
    get_or file at 0 + get_or file (at + 1) 0 * 256 + get_or file (at + 2) 0 * 65536 + get_or file (at + 3) 0 * 16777216

unfoldable pub list_of : ℕ → List ℕ → List ℕ
list_of zero file = []
list_of (suc count) file = number_at file 0 ∷ list_of count (drop 4 file)

unfoldable pub records_refusal : ℕ → ℕ → ℕ → Refusal → Result (Unit {0}) Refusal
records_refusal size unit room full =
    if leb (size / unit) 65537 then
    (if eqb (size % unit) 0 then (if leb (size / unit) room then Ok tt else Err full) else Err out_of_place)
    else Err too_large

unfoldable pub to_file_refusal : ℕ → ℕ → Result (Unit {0}) Refusal
to_file_refusal list file =
    if leb (list / 8) 65537 then
    (if eqb (list % 8) 0 then (if leb (list / 8) (file / 32) then Ok tt else Err pool_full) else Err out_of_place)
    else Err too_large

unfoldable pub to_list_refusal : ℕ → ℕ → Result (Unit {0}) Refusal
to_list_refusal file list =
    if leb (file / 32) 65537 && leb (list / 8) 65537 then
    (if eqb (file % 32) 0 then (if leb (file / 32) (list / 8) then Ok tt else Err list_full) else Err out_of_place)
    else Err too_large

-- a call without a session bears the script's beginning
unfoldable pub file_answer : {R : Type 0} → Result (Unit {0}) R → Answer R
file_answer (Ok passes) = Answer.Done
file_answer (Err refusal) = Answer.Refused refusal origin

-- what was lent, after a call: the values stand at its start, or it is as it was
unfoldable pub file_after : {R : Type 0} → Result (Unit {0}) R → List ℕ → List ℕ → List ℕ
file_after (Ok passes) lent values = laid lent 0 values
file_after (Err refusal) lent values = lent

pub record Written {R : Type 0} (refusal : Result (Unit {0}) R) (lent values : List ℕ) (r : Answer R) (after : List ℕ) : Type 0 where
  pub answer : r ≡ file_answer refusal
  pub holds : after ≡ file_after refusal lent values

abbrev pub ToFile : List ℕ → List ℕ → Answer Refusal → List ℕ → Type 0
ToFile list file r after = Written (to_file_refusal (length list) (length file)) file (file_of list) r after

abbrev pub ToList : List ℕ → List ℕ → Answer Refusal → List ℕ → Type 0
ToList file list r after = Written (to_list_refusal (length file) (length list)) list (list_of (length file / 4) file) r after

-- 258 is 2 and 1
two_one : file_of (258 ∷ []) ≡ 2 ∷ 1 ∷ 0 ∷ 0 ∷ []
unfolding file_of little_endian
two_one = refl

one_number : list_of 1 (2 ∷ 1 ∷ 0 ∷ 0 ∷ []) ≡ 258 ∷ []
unfolding list_of number_at
one_number = refl
