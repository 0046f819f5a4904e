-- A place as numbers: line, column, position.
--   span_in, numbers_of   the place in three numbers, and back
--   is_small              no number of a place is over 65,537
--   past_refusal          11 for a part over 65,536 bytes, 10 for no three numbers, 12 for a number over 65,537, or none
--   past_numbers          the place past the part, in three numbers
--   Past                  the refusal or 0, and what the three numbers are then: past the part, or as they were
use Rattle.std.specs.Prelude.{ℕ, Result, Ok, Err, Bool, ◌&&◌, List, [], ◌∷◌, ◌≡◌, leb, eqb, length, get_or, if◌then◌else◌}
use Rattle.source.specs.Cursor.{passed}
use Rattle.source.specs.declared.Span.{Span}
use Rattle.byte.specs.declared.Refusal.{Refusal}
use Rattle.byte.specs.Refusals.{out_of_place, too_large, bad_session}
use Rattle.puretakoi.specs.Told.{told_number, told_after}

abbrev pub span_in : List ℕ → Span
span_in span = record { line = get_or span 0 0; column = get_or span 1 0; position = get_or span 2 0 }

abbrev pub numbers_of : Span → List ℕ
numbers_of p = p.line ∷ p.column ∷ p.position ∷ []

unfoldable pub is_small : Span → Bool
is_small p = leb p.line 65537 && leb p.column 65537 && leb p.position 65537

unfoldable pub past_refusal : List ℕ → List ℕ → Result (Unit {0}) Refusal
past_refusal part span =
    if leb (length part) 65536 then
    (if eqb (length span) 3 then (if is_small (span_in span) then Ok tt else Err bad_session) else Err out_of_place)
    else Err too_large

abbrev pub past_numbers : List ℕ → List ℕ → List ℕ
past_numbers part span = numbers_of (passed (span_in span) part)

pub record Past (part span : List ℕ) (r : ℕ) (after : List ℕ) : Type 0 where
  pub answer : r ≡ told_number (past_refusal part span)
  pub holds : after ≡ told_after (past_refusal part span) (past_numbers part span) span
