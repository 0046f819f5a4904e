-- The number reading as a host in C or Rust asks for it: by numbers alone.
--   literal_number, counted                        its kind, and a reading without its bytes in seven numbers
--   asked_number                                   the reading asked for; 11 for a source over 65,536 bytes, 10 for a
--                                                  position past the end
--   number_refusal, number_written, NumberValued   its value for a part: why it is not written, and what the part holds
--                                                  then
use Rattle.std.specs.Prelude.{ℕ, Option, Some, None, List, ◌≡◌, leb, length, drop, if◌then◌else◌}
use Rattle.byte.specs.Words.{announced}
use Rattle.byte.specs.Laid.{laid}
use Rattle.byte.specs.Refusals.{wait, pool_full, out_of_place, too_large, number_of}
use Rattle.number.specs.declared.Literal.{Literal}
use Rattle.number.specs.declared.Scanned.{Scanned}
use Rattle.number.specs.Numbers.{Reading, number_at, scanned}
use Rattle.probe.specs.declared.Probed.{Probed}
use Rattle.probe.specs.Probes.{refusal}

unfoldable pub literal_number : Literal → ℕ
literal_number Literal.Integer = 0
literal_number Literal.Float = 1

unfoldable pub counted : Option Scanned → Probed
counted (Some s) =
    record {
      number = 0;
      stop = literal_number s.literal;
      place = 0;
      detail = 0;
      from = s.after;
      after = s.after;
      len = s.len;
    }
counted None = refusal (number_of wait) 0

unfoldable pub asked_number : List ℕ → ℕ → ℕ → Probed
asked_number src at end =
    if leb (length src) 65536 then
    (if leb at (length src) then counted (scanned (number_at (announced end) at (drop at src))) else refusal (number_of out_of_place) 0)
    else refusal (number_of too_large) 0

unfoldable pub read_refusal : ℕ → Reading → ℕ
read_refusal room (Reading.Number literal value after) = if leb (length value) room then 0 else number_of pool_full
read_refusal room Reading.Wait = number_of wait

unfoldable pub read_written : List ℕ → Reading → List ℕ
read_written part (Reading.Number literal value after) = if leb (length value) (length part) then laid part 0 value else part
read_written part Reading.Wait = part

unfoldable pub number_refusal : List ℕ → ℕ → ℕ → ℕ → ℕ
number_refusal src at end room =
    if leb (length src) 65536 then
    (if leb at (length src) then read_refusal room (number_at (announced end) at (drop at src)) else number_of out_of_place)
    else number_of too_large

unfoldable pub number_written : List ℕ → ℕ → ℕ → List ℕ → List ℕ
number_written src at end part =
    if leb (length src) 65536 then
    (if leb at (length src) then read_written part (number_at (announced end) at (drop at src)) else part)
    else part

pub record NumberValued (src : List ℕ) (at end : ℕ) (part : List ℕ) (r : ℕ) (after : List ℕ) : Type 0 where
  pub answer : r ≡ number_refusal src at end (length part)
  pub holds : after ≡ number_written src at end part
