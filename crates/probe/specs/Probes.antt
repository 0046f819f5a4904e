-- The readings one at a time, as a host in C or Rust asks for them: by numbers alone.
--   mode_of                  the mode of a number, 0 to 8; from 6 on, octal escapes are read as the manual has them
--   announced                whether the end is announced
--   asked                    the reading asked for; what can't be taken is refused by its number: 11 for a source over
--                            65,536 bytes, 10 for a mode over 8, a position past the end or a label over 64 bytes
--   stop_number, amount_of   what ended a text, and the amount of a label's indentation
--   numbered                 a reading without its bytes, in seven numbers
--   value_refusal, written   a value for a part with so much room: why it is not written, and what the part holds then
--   Valued                   both
use Rattle.std.specs.Prelude.{ℕ, List, ◌≡◌, leb, eqb, length, drop, if◌then◌else◌}
use Rattle.byte.specs.Words.{announced}
use Rattle.byte.specs.Laid.{laid}
use Rattle.byte.specs.declared.Octal.{Octal}
use Rattle.byte.specs.Refusals.{wait, pool_full, out_of_place, too_large, number_of}
use Rattle.unit.specs.declared.Follow.{Follow}
use Rattle.unit.specs.declared.Indentation.{Indentation}
use Rattle.unit.specs.declared.Mode.{Mode}
use Rattle.unit.specs.declared.Stop.{Stop}
use Rattle.unit.specs.Readings.{Reading, Text, Refused, Wait, text_at}
use Rattle.text.specs.declared.Scanned.{Scanned}
use Rattle.probe.specs.declared.Probed.{Probed}

unfoldable pub mode_of : ℕ → Mode
mode_of n =
    if eqb n 0 then Mode.Single
    else if eqb n 1 then Mode.Double Octal.Rust
    else if eqb n 2 then Mode.DoubleQuote Octal.Rust
    else if eqb n 3 then Mode.ShellExec
    else if eqb n 4 then Mode.Heredoc Octal.Rust
    else if eqb n 6 then Mode.Double Octal.Manual
    else if eqb n 7 then Mode.DoubleQuote Octal.Manual
    else if eqb n 8 then Mode.Heredoc Octal.Manual
    else Mode.Nowdoc

unfoldable pub asked : ℕ → List ℕ → List ℕ → ℕ → ℕ → Reading
asked mode src label at end =
    if leb (length src) 65536 then
    (if leb mode 8 then
    (if leb at (length src) then
    (if leb (length label) 64 then text_at (mode_of mode) label (announced end) at (drop at src) else Refused out_of_place 0)
    else Refused out_of_place 0)
    else Refused out_of_place 0)
    else Refused too_large 0

unfoldable pub stop_number : Stop → ℕ
stop_number Stop.Quote = 0
stop_number Stop.Interpolation = 1
stop_number Stop.DollarLeftBrace = 2
stop_number Stop.LeftBrace = 3
stop_number (Stop.Variable Follow.Other) = 4
stop_number (Stop.Variable Follow.Offset) = 5
stop_number (Stop.Variable Follow.Property) = 6
stop_number (Stop.Label Indentation.None amount) = 7
stop_number (Stop.Label Indentation.Space amount) = 8
stop_number (Stop.Label Indentation.Tab amount) = 9
stop_number (Stop.Label Indentation.Mixed amount) = 10

unfoldable pub amount_of : Stop → ℕ
amount_of Stop.Quote = 0
amount_of Stop.Interpolation = 0
amount_of Stop.DollarLeftBrace = 0
amount_of Stop.LeftBrace = 0
amount_of (Stop.Variable follow) = 0
amount_of (Stop.Label indentation amount) = amount

-- no text: a refusal or wait, by its number, and where
abbrev pub refusal : ℕ → ℕ → Probed
refusal number place = record { number = number; stop = 0; place = place; detail = 0; from = 0; after = 0; len = 0 }

unfoldable pub numbered : Scanned → Probed
numbered (Scanned.Text len stop from after) =
    record { number = 0; stop = stop_number stop; place = 0; detail = amount_of stop; from = from; after = after; len = len }
numbered (Scanned.Refused why place) = refusal (number_of why) place
numbered Scanned.Wait = refusal (number_of wait) 0

unfoldable pub value_refusal : ℕ → Reading → ℕ
value_refusal room (Text value stop from after) = if leb (length value) room then 0 else number_of pool_full
value_refusal room (Refused refusal place) = number_of refusal
value_refusal room Wait = number_of wait

unfoldable pub written : List ℕ → Reading → List ℕ
written part (Text value stop from after) = if leb (length value) (length part) then laid part 0 value else part
written part (Refused refusal place) = part
written part Wait = part

pub record Valued (part : List ℕ) (reading : Reading) (r : ℕ) (after : List ℕ) : Type 0 where
  pub answer : r ≡ value_refusal (length part) reading
  pub holds : after ≡ written part reading
