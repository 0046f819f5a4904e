-- The worked cases of request P5 hold: each row finds what it says, by computing the definitions. Assumes nothing.
use mathlib.Core.Path.{refl}
use Rattle.byte.specs.Words.{bytes, every, run}
use Rattle.byte.specs.Bytes.{is_digit, is_letter, is_start, is_identifier, is_blank}
use Rattle.source.specs.Cursor.{passed_byte, passed}
use Rattle.byte.specs.Laid.{laid}
use Rattle.state.specs.Bounds.{is_label, is_frame, is_bottom, is_stack, is_within, is_good, fits_tables, is_scripting}
use Rattle.state.specs.Gates.{source_fits, tables_fit, gate_refusal, lent_refusal}
use Rattle.token.specs.Records.{room_refusal}
use Rattle.unit.specs.Digits.{digit_value}
use Rattle.unit.specs.Escapes.{letter_value, overflowing, fitted, digits, escape}
use Rattle.unit.specs.Interpolations as interpolations
use Rattle.unit.specs.Closers.{matched, indented, closer, judged, line}
use Rattle.unit.specs.Units.{unit_at}
use Rattle.unit.specs.Readings.{onto, taken, after_of, collected, trimmed, loses_break, heredoc_loses_break, finished, text_at}
use Rattle.outcome.specs.Outcomes.{unless_empty, values, limited}
use Rattle.outcome.specs.Texts.{slice, doc_kind, quote_kind, stop_kind, stop_detail, variable_change, stop_change, texted}
use Rattle.outcome.specs.Texts.{is_left, literal}
use Rattle.outcome.specs.Scripts.{scripting}
use Rattle.outcome.specs.Steps.{text_mode, framed, call_at, call_outcome}
use Rattle.commit.specs.Records.{put, reached}
use Rattle.lexer.specs.Turns.{frames_after, depth_after}
use Rattle.lexer.specs.Calls as lexer
use Rattle.worked.specs.Sheets.{standing, called, tokens_in, found, AllHold}
use Rattle.worked.specs.Octals.{octals}

pub octals_hold : AllHold octals
unfolding bytes every run is_digit is_letter is_start is_identifier is_blank passed_byte passed laid is_label is_frame is_bottom
    is_stack is_within is_good fits_tables source_fits tables_fit gate_refusal lent_refusal room_refusal unless_empty values limited
    slice doc_kind quote_kind stop_kind stop_detail variable_change stop_change texted is_left literal scripting text_mode framed
    call_at call_outcome put frames_after depth_after reached is_scripting lexer.called standing called tokens_in found octals
    digit_value letter_value overflowing fitted digits escape interpolations.follow interpolations.variable
    interpolations.name interpolations.dollar interpolations.find_dollar interpolations.brace interpolations.find_brace
    matched indented closer judged line unit_at onto taken after_of collected trimmed loses_break heredoc_loses_break finished
    text_at
octals_hold =
    (refl, (refl, (refl, (refl, (refl, (refl, (refl, (refl, (refl, (refl, (refl, (refl, (refl, (refl, (refl, (refl, (refl, (refl, (refl, (refl, tt))))))))))))))))))))
