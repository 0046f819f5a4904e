-- The worked cases of request P4 hold: each row finds the ends that it says, by computing the definitions. Assumes
-- nothing.
use mathlib.Core.Path.{refl}
use Rattle.byte.specs.Words.{bytes, every, run}
use Rattle.byte.specs.Bytes.{is_digit, is_letter, is_start, is_identifier, is_blank}
use Rattle.source.specs.Cursor.{passed_byte, passed}
use Rattle.byte.specs.Laid.{laid}
use Rattle.state.specs.Bounds.{is_label, is_frame, is_bottom, is_stack, is_within, is_good, fits_tables, is_scripting}
use Rattle.state.specs.Gates.{source_fits, tables_fit, gate_refusal, lent_refusal}
use Rattle.token.specs.Records.{room_refusal}
use Rattle.unit.specs.Digits.{digit_value}
use Rattle.unit.specs.Escapes.{letter_value, fitted, digits, escape, quote_escape}
use Rattle.unit.specs.Interpolations as interpolations
use Rattle.unit.specs.Closers.{indented}
use Rattle.unit.specs.Units.{unit_at}
use Rattle.unit.specs.Readings.{onto, taken, after_of, collected, loses_break, finished, text_at}
use Rattle.number.specs.Numbers as number
use Rattle.sheet.specs.Bodies as bodies
use Rattle.sheet.specs.Sheets.{closing_label, judged_line, line_kind, with_line, told}
use Rattle.sheet.specs.Sheets.{block, filled, stripped, answered, sheet_at}
use Rattle.outcome.specs.Outcomes.{unless_empty, values, limited}
use Rattle.outcome.specs.Initials.{lower, full_tag, open_tag, tag, or_later, tagged, tag_kind, tag_length, inlined, initial}
use Rattle.outcome.specs.Texts.{slice, doc_kind, quote_kind, stop_kind, stop_detail, variable_change, stop_change, texted}
use Rattle.outcome.specs.Texts.{is_left, literal, number_kind, numbered}
use Rattle.outcome.specs.Lookings.{named}
use Rattle.outcome.specs.Comments.{is_next, ends, end_taken, comment_end, endless, commented, slash, hash}
use Rattle.outcome.specs.Scripts.{point, word, close_tag, scripting}
use Rattle.outcome.specs.Steps.{text_mode, nowdoc, framed, call_at, call_outcome}
use Rattle.commit.specs.Records.{put, reached}
use Rattle.lexer.specs.Turns.{frames_after, depth_after}
use Rattle.lexer.specs.Calls as lexer
use Rattle.worked.specs.Sheets.{standing, called}
use Rattle.worked.specs.Ends.{edges_in, edges, cases, AllHold}

pub ends_hold : AllHold cases
unfolding bytes every run is_digit is_letter is_start is_identifier is_blank passed_byte passed laid is_label is_frame
    is_bottom is_stack is_within is_good fits_tables source_fits tables_fit gate_refusal lent_refusal room_refusal unless_empty
    values limited lower full_tag open_tag tag or_later tagged tag_kind tag_length inlined initial slice doc_kind quote_kind
    stop_kind stop_detail variable_change stop_change texted is_left literal number_kind numbered named point word close_tag
    is_next ends end_taken comment_end endless commented slash hash scripting text_mode nowdoc framed call_at call_outcome
    put frames_after depth_after reached is_scripting lexer.called standing called edges_in edges cases digit_value
    letter_value fitted digits escape quote_escape interpolations.follow interpolations.variable interpolations.name
    interpolations.dollar interpolations.find_dollar interpolations.find_brace indented unit_at onto taken after_of
    collected loses_break finished text_at number.is_one number.base_named number.base_of number.is_exponent number.is_sign
    number.before number.last number.digits_more number.digits number.signed number.onto number.closing number.followed
    number.power number.exponent number.fraction number.digit_ahead number.power_ahead number.decided number.marked
    number.tail number.decimal number.prefixed number.number_in number.number_at bodies.in_front bodies.lines
    bodies.is_break bodies.is_over bodies.unindented bodies.followed bodies.body_text bodies.unbroken closing_label
    judged_line line_kind with_line told block filled stripped answered sheet_at
ends_hold = (
  refl,
  (
    refl,
    (
      refl,
      (
        refl,
        (
          refl,
          (
            refl,
            (
              refl,
              (
                refl,
                (
                  refl,
                  (refl, (refl, (refl, (refl, (refl, (refl, (refl, (refl, (refl, (refl, (refl, tt))))))))))),
                ),
              ),
            ),
          ),
        ),
      ),
    ),
  ),
)
