-- Where a text reading answers otherwise than PHP or its manual, on the smallest inputs: this reading's answer, with the
-- ending `-chosen` its answer under the manual's choice, and with the ending `-manual` what the manual's tables
-- (specs/Manual.antt) say of the same escape. What PHP 8 does stands in the comment.
-- A block's label is E, and its text begins after the line of the opening label. Assumes nothing.
use Rattle.byte.specs.declared.Refusal.{Refusal}
use mathlib.Core.Path.{◌≡◌, refl}
use mathlib.Core.Bool.{true}
use mathlib.Core.List.{[], ◌∷◌}
use Rattle.byte.specs.declared.Octal.{Octal}
use Rattle.byte.specs.Words.{bytes}
use Rattle.byte.specs.Bytes.{is_blank, is_start, is_identifier, is_letter, is_digit}
use Rattle.unit.specs.declared.Follow.{Follow}
use Rattle.unit.specs.declared.Indentation.{Indentation}
use Rattle.unit.specs.declared.Mode.{Mode}
use Rattle.unit.specs.declared.Stop.{Stop}
use Rattle.unit.specs.Digits.{digit_value, is_scalar}
use Rattle.unit.specs.Escapes.{letter_value, overflowing, fitted, digits, code_point, braced, escape}
use Rattle.unit.specs.Interpolations.{follow, variable, name, dollar, find_brace}
use Rattle.unit.specs.Closers.{matched, indented, closer, judged, line}
use Rattle.unit.specs.Units.{unit_at}
use Rattle.unit.specs.Readings.{Text, Refused, onto, taken, after_of, collected, trimmed, loses_break, heredoc_loses_break, finished, text_at}
use Rattle.unit.specs.Manual.{Means, Open, digits_of, all_digits, number, single, octal_of, octal, hexadecimal}
use Rattle.unit.specs.Manual.{code_of, unicode, double_quoted, or_else, said_by}

-- ---- escapes

-- an octal number over 255 is refused under the Rust's choice; the manual's, and PHP's, "silently overflows to fit in
-- a byte": `\400` is a zero byte, as it is under the manual's choice
octal_overflow : text_at (Mode.Double Octal.Rust) [] true 0 (bytes "\\400\"") ≡ Refused Refusal.InvalidOctalEscape 4
unfolding text_at finished collected taken unit_at escape letter_value digits fitted overflowing digit_value bytes
octal_overflow = refl

octal_overflow_chosen : text_at (Mode.Double Octal.Manual) [] true 0 (bytes "\\400\"") ≡ Text (0 ∷ []) Stop.Quote 4 5
unfolding text_at finished loses_break collected taken onto after_of unit_at escape letter_value digits fitted overflowing digit_value bytes
octal_overflow_chosen = refl

octal_overflow_manual : said_by double_quoted (bytes "400\"") ≡ Means (0 ∷ []) 3
unfolding said_by double_quoted or_else single octal octal_of digits_of number digit_value bytes
octal_overflow_manual = refl

-- `\X` is no escape, as the manual's table has `\x` alone; PHP takes it for `\x`: one byte, 4
capital_hex : (octals : Octal)
    → text_at (Mode.Double octals) [] true 0 (bytes "\\X4\"") ≡ Text (bytes "\\X4") Stop.Quote 3 4
unfolding text_at finished loses_break collected taken onto after_of unit_at escape letter_value digit_value bytes
capital_hex octals = refl

capital_hex_manual : said_by double_quoted (bytes "X4\"") ≡ Means (bytes "\\") 0
unfolding said_by double_quoted or_else single octal octal_of digits_of hexadecimal unicode digit_value bytes
capital_hex_manual = refl

-- a surrogate is refused; the manual's form is matched, but it does not say what has no UTF-8; PHP writes ED A0 80
surrogate : (octals : Octal) → text_at (Mode.Double octals) [] true 0 (bytes "\\u{D800}\"") ≡ Refused Refusal.InvalidUnicodeEscape 8
unfolding text_at finished collected taken unit_at escape letter_value braced code_point is_scalar digit_value bytes
surrogate octals = refl

surrogate_manual : said_by double_quoted (bytes "u{D800}\"") ≡ Open
unfolding said_by double_quoted or_else single octal octal_of digits_of hexadecimal unicode code_of all_digits number is_scalar digit_value bytes
surrogate_manual = refl

-- `\"` is a quote in a heredoc too, as the table for double quotes says; PHP keeps its backslash there
heredoc_quote : (octals : Octal)
    → text_at (Mode.Heredoc octals) (bytes "E") true 0 (bytes "\\\"\nE")
    ≡ Text (bytes "\"") (Stop.Label Indentation.None 0) 3 4
unfolding text_at finished loses_break heredoc_loses_break collected taken onto after_of unit_at escape letter_value line judged matched closer is_blank bytes
heredoc_quote octals = refl

heredoc_quote_manual : said_by double_quoted (bytes "\"\nE") ≡ Means (bytes "\"") 1
unfolding said_by double_quoted or_else single bytes
heredoc_quote_manual = refl

-- a backslash before a backtick stands for itself, and the backtick ends the command; in PHP the two are a backtick within it
escaped_backtick : text_at Mode.ShellExec [] true 0 (bytes "\\`") ≡ Text (bytes "\\") Stop.Quote 1 2
unfolding text_at finished loses_break collected taken onto after_of unit_at bytes
escaped_backtick = refl

-- a backtick command has no escapes at all; PHP reads `\n` as LF there, and `\$` as a dollar sign
command_letter : text_at Mode.ShellExec [] true 0 (bytes "\\n`") ≡ Text (bytes "\\n") Stop.Quote 2 3
unfolding text_at finished loses_break collected taken onto after_of unit_at bytes
command_letter = refl

command_dollar : text_at Mode.ShellExec [] true 0 (bytes "\\$a") ≡ Text (bytes "\\") (Stop.Variable Follow.Other) 1 3
unfolding text_at finished loses_break collected taken onto after_of unit_at dollar name variable follow is_start is_identifier is_letter is_digit bytes
command_dollar = refl

-- a backslash before a brace stands for itself, and the brace begins an interpolation; in PHP the two are text
escaped_brace : (octals : Octal)
    → text_at (Mode.Double octals) [] true 0 (bytes "\\{$\"") ≡ Text (bytes "\\") Stop.Interpolation 1 1
unfolding text_at finished loses_break collected taken onto after_of unit_at escape letter_value digit_value find_brace bytes
escaped_brace octals = refl

-- `\u{` is always an escape, and with no digit refusal 2; to the manual, and in PHP, `\u` is text and then `{$` begins a variable
unicode_interpolation : (octals : Octal) → text_at (Mode.Double octals) [] true 0 (bytes "\\u{$a}\"") ≡ Refused Refusal.InvalidUnicodeEscape 3
unfolding text_at finished collected taken unit_at escape letter_value braced code_point digit_value bytes
unicode_interpolation octals = refl

unicode_interpolation_manual : said_by double_quoted (bytes "u{$a}\"") ≡ Means (bytes "\\") 0
unfolding said_by double_quoted or_else single octal octal_of digits_of hexadecimal unicode code_of all_digits digit_value bytes
unicode_interpolation_manual = refl

-- so is `\u{` without a digit or without a brace right after its digits; to the manual it is text, and in PHP it is an error
unmatched_unicode : (octals : Octal)
    → (text_at (Mode.Double octals) [] true 0 (bytes "\\u{\"") ≡ Refused Refusal.InvalidUnicodeEscape 3)
    × (text_at (Mode.Double octals) [] true 0 (bytes "\\u{}\"") ≡ Refused Refusal.InvalidUnicodeEscape 3)
    × (text_at (Mode.Double octals) [] true 0 (bytes "\\u{z\"") ≡ Refused Refusal.InvalidUnicodeEscape 3)
    × (text_at (Mode.Double octals) [] true 0 (bytes "\\u{41\"") ≡ Refused Refusal.InvalidUnicodeEscape 5)
unfolding text_at finished collected taken unit_at escape letter_value braced code_point digit_value bytes
unmatched_unicode octals = (refl, refl, refl, refl)

unmatched_unicode_manual :
    (said_by double_quoted (bytes "u{\"") ≡ Means (bytes "\\") 0)
    × (said_by double_quoted (bytes "u{}\"") ≡ Means (bytes "\\") 0)
    × (said_by double_quoted (bytes "u{z\"") ≡ Means (bytes "\\") 0)
    × (said_by double_quoted (bytes "u{41\"") ≡ Means (bytes "\\") 0)
unfolding said_by double_quoted or_else single octal octal_of digits_of hexadecimal unicode code_of all_digits digit_value bytes
unmatched_unicode_manual = (refl, refl, refl, refl)

-- ---- breaks

-- a heredoc's break before an interpolation is lost; PHP keeps it
lost_break : (octals : Octal)
    → text_at (Mode.Heredoc octals) (bytes "E") true 0 (bytes "\n$a") ≡ Text [] (Stop.Variable Follow.Other) 1 3
unfolding text_at finished loses_break heredoc_loses_break trimmed collected taken onto after_of unit_at line judged matched is_blank dollar name variable follow is_start is_identifier is_letter is_digit bytes
lost_break octals = refl

-- so is one that an escape writes; the manual's table says that it is a break, and PHP keeps it
lost_escaped_break : (octals : Octal)
    → text_at (Mode.Heredoc octals) (bytes "E") true 0 (bytes "\\n$a") ≡ Text [] (Stop.Variable Follow.Other) 2 4
unfolding text_at finished loses_break heredoc_loses_break trimmed collected taken onto after_of unit_at escape letter_value dollar name variable follow is_start is_identifier is_letter is_digit bytes
lost_escaped_break octals = refl

lost_escaped_break_manual : said_by double_quoted (bytes "n$a") ≡ Means (bytes "\n") 1
unfolding said_by double_quoted or_else single bytes
lost_escaped_break_manual = refl

-- of CR and LF before a closing label only the LF is not of the text; in PHP neither is
kept_return : (octals : Octal)
    → text_at (Mode.Heredoc octals) (bytes "E") true 0 (bytes "\r\nE")
    ≡ Text (bytes "\r") (Stop.Label Indentation.None 0) 2 3
unfolding text_at finished loses_break heredoc_loses_break collected taken onto after_of unit_at line judged matched closer is_blank bytes
kept_return octals = refl

-- ---- closing labels

-- a label closes whatever follows it; in PHP not where an identifier goes on, and EX is text
label_and_letters : (octals : Octal)
    → text_at (Mode.Heredoc octals) (bytes "E") true 0 (bytes "\nEX") ≡ Text [] (Stop.Label Indentation.None 0) 1 2
unfolding text_at finished loses_break heredoc_loses_break collected taken unit_at line judged matched closer is_blank bytes
label_and_letters octals = refl

-- a label on the first line is text, and this block is not closed; in PHP it closes an empty block
first_line_label : (octals : Octal) → text_at (Mode.Heredoc octals) (bytes "E") true 0 (bytes "E;") ≡ Refused Refusal.UnexpectedEndOfFile 2
unfolding text_at finished collected taken onto after_of unit_at bytes
first_line_label octals = refl

-- a closing label's indentation stays in the text; in PHP it is taken off, and a line with less is an error
indentation_stays_in : text_at Mode.Nowdoc (bytes "E") true 0 (bytes " \n E") ≡ Text (bytes " ") (Stop.Label Indentation.Space 1) 3 4
unfolding text_at finished loses_break collected taken onto after_of unit_at line judged matched indented closer is_blank bytes
indentation_stays_in = refl

-- a lone CR is a byte of the text, and this block is not closed; in PHP it is a break
lone_return : text_at Mode.Nowdoc (bytes "E") true 0 (bytes "\rE;") ≡ Refused Refusal.UnexpectedEndOfFile 3
unfolding text_at finished collected taken onto after_of unit_at bytes
lone_return = refl

-- a label at the very end closes; PHP wants one more byte
label_at_the_end : text_at Mode.Nowdoc (bytes "E") true 0 (bytes "\nE") ≡ Text [] (Stop.Label Indentation.None 0) 1 2
unfolding text_at finished loses_break collected taken unit_at line judged matched closer is_blank bytes
label_at_the_end = refl
