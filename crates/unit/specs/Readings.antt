-- A text reading: the units from the cursor on, up to the first that is no text (document 01, "Quoted strings", "Modes", "Text blocks").
--   Reading         the value, what ended it, and from where to where that stands; or a refusal and its place; or wait
--   collected       the text as it is read, before its last break is looked at
--   trimmed         without one LF at the end
--   text_at         what contracts cite: before an interpolation a heredoc's text loses one LF, also one from an escape
--   gap, text_end   the bytes between a text and what ends it; where the text ends
use Rattle.std.specs.Prelude.{ℕ, zero, suc, ◌-◌, Bool, true, false, List, [], ◌∷◌, ◌++◌, ◌≡◌, refl, if◌then◌else◌}
use Rattle.byte.specs.declared.Refusal.{Refusal}
use Rattle.byte.specs.declared.Octal.{Octal}
use Rattle.byte.specs.Refusals.{unexpected_end_of_file}
use Rattle.byte.specs.Words.{◌is◌, bytes}
use Rattle.byte.specs.Bytes.{is_blank, is_start, is_identifier, is_letter, is_digit}
use Rattle.unit.specs.declared.Follow.{Follow}
use Rattle.unit.specs.declared.Indentation.{Indentation}
use Rattle.unit.specs.declared.Mode.{Mode}
use Rattle.unit.specs.declared.Stop.{Stop}
use Rattle.unit.specs.declared.TextUnit.{TextUnit}
use Rattle.unit.specs.Digits.{digit_value, is_scalar, utf8}
use Rattle.unit.specs.Escapes.{letter_value, overflowing, fitted, digits, braced, code_point, escape, quote_escape}
use Rattle.unit.specs.Interpolations.{follow, variable, name, dollar}
use Rattle.unit.specs.Closers.{matched, indented, closer, judged, line}
use Rattle.unit.specs.Units.{unit_at}

pub data Reading : Type 0 where
  Text : List ℕ → Stop → ℕ → ℕ → Reading
  Refused : Refusal → ℕ → Reading
  Wait : Reading

-- these bytes before the text of what is read after them
unfoldable pub onto : List ℕ → Reading → Reading
onto vs (Text text stop from after) = Text (vs ++ text) stop from after
onto vs (Refused refusal place) = Refused refusal place
onto vs Wait = Wait

-- a unit, then what is read after it
unfoldable pub taken : TextUnit → Reading → Reading
taken (TextUnit.Byte value after) later = onto (value ∷ []) later
taken (TextUnit.Point code after) later = onto (utf8 code) later
taken (TextUnit.Ends stop from after) later = Text [] stop from after
taken (TextUnit.Fault refusal place) later = Refused refusal place
taken TextUnit.Undecided later = Wait

-- the place after a unit that is text
unfoldable pub after_of : TextUnit → ℕ
after_of (TextUnit.Byte value after) = after
after_of (TextUnit.Point code after) = after
after_of (TextUnit.Ends stop from after) = 0
after_of (TextUnit.Fault refusal place) = 0
after_of TextUnit.Undecided = 0

-- from n on, where `skip` bytes of the last unit are still to be passed; a text that is not closed is refusal 1, at the source's end
unfoldable pub collected : Mode → List ℕ → Bool → ℕ → ℕ → List ℕ → Reading
collected m label end skip n [] = if end then Refused unexpected_end_of_file n else Wait
collected m label end (suc k) n (b ∷ rest) = collected m label end k (suc n) rest
collected m label end zero n (b ∷ rest) =
    taken (unit_at m label end n b rest)
    (collected m label end (after_of (unit_at m label end n b rest) - suc n) (suc n) rest)

unfoldable pub trimmed : List ℕ → List ℕ
trimmed [] = []
trimmed (b ∷ []) = if b is "\n" then [] else b ∷ []
trimmed (b ∷ c ∷ rest) = b ∷ trimmed (c ∷ rest)

-- whether a heredoc's text before this stop loses its last break: before all but its label
unfoldable pub heredoc_loses_break : Stop → Bool
heredoc_loses_break (Stop.Label ind amount) = false
heredoc_loses_break Stop.Quote = true
heredoc_loses_break Stop.Interpolation = true
heredoc_loses_break Stop.DollarLeftBrace = true
heredoc_loses_break Stop.LeftBrace = true
heredoc_loses_break (Stop.Variable f) = true

-- no other text does
unfoldable pub loses_break : Mode → Stop → Bool
loses_break (Mode.Heredoc octals) stop = heredoc_loses_break stop
loses_break Mode.Single stop = false
loses_break (Mode.Double octals) stop = false
loses_break (Mode.DoubleQuote octals) stop = false
loses_break Mode.ShellExec stop = false
loses_break Mode.Nowdoc stop = false

unfoldable pub finished : Mode → Reading → Reading
finished m (Text text stop from after) = Text (if loses_break m stop then trimmed text else text) stop from after
finished m (Refused refusal place) = Refused refusal place
finished m Wait = Wait

-- the reading from the cursor n on
unfoldable pub text_at : Mode → List ℕ → Bool → ℕ → List ℕ → Reading
text_at m label end n xs = finished m (collected m label end 0 n xs)

-- a closing line's break and its blanks; nothing stands before any other stop
unfoldable pub gap : Stop → ℕ
gap (Stop.Label ind amount) = suc amount
gap Stop.Quote = 0
gap Stop.Interpolation = 0
gap Stop.DollarLeftBrace = 0
gap Stop.LeftBrace = 0
gap (Stop.Variable f) = 0

-- where the text before a stop ends, by the stop's place
unfoldable pub text_end : Stop → ℕ → ℕ
text_end stop from = from - gap stop

-- worked sheets d to h, l, m and n; f, which hangs on the choice, stands after the others
sheet_d : text_at Mode.Single [] true 0 (bytes "a\\'b\\n'") ≡ Text (bytes "a'b\\n") Stop.Quote 6 7
unfolding text_at finished loses_break collected taken onto after_of unit_at quote_escape bytes
sheet_d = refl

sheets_e_g_h : (octals : Octal) →
    (text_at (Mode.Double octals) [] true 0 (bytes "\\377\"") ≡ Text (255 ∷ []) Stop.Quote 4 5)
    × (text_at (Mode.Double octals) [] true 0 (bytes "\\u{20AC}\"") ≡ Text (0xE2 ∷ 0x82 ∷ 0xAC ∷ []) Stop.Quote 8 9)
    × (text_at (Mode.Double octals) [] true 0 (bytes "\\u{}\"") ≡ Refused Refusal.InvalidUnicodeEscape 3)
    × (text_at (Mode.Double octals) [] true 0 (bytes "\\u{110000}\"") ≡ Refused Refusal.InvalidUnicodeEscape 10)
unfolding text_at finished loses_break collected taken onto after_of unit_at escape letter_value digits fitted braced code_point is_scalar digit_value utf8 bytes
sheets_e_g_h octals = (refl, refl, refl, refl)

-- sheet f, and the same legend as the manual has it (document 02, P5). The byte begins nothing: `\442` closes no
-- string, `\444` begins no variable; in a heredoc an LF from `\412` is lost before a variable, as one from `\n` is
sheet_f :
    (text_at (Mode.Double Octal.Rust) [] true 0 (bytes "\\400\"") ≡ Refused Refusal.InvalidOctalEscape 4)
    × (text_at (Mode.Double Octal.Manual) [] true 0 (bytes "\\400\"") ≡ Text (0 ∷ []) Stop.Quote 4 5)
    × (text_at (Mode.Double Octal.Manual) [] true 0 (bytes "\\777\"") ≡ Text (255 ∷ []) Stop.Quote 4 5)
    × (text_at (Mode.Double Octal.Manual) [] true 0 (bytes "\\442\"") ≡ Text (bytes "\"") Stop.Quote 4 5)
    × (text_at (Mode.Double Octal.Manual) [] true 0 (bytes "\\444a\"") ≡ Text (bytes "$a") Stop.Quote 5 6)
    × (text_at (Mode.Heredoc Octal.Manual) (bytes "x") true 0 (bytes "a\\412$x;")
    ≡ Text (bytes "a") (Stop.Variable Follow.Other) 5 7)
    × (text_at (Mode.Double Octal.Rust) [] false 0 (bytes "\\400") ≡ Refused Refusal.InvalidOctalEscape 4)
    × (text_at (Mode.Double Octal.Manual) [] false 0 (bytes "\\400") ≡ Wait)
unfolding text_at finished loses_break heredoc_loses_break trimmed collected taken onto after_of unit_at escape letter_value digits fitted overflowing digit_value dollar name variable follow is_start is_identifier is_letter is_digit bytes
sheet_f = (refl, refl, refl, refl, refl, refl, refl, refl)

sheet_l : text_at Mode.Nowdoc (bytes "EOT") true 0 (bytes "a\n  EOTX") ≡ Text (bytes "a") (Stop.Label Indentation.Space 2) 4 7
unfolding text_at finished loses_break collected taken onto after_of unit_at line judged matched indented closer is_blank bytes
sheet_l = refl

sheet_m : text_at Mode.Nowdoc (bytes "EOT") true 0 (bytes "a\n \tEOT") ≡ Refused Refusal.InvalidDocIndentation 4
unfolding text_at finished collected taken onto after_of unit_at line judged matched indented closer is_blank bytes
sheet_m = refl

sheet_n : (octals : Octal)
    → text_at (Mode.Heredoc octals) (bytes "x") true 0 (bytes "a\n$x;")
    ≡ Text (bytes "a") (Stop.Variable Follow.Other) 2 4
unfolding text_at finished loses_break heredoc_loses_break trimmed collected taken onto after_of unit_at line judged matched is_blank dollar name variable follow is_start is_identifier is_letter is_digit bytes
sheet_n octals = refl
