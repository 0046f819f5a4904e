-- The starred worked sheets of document 01, and q to w of request P1, as one table: the letter, the reading, the text, and what a
-- host finds after the call. Those of request P2, z and A to G, are another.
-- Text after the opening quote or break, positions from its start; a block's label is a range of the text; ample room.
--   Call       the step with this top frame and this reading of Nowdoc frames, or one of the readings
--   Written    a token as a host finds it in list and pool
--   Found      the answer, the session's position, and the tokens
--   found      what a host finds after a call
--   table      the sheets
--   comments   the sheets of comments
-- `sheets_hold` and `comments_hold` (proofs/Sheets.antt) are the statements: every row finds what it says.
use Rattle.std.specs.Prelude.{ℕ, zero, suc, Bool, true, false, List, [], ◌∷◌, ◌≡◌, length, get_or, take, drop, replicate}
use Prim.Native.Char.{Char}
use Prim.Native.String.{String}
use Rattle.byte.specs.Words.{bytes}
use Rattle.source.specs.Cursor.{origin}
use Rattle.byte.specs.declared.Octal.{Octal}
use Rattle.byte.specs.declared.Refusal.{Refusal}
use Rattle.byte.specs.Refusals.{unexpected_end_of_file, invalid_unicode_escape, invalid_octal_escape, invalid_doc_indentation}
use Rattle.byte.specs.Refusals.{stray_indentation, wait}
use Rattle.source.specs.declared.Span.{Span}
use Rattle.state.specs.declared.Answer.{Answer}
use Rattle.state.specs.declared.Frame.{Frame}
use Rattle.state.specs.declared.Reading.{Reading}
use Rattle.state.specs.declared.Choices.{Choices}
use Rattle.state.specs.declared.Session.{Session}
use Rattle.token.specs.Kinds.{inline_html, open_tag_full, open_tag_short, string_part, variable, end_doc_string_none, end_doc_string_space}
use Rattle.token.specs.Kinds.{literal_single_quoted_string, literal_double_quoted_string, literal_integer, comment}
use Rattle.lexer.specs.Turns.{After}
use Rattle.outcome.specs.declared.Call as outcome
use Rattle.lexer.specs.Calls as lexer

pub data Call : Type 0 where
  Step : Frame → Choices → Call
  Number : Call
  Single : Call
  Double : Octal → Call

pub record Written : Type 0 where
  pub kind : ℕ
  pub detail : ℕ
  pub span : Span
  pub value : List ℕ

pub record Found : Type 0 where
  pub answer : Answer Refusal
  pub position : ℕ
  pub tokens : List Written

pub record Sheet : Type 0 where
  pub letter : Char
  pub call : Call
  pub end : Bool
  pub text : String
  pub gives : Found

-- ---- what a host finds

-- nowdoc blocks as the Rust reads them, and as sheets; octal escapes as the Rust
abbrev pub ported : Choices
ported = record { nowdocs = Reading.Ported; octals = Octal.Rust }

abbrev as_sheets : Choices
as_sheets = record { nowdocs = Reading.Sheet; octals = Octal.Rust }

-- a session at the beginning with this frame
unfoldable pub standing : Frame → Choices → Session
standing f choices = record {
  position = 0;
  line = 1;
  column = 1;
  depth = 1;
  tokens = 0;
  bytes = 0;
  frames = replicate 64 (record { frame = f });
  choices = choices;
}

-- room for three tokens and thirty-two value bytes
abbrev answered : outcome.Call → Bool → List ℕ → Session → After
answered call end src s = lexer.called call src end s (replicate 24 0) (replicate 32 0)

unfoldable pub called : Call → Bool → List ℕ → After
called (Step f choices) end src = answered outcome.Call.Step end src (standing f choices)
called Number end src = answered outcome.Call.Number end src (standing Frame.Scripting ported)
called Single end src = answered outcome.Call.Single end src (standing Frame.Scripting ported)
called (Double octals) end src =
    answered outcome.Call.Double end src
    (standing Frame.Scripting (record { nowdocs = Reading.Ported; octals = octals }))

-- the first so many tokens of a list, with their values in the pool
unfoldable pub tokens_in : ℕ → List ℕ → List ℕ → List Written
tokens_in zero list pool = []
tokens_in (suc count) list pool =
    record {
      kind = get_or list 0 0;
      detail = get_or list 1 0;
      span = record { line = get_or list 2 0; column = get_or list 3 0; position = get_or list 4 0 };
      value = take (get_or list 6 0) (drop (get_or list 5 0) pool);
    }
    ∷ tokens_in count (drop 8 list) pool

unfoldable pub found : After → Found
found a = record {
  answer = a.turn.answer;
  position = a.turn.session.position;
  tokens = tokens_in a.turn.session.tokens a.list a.pool;
}

-- ---- the table

abbrev pub at : ℕ → ℕ → ℕ → Span
at line column position = record { line = line; column = column; position = position }

abbrev pub one : ℕ → List ℕ → List Written
one kind value = record { kind = kind; detail = 0; span = origin; value = value } ∷ []

abbrev pub done : ℕ → List Written → Found
done position tokens = record { answer = Answer.Done; position = position; tokens = tokens }

abbrev pub refused : Refusal → Span → Found
refused refusal span = record { answer = Answer.Refused refusal span; position = 0; tokens = [] }

abbrev label : ℕ → ℕ → Frame
label start len = Frame.Nowdoc (record { start = start; len = len })

abbrev pub row : Char → Call → Bool → String → Found → Sheet
row letter call end text gives = record { letter = letter; call = call; end = end; text = text; gives = gives }

-- the text of a block, and the label EOT without indentation
abbrev closed : String → List Written
closed text =
    record { kind = string_part; detail = 0; span = origin; value = bytes text }
    ∷ record { kind = end_doc_string_none; detail = 0; span = origin; value = bytes "EOT" }
    ∷ []

abbrev initial : Call
initial = Step Frame.Initial ported

unfoldable pub table : List Sheet
table =
    row "a" initial true "" (record { answer = Answer.Finished; position = 0; tokens = one inline_html [] })
    ∷ row "b" initial true "a<?PHPx"
    (done 6
    (record { kind = inline_html; detail = 0; span = origin; value = bytes "a" }
    ∷ record { kind = open_tag_full; detail = 0; span = at 1 2 1; value = bytes "<?PHP" }
    ∷ []))
    ∷ row "c" initial false "<?p" (refused wait origin)
    ∷ row "c" initial false "<?px" (done 2 (one open_tag_short (bytes "<?")))
    ∷ row "d" Single true "a\\'b\\n'" (done 7 (one literal_single_quoted_string (bytes "a'b\\n")))
    ∷ row "e" (Double Octal.Rust) true "\\377\"" (done 5 (one literal_double_quoted_string (255 ∷ [])))
    ∷ row "f" (Double Octal.Rust) true "\\400\"" (refused invalid_octal_escape (at 1 5 4))
    ∷ row "g" (Double Octal.Rust) true "\\u{20AC}\"" (done 9 (one literal_double_quoted_string (0xE2 ∷ 0x82 ∷ 0xAC ∷ [])))
    ∷ row "h" (Double Octal.Rust) true "\\u{}\"" (refused invalid_unicode_escape (at 1 4 3))
    ∷ row "h" (Double Octal.Rust) true "\\u{110000}\"" (refused invalid_unicode_escape (at 1 11 10))
    ∷ row "k" Number false "1e" (refused wait origin)
    ∷ row "k" Number false "1e+x" (done 1 (one literal_integer (bytes "1")))
    ∷ row "l" (Step (label 4 3) ported) true "a\n  EOTX"
    (done 7
    (record { kind = string_part; detail = 0; span = origin; value = bytes "a" }
    ∷ record { kind = end_doc_string_space; detail = 2; span = origin; value = bytes "EOT" }
    ∷ []))
    ∷ row "m" (Step (label 4 3) ported) true "a\n \tEOT" (refused invalid_doc_indentation (at 2 3 4))
    ∷ row "n" (Step (Frame.Heredoc (record { start = 3; len = 1 })) ported) true "a\n$x;"
    (done 4
    (record { kind = string_part; detail = 0; span = origin; value = bytes "a" }
    ∷ record { kind = variable; detail = 0; span = origin; value = bytes "$x" }
    ∷ []))
    ∷ row "o" (Step (label 13 3) as_sheets) true "  ab\n   c\n\n  EOT"
    (done 16
    (record { kind = string_part; detail = 0; span = origin; value = bytes "ab\n c\n" }
    ∷ record { kind = end_doc_string_space; detail = 2; span = origin; value = bytes "EOT" }
    ∷ []))
    ∷ row "q" (Step (label 16 3) as_sheets) true "ab\nEOTstrasse\nc\nEOT;" (done 19 (closed "ab\nEOTstrasse\nc"))
    ∷ row "r" (Step (label 11 3) as_sheets) true "EOTstrasse\nEOT" (done 14 (closed "EOTstrasse"))
    ∷ row "s" (Step (label 2 3) as_sheets) true "a\nEOT" (done 5 (closed "a"))
    ∷ row "t" (Step (label 2 3) as_sheets) false "a\nEOT" (refused wait origin)
    ∷ row "t" (Step (label 2 3) as_sheets) false "a\nEOT;" (done 5 (closed "a"))
    ∷ row "t" (Step (label 2 3) as_sheets) false "a\nEOTs" (refused wait origin)
    ∷ row "u" (Step (label 13 3) as_sheets) true "EOTstrasse\n  EOT" (refused stray_indentation origin)
    ∷ row "v" (Step (label 13 3) as_sheets) true " \tEOTstrasse\nEOT" (done 16 (closed " \tEOTstrasse"))
    ∷ row "w" (Step (label 16 3) ported) true "ab\nEOTstrasse\nc\nEOT;" (done 6 (closed "ab"))
    ∷ []

abbrev scripting : Call
scripting = Step Frame.Scripting ported

-- a comment of all these bytes is passed
abbrev passes : String → Found
passes text = done (length (bytes text)) (one comment (bytes text))

unfoldable pub comments : List Sheet
comments =
    row "z" scripting true "#\n" (passes "#")
    ∷ row "z" scripting true "//a\nb" (passes "//a")
    ∷ row "z" scripting true "#a?>" (passes "#a")
    ∷ row "A" scripting true "#[a" (done 1 [])
    ∷ row "B" scripting true "/*" (refused unexpected_end_of_file (at 1 3 2))
    ∷ row "B" scripting true "/*/" (refused unexpected_end_of_file (at 1 4 3))
    ∷ row "B" scripting true "/*/*/" (passes "/*/*/")
    ∷ row "C" scripting true "/*it's\n*/'" (passes "/*it's\n*/")
    ∷ row "D" scripting true "#\r" (passes "#\r")
    ∷ row "D" scripting true "//a\r\n" (passes "//a\r")
    ∷ row "E" scripting false "/" (refused wait origin)
    ∷ row "E" scripting false "#" (refused wait origin)
    ∷ row "E" scripting false "//a" (refused wait origin)
    ∷ row "E" scripting false "//a?" (refused wait origin)
    ∷ row "E" scripting false "/*a*" (refused wait origin)
    ∷ row "F" scripting false "/x" (done 1 [])
    ∷ row "F" scripting false "#[" (done 1 [])
    ∷ row "F" scripting false "//a\n" (passes "//a")
    ∷ row "F" scripting false "#?>" (passes "#")
    ∷ row "F" scripting false "/*?>*/" (passes "/*?>*/")
    ∷ row "G" scripting true "//a" (passes "//a")
    ∷ row "G" scripting true "#" (passes "#")
    ∷ []

abbrev pub Holds : Sheet → Type 0
Holds s = found (called s.call s.end (bytes s.text)) ≡ s.gives

abbrev pub AllHold : List Sheet → Type 0
AllHold [] = Unit {0}
AllHold (s ∷ more) = Holds s × AllHold more
