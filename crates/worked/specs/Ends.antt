-- Worked cases of request P4: where the step ended. A row tells the call, whether the end is announced, and the text;
-- then for each record that is written its end, and the text's bytes from its position up to there.
--   Edge    a record's end, and those bytes
--   Case    a row
--   edges   what a host finds after a call
--   cases   the table
-- `ends_hold` (proofs/Ends.antt) is the statement: every row finds what it says.
use Rattle.std.specs.Prelude.{ℕ, zero, suc, ◌-◌, Bool, true, false, List, [], ◌∷◌, ◌≡◌, get_or, take, drop}
use Prim.Native.String.{String}
use Rattle.byte.specs.declared.Octal.{Octal}
use Rattle.byte.specs.Words.{bytes}
use Rattle.state.specs.declared.Frame.{Frame}
use Rattle.state.specs.declared.Reading.{Reading}
use Rattle.state.specs.declared.Choices.{Choices}
use Rattle.lexer.specs.Turns.{After}
use Rattle.worked.specs.Sheets.{Call, Step, Number, Single, Double, called}

pub record Edge : Type 0 where
  pub end : ℕ
  pub text : List ℕ

pub record Case : Type 0 where
  pub call : Call
  pub end : Bool
  pub text : String
  pub gives : List Edge

-- of the first so many records of a list
unfoldable pub edges_in : ℕ → List ℕ → List ℕ → List Edge
edges_in zero src list = []
edges_in (suc count) src list =
    record { end = get_or list 7 0; text = take (get_or list 7 0 - get_or list 4 0) (drop (get_or list 4 0) src) }
    ∷ edges_in count src (drop 8 list)

unfoldable pub edges : List ℕ → After → List Edge
edges src a = edges_in a.turn.session.tokens src a.list

-- ---- the table

abbrev ported : Choices
ported = record { nowdocs = Reading.Ported; octals = Octal.Rust }

abbrev step : Frame → Call
step f = Step f ported

abbrev sheet : ℕ → ℕ → Call
sheet start len =
    Step (Frame.Nowdoc (record { start = start; len = len })) (record { nowdocs = Reading.Sheet; octals = Octal.Rust })

abbrev scripting : Call
scripting = step Frame.Scripting

abbrev to : ℕ → String → Edge
to end text = record { end = end; text = bytes text }

abbrev case : Call → Bool → String → List Edge → Case
case call end text gives = record { call = call; end = end; text = text; gives = gives }

unfoldable pub cases : List Case
cases =
    -- literals and comments: as written
    case scripting true "'a' 12" (to 3 "'a'" ∷ [])
    ∷ case scripting true "'it\\'s';" (to 7 "'it\\'s'" ∷ [])
    ∷ case scripting true "\"a\\\"\";" (to 5 "\"a\\\"\"" ∷ [])
    ∷ case scripting true "12;" (to 2 "12" ∷ [])
    ∷ case scripting true "1_0.5E3 " (to 7 "1_0.5E3" ∷ [])
    ∷ case scripting true "//a\nb" (to 3 "//a" ∷ [])
    ∷ case scripting false "/*a*/b" (to 5 "/*a*/" ∷ [])
    -- two records of one step bear its end, not their own
    ∷ case (step Frame.Initial) true "hi<?php x" (to 7 "hi<?php" ∷ to 7 "<?php" ∷ [])
    ∷ case (step Frame.DoubleQuote) true "ab$c\"" (to 4 "ab$c" ∷ to 4 "ab$c" ∷ [])
    ∷ case (sheet 7 3) true "  ab\n  EOT;" (to 10 "  ab\n  EOT" ∷ to 10 "  ab\n  EOT" ∷ [])
    -- a part before an interpolation
    ∷ case scripting true "\"a$b\"" (to 2 "\"a" ∷ [])
    -- the readings begin after the opening quote
    ∷ case Single true "a';" (to 2 "a'" ∷ [])
    ∷ case (Double Octal.Rust) true "\\101\"" (to 5 "\\101\"" ∷ [])
    ∷ case Number false "1e+x" (to 1 "1" ∷ [])
    -- length 0 and end 0: an empty script, no number, nothing before an interpolation
    ∷ case (step Frame.Initial) true "" (to 0 "" ∷ [])
    ∷ case Number true "x" (to 0 "" ∷ [])
    ∷ case (Double Octal.Rust) true "$a\"" (to 0 "" ∷ [])
    -- nothing is written: passed, refused, to be continued
    ∷ case scripting true "echo 1;" []
    ∷ case scripting true "'a" []
    ∷ case scripting false "12" []
    ∷ []

abbrev pub Holds : Case → Type 0
Holds c = edges (bytes c.text) (called c.call c.end (bytes c.text)) ≡ c.gives

abbrev pub AllHold : List Case → Type 0
AllHold [] = Unit {0}
AllHold (c ∷ more) = Holds c × AllHold more
