-- What a reading of a text or a number comes to in a step (document 01, "Rules easily misread", "Token list").
--   slice                                 the bytes of xs, which starts at n, from one place up to another
--   doc_kind                              the kind of an EndDocString by its indentation
--   stop_kind, stop_detail, stop_change   what ends a text in a mode: the token's kind and detail, and the change of
--                                         frame
--   texted                                a mode's text: its part, if it is not empty, and the token after it; both
--                                         bear the span where the call began
--   literal                               a quoted string: closed, it is one token; before an interpolation its part,
--                                         empty or not
--   text_read   either of them, by its mode
--   numbered    a number
use Rattle.std.specs.Prelude.{ℕ, ◌-◌, Bool, true, false, List, [], ◌∷◌, ◌++◌, take, drop, if◌then◌else◌}
use Rattle.state.specs.declared.Frame.{Frame}
use Rattle.token.specs.Kinds.{string_part, dollar_left_brace, left_brace, double_quote, backtick, variable}
use Rattle.token.specs.Kinds.{end_doc_string_none, end_doc_string_space, end_doc_string_tab, literal_integer, literal_float}
use Rattle.token.specs.Kinds.{literal_single_quoted_string, literal_double_quoted_string}
use Rattle.unit.specs.declared.Follow.{Follow}
use Rattle.unit.specs.declared.Indentation.{Indentation}
use Rattle.unit.specs.declared.Mode.{Mode}
use Rattle.unit.specs.declared.Stop.{Stop}
use Rattle.unit.specs.Readings as unit
use Rattle.number.specs.declared.Literal.{Literal}
use Rattle.number.specs.Numbers as number
use Rattle.outcome.specs.declared.Change.{Change}
use Rattle.outcome.specs.Outcomes.{Outcome, piece, unless_empty}

unfoldable pub slice : ℕ → List ℕ → ℕ → ℕ → List ℕ
slice n xs from after = take (after - from) (drop (from - n) xs)

-- a closer's indentation is never mixed
unfoldable pub doc_kind : Indentation → ℕ
doc_kind Indentation.None = end_doc_string_none
doc_kind Indentation.Space = end_doc_string_space
doc_kind Indentation.Tab = end_doc_string_tab
doc_kind Indentation.Mixed = end_doc_string_none

unfoldable pub quote_kind : Mode → ℕ
quote_kind Mode.ShellExec = backtick
quote_kind Mode.Single = double_quote
quote_kind (Mode.Double octals) = double_quote
quote_kind (Mode.DoubleQuote octals) = double_quote
quote_kind (Mode.Heredoc octals) = double_quote
quote_kind Mode.Nowdoc = double_quote

-- an interpolation that is left is a literal's alone; no mode has it
unfoldable pub stop_kind : Mode → Stop → ℕ
stop_kind m Stop.Quote = quote_kind m
stop_kind m Stop.Interpolation = string_part
stop_kind m Stop.DollarLeftBrace = dollar_left_brace
stop_kind m Stop.LeftBrace = left_brace
stop_kind m (Stop.Variable f) = variable
stop_kind m (Stop.Label ind amount) = doc_kind ind

-- the indentation amount for EndDocString, else 0
unfoldable pub stop_detail : Stop → ℕ
stop_detail (Stop.Label ind amount) = amount
stop_detail Stop.Quote = 0
stop_detail Stop.Interpolation = 0
stop_detail Stop.DollarLeftBrace = 0
stop_detail Stop.LeftBrace = 0
stop_detail (Stop.Variable f) = 0

-- a variable followed by `[` enters VarOffset; by an arrow and a start byte, LookingForProperty
unfoldable pub variable_change : Follow → Change
variable_change Follow.Other = Change.Keep
variable_change Follow.Offset = Change.Enter Frame.VarOffset
variable_change Follow.Property = Change.Enter Frame.LookingForProperty

unfoldable pub stop_change : Stop → Change
stop_change Stop.Quote = Change.Swap Frame.Scripting
stop_change Stop.Interpolation = Change.Swap Frame.DoubleQuote
stop_change Stop.DollarLeftBrace = Change.Enter Frame.LookingForVarname
stop_change Stop.LeftBrace = Change.Enter Frame.Scripting
stop_change (Stop.Variable f) = variable_change f
stop_change (Stop.Label ind amount) = Change.Swap Frame.Scripting

unfoldable pub texted : Mode → ℕ → List ℕ → unit.Reading → Outcome
texted m n xs (unit.Text value stop from after) =
    Outcome.Told
    (unless_empty string_part n value
    ++ record { kind = stop_kind m stop; detail = stop_detail stop; place = n; value = slice n xs from after } ∷ [])
    after
    (stop_change stop)
    false
texted m n xs (unit.Refused refusal place) = Outcome.Refused refusal place
texted m n xs unit.Wait = Outcome.Wait

-- an interpolation is left to `double_quote`
unfoldable pub is_left : Stop → Bool
is_left Stop.Interpolation = true
is_left Stop.Quote = false
is_left Stop.DollarLeftBrace = false
is_left Stop.LeftBrace = false
is_left (Stop.Variable f) = false
is_left (Stop.Label ind amount) = false

-- a literal of this kind that bears the span of `place`
unfoldable pub literal : ℕ → ℕ → unit.Reading → Outcome
literal kind place (unit.Text value stop from after) =
    if is_left stop then Outcome.Told (piece string_part place value ∷ []) after (Change.Swap Frame.DoubleQuote) false
    else Outcome.Told (piece kind place value ∷ []) after Change.Keep false
literal kind place (unit.Refused refusal fault) = Outcome.Refused refusal fault
literal kind place unit.Wait = Outcome.Wait

-- a text that is read from n on: a literal, whose token bears the span of `place`, or a mode's
unfoldable pub text_read : Mode → ℕ → ℕ → List ℕ → unit.Reading → Outcome
text_read Mode.Single place n xs r = literal literal_single_quoted_string place r
text_read (Mode.Double octals) place n xs r = literal literal_double_quoted_string place r
text_read (Mode.DoubleQuote octals) place n xs r = texted (Mode.DoubleQuote octals) n xs r
text_read Mode.ShellExec place n xs r = texted Mode.ShellExec n xs r
text_read (Mode.Heredoc octals) place n xs r = texted (Mode.Heredoc octals) n xs r
text_read Mode.Nowdoc place n xs r = texted Mode.Nowdoc n xs r

unfoldable pub number_kind : Literal → ℕ
number_kind Literal.Integer = literal_integer
number_kind Literal.Float = literal_float

unfoldable pub numbered : ℕ → number.Reading → Outcome
numbered place (number.Reading.Number literal value after) =
    Outcome.Told (piece (number_kind literal) place value ∷ []) after Change.Keep false
numbered place number.Reading.Wait = Outcome.Wait
