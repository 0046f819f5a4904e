-- The plans of the text modes, of literals and of numbers, as the code makes them of a scan.
--   doc_kind, quote_kind, stop_kind     the kind of the token that ends a text, by its indentation, mode and stop
--   number_kind                         the kind of a number; their numbers are those of the outcome (proofs/KindNumbers.antt)
--   made_draft                          a token whose value is made: its length is known, its bytes are still to be
--                                       written
--   is_held                             a text's value stands in the scratch part: it fits there, and its mode is no
--                                       nowdoc's
--   text_making                         how a text's value comes about that is not the source's own bytes
--   text_draft                          a text's value: where nothing was escaped it is the source's own bytes
--   sheet_draft                         a sheet's value: its rows up to the closing line, by the closing line's
--                                       indentation
--   text_plan                           a mode's text: its part, if it is not empty, and the token after it
--   literal_kind                        the kind of a literal; none for a mode
--   literal_plan, number_plan           a quoted string; a number
--   Placed                              a text that was measured lies before what ends it
--   text_read_plan                      a mode's text, or a literal
--   text_work, read_plan, number_work   a scan: found, refused, or wait
use Rattle.std.specs.Prelude.{ℕ, Option, Some, None, ◌+◌, ◌-◌, ◌≤◌, Bool, false, eqb, leb, if◌then◌else◌}
use Rattle.state.specs.declared.Frame.{Frame}
use Rattle.state.specs.declared.Label.{Label}
use Rattle.token.specs.declared.Kind.{Kind}
use Rattle.token.specs.Kinds.{kind_number}
use Rattle.unit.specs.declared.Indentation.{Indentation}
use Rattle.unit.specs.declared.Mode.{Mode}
use Rattle.unit.specs.declared.Stop.{Stop}
use Rattle.unit.specs.Readings.{gap, text_end}
use Rattle.text.specs.declared.Scanned.{Scanned}
use Rattle.number.specs.declared.Literal.{Literal}
use Rattle.number.specs.declared.Scanned as number
use Rattle.sheet.specs.Code.{blank_of}
use Rattle.outcome.specs.declared.Change.{Change}
use Rattle.outcome.specs.Texts.{stop_detail, stop_change, is_left}
use Rattle.plan.specs.declared.Making.{Making}
use Rattle.plan.specs.declared.Draft.{Draft}
use Rattle.byte.specs.declared.Refusal.{Refusal}
use Rattle.plan.specs.declared.Plan.{Plan}
use Rattle.plan.specs.Code.{copied_draft, one_plan, parted_plan}

-- a closer's indentation is never mixed
unfoldable pub doc_kind : Indentation → Kind
doc_kind Indentation.None = Kind.EndDocStringNone
doc_kind Indentation.Space = Kind.EndDocStringSpace
doc_kind Indentation.Tab = Kind.EndDocStringTab
doc_kind Indentation.Mixed = Kind.EndDocStringNone

unfoldable pub quote_kind : Mode → Kind
quote_kind Mode.ShellExec = Kind.Backtick
quote_kind Mode.Single = Kind.DoubleQuote
quote_kind (Mode.Double octals) = Kind.DoubleQuote
quote_kind (Mode.DoubleQuote octals) = Kind.DoubleQuote
quote_kind (Mode.Heredoc octals) = Kind.DoubleQuote
quote_kind Mode.Nowdoc = Kind.DoubleQuote

unfoldable pub stop_kind : Mode → Stop → Kind
stop_kind mode Stop.Quote = quote_kind mode
stop_kind mode Stop.Interpolation = Kind.StringPart
stop_kind mode Stop.DollarLeftBrace = Kind.DollarLeftBrace
stop_kind mode Stop.LeftBrace = Kind.LeftBrace
stop_kind mode (Stop.Variable f) = Kind.Variable
stop_kind mode (Stop.Label ind amount) = doc_kind ind

unfoldable pub number_kind : Literal → Kind
number_kind Literal.Integer = Kind.LiteralInteger
number_kind Literal.Float = Kind.LiteralFloat

abbrev pub made_draft : Kind → ℕ → Making → ℕ → ℕ → ℕ → Draft
made_draft kind place making from to len =
    record { kind = kind_number kind; detail = 0; place = place; making = making; from = from; to = to; len = len }

-- a nowdoc's label is looked for, and nothing is written
unfoldable pub is_held : Mode → ℕ → ℕ → Bool
is_held Mode.Single len room = leb len room
is_held (Mode.Double octals) len room = leb len room
is_held (Mode.DoubleQuote octals) len room = leb len room
is_held Mode.ShellExec len room = leb len room
is_held (Mode.Heredoc octals) len room = leb len room
is_held Mode.Nowdoc len room = false

unfoldable pub text_making : Mode → Label → Bool → Making
text_making mode label held = if held then Making.Held mode label else Making.Text mode label

-- a text that passed no more bytes than it has was not escaped
unfoldable pub text_draft : Kind → ℕ → Making → ℕ → ℕ → Stop → ℕ → Draft
text_draft kind place making at len stop from =
    if eqb (at + len) (text_end stop from) then copied_draft (kind_number kind) 0 place at (at + len)
    else made_draft kind place making at from len

-- without an indentation it is the source's own bytes
unfoldable pub sheet_draft : ℕ → ℕ → Stop → ℕ → Draft
sheet_draft at len stop from =
    if eqb (stop_detail stop) 0 then copied_draft (kind_number Kind.StringPart) 0 at at (at + len)
    else made_draft Kind.StringPart at (Making.Sheet (blank_of stop) (stop_detail stop)) at (from - stop_detail stop) len

-- both tokens bear the span where the call began
unfoldable pub text_plan : Mode → Draft → Stop → ℕ → ℕ → Plan Refusal
text_plan mode part stop from after =
    parted_plan part (copied_draft (kind_number (stop_kind mode stop)) (stop_detail stop) part.place from after) after (stop_change stop)

-- where a text of so many bytes before a stop makes this draft
unfoldable pub text_work : Mode → (ℕ → Stop → ℕ → Draft) → Scanned → Plan Refusal
text_work mode draft (Scanned.Text len stop from after) = text_plan mode (draft len stop from) stop from after
text_work mode draft (Scanned.Refused refusal place) = Plan.Refused refusal place
text_work mode draft Scanned.Wait = Plan.Wait

unfoldable pub literal_kind : Mode → Option Kind
literal_kind Mode.Single = Some Kind.LiteralSingleQuotedString
literal_kind (Mode.Double octals) = Some Kind.LiteralDoubleQuotedString
literal_kind (Mode.DoubleQuote octals) = None
literal_kind Mode.ShellExec = None
literal_kind (Mode.Heredoc octals) = None
literal_kind Mode.Nowdoc = None

-- before an interpolation, which is left, it is a part
unfoldable pub literal_plan : Draft → Bool → ℕ → Plan Refusal
literal_plan d left after = one_plan d after (if left then Change.Swap Frame.DoubleQuote else Change.Keep)

unfoldable pub Placed : ℕ → Scanned → Type 0
Placed at (Scanned.Text len stop from after) = (at + len + gap stop ≤ from) × (from ≤ after)
Placed at (Scanned.Refused refusal place) = Unit {0}
Placed at Scanned.Wait = Unit {0}

-- a mode's text, or a literal of a kind
unfoldable pub text_read_plan : Option Kind → Mode → ℕ → Making → ℕ → ℕ → Stop → ℕ → ℕ → Plan Refusal
text_read_plan None mode place making at len stop from after =
    text_plan mode (text_draft Kind.StringPart at making at len stop from) stop from after
text_read_plan (Some kind) mode place making at len stop from after =
    literal_plan (text_draft (if is_left stop then Kind.StringPart else kind) place making at len stop from) (is_left stop) after

-- the text starts at `at`; a literal's token bears the span of `place`; the scratch part has `room` bytes
unfoldable pub read_plan : Mode → ℕ → Label → ℕ → ℕ → Scanned → Plan Refusal
read_plan mode place label at room (Scanned.Text len stop from after) =
    let making = text_making mode label (is_held mode len room) in
    text_read_plan (literal_kind mode) mode place making at len stop from after
read_plan mode place label at room (Scanned.Refused refusal fault) = Plan.Refused refusal fault
read_plan mode place label at room Scanned.Wait = Plan.Wait

unfoldable pub number_plan : ℕ → ℕ → Literal → ℕ → ℕ → Plan Refusal
number_plan place at literal after len =
    one_plan (made_draft (number_kind literal) place Making.Number at after len) after Change.Keep

unfoldable pub number_work : ℕ → ℕ → Option number.Scanned → Plan Refusal
number_work place at (Some scan) = number_plan place at scan.literal scan.after scan.len
number_work place at None = Plan.Wait
