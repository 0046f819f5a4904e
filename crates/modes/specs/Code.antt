-- What a call reads, in one row; the plan where nothing is left to read; and a step at Scripting that only passes
-- bytes: it writes nothing and keeps the frame (document 01, "Step").
--   plain_row               a row without a label
--   digit_way, nowdoc_way   a digit begins a number; a nowdoc block, as the session has it read
--   way_outcome             what a row stands for
--   NoLiteral               no quote, no digit and no `.` before a digit stands at a place: Scripting's own rows
--   scripts, steps, calls   what Scripting, a step and a call come to from a place on
--   Reads                   the row stands for this outcome in every session, and its routine can be asked
--   finished_plan           nothing is left
--   is_step                 the call is a step
--   is_other                a byte of the table's last row, if no identifier starts with it
--   quick_at                how many bytes such a step passes; 0 where the step is another, or would wait
--   quick                   the cursor after such a step; the cursor itself where the call is another
--   quick_on                such steps in a row, at most so many: where they end, and how many are left there
--   PassesAt                so many bytes are passed from a place on, and they lie in the source
--   Near                    a cursor's line and column are no larger than its position and one
-- What a quick step tells holds of every session with this frame on top, at the announced end or before it:
-- `quick_passes` (proofs/Passes.antt).
use Rattle.std.specs.Prelude.{ℕ, zero, suc, ◌+◌, ◌≤◌, ◌≡◌, Bool, true, false, not, ◌&&◌, List, [], ◌∷◌, eqb, ltb, length, get_or, take, drop, if◌then◌else◌}
use Prim.Native.Char.{code}
use Rattle.byte.specs.Words.{run}
use Rattle.byte.specs.Bytes.{is_digit, is_start, is_identifier, is_none_of}
use Rattle.byte.specs.declared.Octal.{Octal}
use Rattle.byte.specs.Refusals.{out_of_place}
use Rattle.source.specs.Cursor.{passed}
use Rattle.source.specs.declared.Span.{Span}
use Rattle.state.specs.declared.Frame.{Frame}
use Rattle.state.specs.declared.Reading.{Reading}
use Rattle.state.specs.declared.Choices.{Choices}
use Rattle.state.specs.Bounds.{label_bytes, no_label, is_scripting}
use Rattle.unit.specs.declared.Mode.{Mode}
use Rattle.unit.specs.Readings.{text_at}
use Rattle.number.specs.Numbers.{number_at}
use Rattle.outcome.specs.declared.Call.{Call}
use Rattle.outcome.specs.declared.Change.{Change}
use Rattle.outcome.specs.Outcomes.{Outcome}
use Rattle.outcome.specs.Initials.{initial}
use Rattle.outcome.specs.Texts.{text_read, numbered}
use Rattle.outcome.specs.Scripts.{scripting}
use Rattle.outcome.specs.Lookings.{looking_for_varname, looking_for_property, var_offset}
use Rattle.outcome.specs.Steps.{nowdoc, framed, call_at}
use Rattle.byte.specs.declared.Refusal.{Refusal}
use Rattle.plan.specs.declared.Plan.{Plan}
use Rattle.plan.specs.Code.{Named, no_drafts}
use Rattle.modes.specs.declared.rows.Way.{Way}
use Rattle.modes.specs.declared.rows.Row.{Row}
use Rattle.modes.specs.declared.passing.PassedOn.{PassedOn}

abbrev pub plain_row : Way → Mode → ℕ → Row
plain_row way mode start = record { way = way; mode = mode; label = no_label; start = start }

abbrev pub digit_way : ℕ → Way
digit_way b = if is_digit b then Way.Number else Way.Scripting

unfoldable pub nowdoc_way : Reading → Way
nowdoc_way Reading.Ported = Way.Text
nowdoc_way Reading.Sheet = Way.Sheet

-- the row's routine, from `at` on; at Scripting no literal starts, and the choice for octal escapes does not matter
unfoldable pub way_outcome : Way → Row → List ℕ → ℕ → ℕ → Bool → Outcome
way_outcome Way.Number row src at depth end = numbered at (number_at end at (drop at src))
way_outcome Way.Text row src at depth end =
    text_read row.mode at row.start (drop row.start src)
    (text_at row.mode (label_bytes src row.label) end row.start (drop row.start src))
way_outcome Way.Sheet row src at depth end = nowdoc Reading.Sheet (label_bytes src row.label) end at (drop at src)
way_outcome Way.Initial row src at depth end = initial end at (drop at src)
way_outcome Way.Scripting row src at depth end = scripting Octal.Rust depth end at (drop at src)
way_outcome Way.Varname row src at depth end = looking_for_varname end at (drop at src)
way_outcome Way.Property row src at depth end = looking_for_property end at (drop at src)
way_outcome Way.Offset row src at depth end = var_offset end at (drop at src)
way_outcome Way.Refused row src at depth end = Outcome.Refused out_of_place at

pub record NoLiteral (src : List ℕ) (at : ℕ) : Type 0 where
  pub single : get_or src at 0 ≡ code "'" → ⊥
  pub double : get_or src at 0 ≡ code "\"" → ⊥
  pub digit : is_digit (get_or src at 0) ≡ false
  pub point : get_or src at 0 ≡ code "." → is_digit (get_or src (at + 1) 0) ≡ false

abbrev pub Asked : Way → List ℕ → ℕ → Type 0
Asked Way.Scripting src at = NoLiteral src at
Asked Way.Number src at = Unit {0}
Asked Way.Text src at = Unit {0}
Asked Way.Sheet src at = Unit {0}
Asked Way.Initial src at = Unit {0}
Asked Way.Varname src at = Unit {0}
Asked Way.Property src at = Unit {0}
Asked Way.Offset src at = Unit {0}
Asked Way.Refused src at = Unit {0}

-- what Scripting, a step and a call come to from a place on, by the depth and by whether the end is announced
unfoldable pub scripts : Octal → List ℕ → ℕ → ℕ → Bool → Outcome
scripts octals src at depth end = scripting octals depth end at (drop at src)

unfoldable pub steps : Frame → List ℕ → Choices → ℕ → ℕ → Bool → Outcome
steps f src choices at depth end = framed f src choices depth end at (drop at src)

unfoldable pub calls : Call → Frame → List ℕ → Choices → ℕ → ℕ → Bool → Outcome
calls call f src choices at depth end = call_at call f src choices depth end at (drop at src)

pub record Reads (o : ℕ → Bool → Outcome) (src : List ℕ) (at : ℕ) (row : Row) : Type 0 where
  pub told : (depth : ℕ) (end : Bool) → way_outcome row.way row src at depth end ≡ o depth end
  pub start : row.start ≤ length src
  pub name : Named src row.label
  pub asked : Asked row.way src at

abbrev pub finished_plan : ℕ → Plan Refusal
finished_plan at = Plan.Told (record { drafts = no_drafts; after = at; change = Change.Keep; finished = true })

unfoldable pub is_step : Call → Bool
is_step Call.Step = true
is_step Call.Number = false
is_step Call.Single = false
is_step Call.Double = false

unfoldable pub is_other : ℕ → Bool
is_other b =
    not (is_digit b)
    && is_none_of (code "'") (code "\"") (code "`") (code ".") b
    && is_none_of (code "{") (code "}") (code "?") (code "<") b
    && is_none_of (code "/") (code "#") (code "/") (code "#") b

-- a name that is over before the part is, or a byte of the last row
unfoldable pub quick_at : List ℕ → ℕ
quick_at [] = 0
quick_at (b ∷ rest) =
    if is_start b then (if ltb (run is_identifier rest) (length rest) then suc (run is_identifier rest) else 0)
    else if is_other b then 1
    else 0

unfoldable pub quick : Call → List ℕ → Frame → Span → Span
quick call src f p =
    let xs = drop p.position src in
    if is_step call && is_scripting f then passed p (take (quick_at xs) xs) else p

unfoldable pub quick_on : Call → List ℕ → Frame → Span → ℕ → PassedOn
quick_on call src f p zero = record { span = p; left = 0 }
quick_on call src f p (suc most) =
    let next = quick call src f p in
    if eqb next.position p.position then record { span = p; left = suc most }
    else quick_on call src f next most

pub record PassesAt (src : List ℕ) (at k : ℕ) : Type 0 where
  pub whole : k ≡ quick_at (drop at src)
  pub inside : at + k ≤ length src

pub record Near (p : Span) : Type 0 where
  pub line : p.line ≤ p.position + 1
  pub column : p.column ≤ p.position + 1
