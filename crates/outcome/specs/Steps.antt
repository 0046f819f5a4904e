-- What a step and the three readings come to (document 01, "Step"), with unlimited tables and script length.
--   top_frame      the session's top frame
--   framed         the top frame's routine, from the position n on, where xs is what is left
--   scripted       a reading asks for Scripting on top; else it is refusal 10, at the cursor
--   call_at        the step, or a reading, whose token bears the span at the cursor
--   call_outcome   what contracts cite: the same in a session, with the 64-frame limit
--   step_outcome   the step's
use Rattle.std.specs.Prelude.{ℕ, ◌-◌, Bool, List, [], get_or, drop, if◌then◌else◌}
use Rattle.byte.specs.Refusals.{out_of_place}
use Rattle.state.specs.declared.Frame.{Frame}
use Rattle.state.specs.declared.Reading.{Reading}
use Rattle.state.specs.declared.Choices.{Choices}
use Rattle.state.specs.declared.Session.{Session}
use Rattle.state.specs.Bounds.{label_bytes, no_slot, is_scripting}
use Rattle.token.specs.Kinds.{literal_single_quoted_string, literal_double_quoted_string}
use Rattle.unit.specs.declared.Mode.{Mode}
use Rattle.unit.specs.Readings.{text_at}
use Rattle.number.specs.Numbers.{number_at}
use Rattle.sheet.specs.Sheets.{sheet_at}
use Rattle.outcome.specs.declared.Call.{Call}
use Rattle.outcome.specs.Outcomes.{Outcome, limited}
use Rattle.outcome.specs.Initials.{initial}
use Rattle.outcome.specs.Texts.{texted, literal, numbered}
use Rattle.outcome.specs.Scripts.{scripting}
use Rattle.outcome.specs.Lookings.{looking_for_varname, looking_for_property, var_offset}

abbrev pub top_frame : Session → Frame
top_frame s = (get_or s.frames (s.depth - 1) no_slot).frame

-- a text mode with this label
unfoldable pub text_mode : Mode → List ℕ → Bool → ℕ → List ℕ → Outcome
text_mode m label end n xs = texted m n xs (text_at m label end n xs)

-- a Nowdoc frame, as the session has it read
unfoldable pub nowdoc : Reading → List ℕ → Bool → ℕ → List ℕ → Outcome
nowdoc Reading.Ported label end n xs = text_mode Mode.Nowdoc label end n xs
nowdoc Reading.Sheet label end n xs = texted Mode.Nowdoc n xs (sheet_at label end n xs)

unfoldable pub framed : Frame → List ℕ → Choices → ℕ → Bool → ℕ → List ℕ → Outcome
framed Frame.Initial src choices depth end n xs = initial end n xs
framed Frame.Scripting src choices depth end n xs = scripting choices.octals depth end n xs
framed Frame.DoubleQuote src choices depth end n xs = text_mode (Mode.DoubleQuote choices.octals) [] end n xs
framed Frame.ShellExec src choices depth end n xs = text_mode Mode.ShellExec [] end n xs
framed (Frame.Heredoc label) src choices depth end n xs =
    text_mode (Mode.Heredoc choices.octals) (label_bytes src label) end n xs
framed (Frame.Nowdoc label) src choices depth end n xs = nowdoc choices.nowdocs (label_bytes src label) end n xs
framed Frame.LookingForVarname src choices depth end n xs = looking_for_varname end n xs
framed Frame.LookingForProperty src choices depth end n xs = looking_for_property end n xs
framed Frame.VarOffset src choices depth end n xs = var_offset end n xs

abbrev pub scripted : Frame → ℕ → Outcome → Outcome
scripted f n o = if is_scripting f then o else Outcome.Refused out_of_place n

unfoldable pub call_at : Call → Frame → List ℕ → Choices → ℕ → Bool → ℕ → List ℕ → Outcome
call_at Call.Step f src choices depth end n xs = framed f src choices depth end n xs
call_at Call.Number f src choices depth end n xs = scripted f n (numbered n (number_at end n xs))
call_at Call.Single f src choices depth end n xs =
    scripted f n (literal literal_single_quoted_string n (text_at Mode.Single [] end n xs))
call_at Call.Double f src choices depth end n xs =
    scripted f n (literal literal_double_quoted_string n (text_at (Mode.Double choices.octals) [] end n xs))

-- what is left to read
abbrev pub rest : List ℕ → Session → List ℕ
rest src s = drop s.position src

unfoldable pub call_outcome : Call → List ℕ → Bool → Session → Outcome
call_outcome call src end s =
    limited s.depth s.position
    (call_at call (top_frame s) src s.choices s.depth end s.position (rest src s))

abbrev pub step_outcome : List ℕ → Bool → Session → Outcome
step_outcome src end s = call_outcome Call.Step src end s
