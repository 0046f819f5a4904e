-- Demand 3 for a step and the three readings, over a session. Assumes nothing.
--   call_waits         with more announced a call waits exactly when two continuations of the source get different
--                      outcomes; else every longer source gets the same
--   call_never_waits   with the end announced no call waits
use mathlib.Core.Path.{◌≡◌, refl}
use mathlib.Core.Bool.{Bool, true, false}
use mathlib.Core.List.{List, [], ◌++◌}
use Prim.Native.Nat.{ℕ}
use lib.Seq.{drop-append-le}
use Rattle.byte.specs.Words.{every}
use Rattle.byte.specs.Demand.{is_byte, Waits}
use Rattle.state.specs.declared.Frame.{Frame}
use Rattle.state.specs.declared.Label as state
use Rattle.state.specs.declared.Choices.{Choices}
use Rattle.state.specs.declared.Session.{Session}
use Rattle.state.specs.Bounds.{label_bytes, is_label, is_frame, is_good, is_scripting}
use Rattle.state.proofs.Kept.{good_numbers}
use Rattle.state.proofs.Longer.{is_label_facts, label_bytes_append, top_good, every_part}
use Rattle.token.specs.Kinds.{literal_single_quoted_string, literal_double_quoted_string}
use Rattle.unit.specs.declared.Mode.{Mode}
use Rattle.unit.specs.Labels.{Label}
use Rattle.outcome.specs.declared.Call.{Call}
use Rattle.outcome.specs.Outcomes.{Outcome, limited}
use Rattle.outcome.specs.Steps.{top_frame, framed, scripted, call_at, rest, call_outcome}
use Rattle.outcome.proofs.Demand.{waits_along, refused_waits, Demands, if_answers, settled, demands_answers, answers_demands}
use Rattle.outcome.proofs.Demand.{limited_waits, limited_told}
use Rattle.outcome.proofs.StepWays.{label_some}
use Rattle.outcome.proofs.InitialDemand.{initial_demands}
use Rattle.outcome.proofs.LookingDemand.{looking_for_varname_demands, looking_for_property_demands, var_offset_demands}
use Rattle.outcome.proofs.ScriptDemand.{scripting_demands}
use Rattle.outcome.proofs.TextDemand.{text_mode_demands, nowdoc_demands, literal_demands, numbered_demands}

-- ---- frames

-- a label of a source of bytes is one that the readings take
label_taken : (src : List ℕ) (l : state.Label) → every is_byte src ≡ true → is_label src l ≡ true → Label (label_bytes src l)
label_taken src l b e =
    let f = is_label_facts src l e in
    record {
      some = label_some src l e;
      identifiers = f.identifiers;
      bytes = every_part is_byte src l.len l.start b;
    }

framed_demands : (f : Frame) (src : List ℕ) → every is_byte src ≡ true → is_frame src f ≡ true → (choices : Choices) (depth n p : ℕ)
    → Demands p (λ end. framed f src choices depth end n)
unfolding framed is_frame
framed_demands Frame.Initial src b e choices depth n p = initial_demands n p
framed_demands Frame.Scripting src b e choices depth n p = scripting_demands n p choices.octals depth
framed_demands Frame.DoubleQuote src b e choices depth n p =
    text_mode_demands (Mode.DoubleQuote choices.octals) [] tt n p
framed_demands Frame.ShellExec src b e choices depth n p = text_mode_demands Mode.ShellExec [] tt n p
framed_demands (Frame.Heredoc l) src b e choices depth n p =
    text_mode_demands (Mode.Heredoc choices.octals) (label_bytes src l) (label_taken src l b e) n p
framed_demands (Frame.Nowdoc l) src b e choices depth n p = nowdoc_demands (label_bytes src l) (label_taken src l b e) n p choices.nowdocs
framed_demands Frame.LookingForVarname src b e choices depth n p = looking_for_varname_demands n p
framed_demands Frame.LookingForProperty src b e choices depth n p = looking_for_property_demands n p
framed_demands Frame.VarOffset src b e choices depth n p = var_offset_demands n p

-- a label within the part has the same bytes in a longer source
framed_append : (f : Frame) (part more : List ℕ) → is_frame part f ≡ true → (choices : Choices) (depth : ℕ) (end : Bool) (n : ℕ) (xs : List ℕ)
    → framed f (part ++ more) choices depth end n xs ≡ framed f part choices depth end n xs
unfolding framed is_frame
framed_append Frame.Initial part more e choices depth end n xs = refl
framed_append Frame.Scripting part more e choices depth end n xs = refl
framed_append Frame.DoubleQuote part more e choices depth end n xs = refl
framed_append Frame.ShellExec part more e choices depth end n xs = refl
framed_append (Frame.Heredoc l) part more e choices depth end n xs = rw (label_bytes_append part more l e)
framed_append (Frame.Nowdoc l) part more e choices depth end n xs = rw (label_bytes_append part more l e)
framed_append Frame.LookingForVarname part more e choices depth end n xs = refl
framed_append Frame.LookingForProperty part more e choices depth end n xs = refl
framed_append Frame.VarOffset part more e choices depth end n xs = refl

-- ---- the step and the readings

scripted_demands : (f : Frame) (n p : ℕ) (read : Bool → List ℕ → Outcome) → Demands p read
    → Demands p (λ end xs. scripted f n (read end xs))
scripted_demands f n p read d =
    answers_demands p (λ end xs. scripted f n (read end xs))
    (λ xs. if_answers p (is_scripting f) (demands_answers p read d xs) (settled p _ refused_waits))

call_at_demands : (call : Call) (f : Frame) (src : List ℕ) → every is_byte src ≡ true → is_frame src f ≡ true → (choices : Choices)
    (depth n p : ℕ) → Demands p (λ end. call_at call f src choices depth end n)
unfolding call_at
call_at_demands Call.Step f src b e choices depth n p = framed_demands f src b e choices depth n p
call_at_demands Call.Number f src b e choices depth n p = scripted_demands f n p _ (numbered_demands n n p)
call_at_demands Call.Single f src b e choices depth n p =
    scripted_demands f n p _ (literal_demands literal_single_quoted_string n Mode.Single refl tt n p)
call_at_demands Call.Double f src b e choices depth n p =
    scripted_demands f n p _ (literal_demands literal_double_quoted_string n (Mode.Double choices.octals) refl tt n p)

call_at_append : (call : Call) (f : Frame) (part more : List ℕ) → is_frame part f ≡ true → (choices : Choices) (depth : ℕ) (end : Bool)
    (n : ℕ) (xs : List ℕ) → call_at call f (part ++ more) choices depth end n xs ≡ call_at call f part choices depth end n xs
unfolding call_at
call_at_append Call.Step f part more e choices depth end n xs = framed_append f part more e choices depth end n xs
call_at_append Call.Number f part more e choices depth end n xs = refl
call_at_append Call.Single f part more e choices depth end n xs = refl
call_at_append Call.Double f part more e choices depth end n xs = refl

module _ (call : Call) (part : List ℕ) (s : Session) (b : every is_byte part ≡ true) (good : is_good part s ≡ true) where
  -- the call over what is left, with the labels of the part
  abbrev over : Bool → List ℕ → Outcome
  over end xs = call_at call (top_frame s) part s.choices s.depth end s.position xs

  over_demands : Demands s.position over
  over_demands =
      call_at_demands call (top_frame s) part b (top_good part s good) s.choices s.depth s.position s.position

  over-append : (end : Bool) (more : List ℕ)
      → call_outcome call (part ++ more) end s ≡ limited s.depth s.position (over end (rest part s ++ more))
  unfolding call_outcome
  over-append end more =
      rw (
        call_at_append call (top_frame s) part more (top_good part s good) s.choices s.depth end s.position (rest (part ++ more) s),
        drop-append-le s.position part more (good_numbers part s good).position,
      )

  pub call_waits : Waits Outcome.Wait (λ xs. call_outcome call xs false s) (λ xs. call_outcome call xs true s) part
  unfolding call_outcome
  call_waits =
      waits_along Outcome.Wait _ _ (λ xs. call_outcome call xs false s) (λ xs. call_outcome call xs true s) (rest part s) part refl
      (over-append true)
      (limited_waits s.position over over_demands s.depth (rest part s))

  pub call_never_waits : call_outcome call part true s ≡ Outcome.Wait → ⊥
  unfolding call_outcome
  call_never_waits e = limited_told s.position over over_demands s.depth (rest part s) e
