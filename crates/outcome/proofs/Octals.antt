-- The two choices for octal escapes beside each other: a call that is not refused with 3 under the Rust's comes to the
-- same under the manual's. Assumes nothing.
--   outcome_chosen   of a step and the three readings
use Prim.Native.Nat.{ℕ, suc}
use mathlib.Core.Path.{◌≡◌, refl, ap}
use mathlib.Core.Bool.{Bool}
use mathlib.Core.List.{List, [], ◌∷◌}
use Rattle.byte.specs.declared.Octal.{Octal}
use Rattle.byte.specs.Refusals.{invalid_octal_escape}
use Rattle.byte.specs.Words.{◌is◌}
use Rattle.byte.proofs.Tests.{if_both}
use Rattle.state.specs.declared.Choices.{Choices}
use Rattle.state.specs.declared.Frame.{Frame}
use Rattle.state.specs.declared.Session.{Session}
use Rattle.state.specs.Bounds.{label_bytes, is_scripting}
use Rattle.unit.specs.declared.Mode.{Mode}
use Rattle.unit.specs.declared.Stop.{Stop}
use Rattle.unit.specs.Readings as unit
use Rattle.unit.specs.Octals.{with_octals}
use Rattle.unit.proofs.Octals.{text_chosen}
use Rattle.outcome.specs.declared.Call.{Call}
use Rattle.outcome.specs.Outcomes.{Outcome, limited}
use Rattle.outcome.specs.Texts.{quote_kind, stop_kind, texted, literal}
use Rattle.outcome.specs.Scripts.{scripting}
use Rattle.outcome.specs.Steps.{text_mode, framed, top_frame, call_at, rest, call_outcome}
use Rattle.outcome.specs.Octals.{choosing, chosen}

-- p, under the manual's choice, is o, under the Rust's, unless that is refused with 3
abbrev Chosen : Outcome → Outcome → Type 0
Chosen o p = ((place : ℕ) → o ≡ Outcome.Refused invalid_octal_escape place → ⊥) → p ≡ o

-- ---- texts

literal_chosen : (kind place : ℕ) (m : Mode) (end : Bool) (n : ℕ) (xs : List ℕ)
    → Chosen (literal kind place (unit.text_at (with_octals Octal.Rust m) [] end n xs))
    (literal kind place (unit.text_at (with_octals Octal.Manual m) [] end n xs))
unfolding literal
literal_chosen kind place m end n xs h =
    ap (literal kind place) (text_chosen m [] end n xs (λ fault e. h fault (ap (literal kind place) e)))

quote_kind_chosen : (m : Mode) → quote_kind (with_octals Octal.Manual m) ≡ quote_kind (with_octals Octal.Rust m)
unfolding quote_kind with_octals
quote_kind_chosen Mode.Single = refl
quote_kind_chosen (Mode.Double octals) = refl
quote_kind_chosen (Mode.DoubleQuote octals) = refl
quote_kind_chosen Mode.ShellExec = refl
quote_kind_chosen (Mode.Heredoc octals) = refl
quote_kind_chosen Mode.Nowdoc = refl

stop_kind_chosen : (m : Mode) (stop : Stop)
    → stop_kind (with_octals Octal.Manual m) stop ≡ stop_kind (with_octals Octal.Rust m) stop
unfolding stop_kind
stop_kind_chosen m Stop.Quote = quote_kind_chosen m
stop_kind_chosen m Stop.Interpolation = refl
stop_kind_chosen m Stop.DollarLeftBrace = refl
stop_kind_chosen m Stop.LeftBrace = refl
stop_kind_chosen m (Stop.Variable f) = refl
stop_kind_chosen m (Stop.Label ind amount) = refl

texted_chosen : (m : Mode) (n : ℕ) (xs : List ℕ) (r : unit.Reading)
    → texted (with_octals Octal.Manual m) n xs r ≡ texted (with_octals Octal.Rust m) n xs r
unfolding texted
texted_chosen m n xs (unit.Text value stop from after) = rw (stop_kind_chosen m stop)
texted_chosen m n xs (unit.Refused refusal place) = refl
texted_chosen m n xs unit.Wait = refl

text_mode_chosen : (m : Mode) (label : List ℕ) (end : Bool) (n : ℕ) (xs : List ℕ)
    → Chosen (text_mode (with_octals Octal.Rust m) label end n xs) (text_mode (with_octals Octal.Manual m) label end n xs)
unfolding text_mode texted
text_mode_chosen m label end n xs h =
    let same = text_chosen m label end n xs (λ place e. h place (ap (texted (with_octals Octal.Rust m) n xs) e)) in
    rw same (texted_chosen m n xs (unit.text_at (with_octals Octal.Rust m) label end n xs))

-- ---- every call

-- of the table the row of double quotes alone
scripting_chosen : (depth : ℕ) (end : Bool) (n : ℕ) (xs : List ℕ)
    → Chosen (scripting Octal.Rust depth end n xs) (scripting Octal.Manual depth end n xs)
unfolding scripting with_octals
scripting_chosen depth end n [] = λ h. refl
scripting_chosen depth end n (b ∷ xs) =
    if_both Chosen (b is "'") (λ e h. refl)
    (λ e. if_both Chosen (b is "\"") (λ f. literal_chosen _ n (Mode.Double Octal.Rust) end (suc n) xs) (λ f h. refl))

module _ (src : List ℕ) (choices : Choices) (depth : ℕ) (end : Bool) (n : ℕ) (xs : List ℕ) where
  abbrev frame : Octal → Frame → Outcome
  frame octals f = framed f src (choosing octals choices) depth end n xs

  framed_chosen : (f : Frame) → Chosen (frame Octal.Rust f) (frame Octal.Manual f)
  unfolding framed with_octals
  framed_chosen Frame.Initial = λ h. refl
  framed_chosen Frame.Scripting = scripting_chosen depth end n xs
  framed_chosen Frame.DoubleQuote = text_mode_chosen (Mode.DoubleQuote Octal.Rust) [] end n xs
  framed_chosen Frame.ShellExec = λ h. refl
  framed_chosen (Frame.Heredoc label) = text_mode_chosen (Mode.Heredoc Octal.Rust) (label_bytes src label) end n xs
  framed_chosen (Frame.Nowdoc label) = λ h. refl
  framed_chosen Frame.LookingForVarname = λ h. refl
  framed_chosen Frame.LookingForProperty = λ h. refl
  framed_chosen Frame.VarOffset = λ h. refl

  call_at_chosen : (call : Call) (f : Frame)
      → Chosen (call_at call f src (choosing Octal.Rust choices) depth end n xs)
      (call_at call f src (choosing Octal.Manual choices) depth end n xs)
  unfolding call_at with_octals
  call_at_chosen Call.Step f = framed_chosen f
  call_at_chosen Call.Number f = λ h. refl
  call_at_chosen Call.Single f = λ h. refl
  call_at_chosen Call.Double f =
      if_both Chosen (is_scripting f) (λ e. literal_chosen _ n (Mode.Double Octal.Rust) end n xs) (λ e h. refl)

pub outcome_chosen : (call : Call) (src : List ℕ) (end : Bool) (s : Session)
    → ((place : ℕ) → call_outcome call src end (chosen Octal.Rust s) ≡ Outcome.Refused invalid_octal_escape place → ⊥)
    → call_outcome call src end (chosen Octal.Manual s) ≡ call_outcome call src end (chosen Octal.Rust s)
unfolding call_outcome limited
outcome_chosen call src end s h =
    ap (limited s.depth s.position)
    (call_at_chosen src s.choices s.depth end s.position (rest src s) call (top_frame s)
    (λ place e. h place (ap (limited s.depth s.position) e)))
