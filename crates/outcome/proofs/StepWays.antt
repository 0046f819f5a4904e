-- Every outcome of a step and of a reading lies between the cursor and the end of the source; so positions never fall,
-- and a step has no more value bytes than it passes. The mode stack stays good, a step that is done goes on, at most
-- two pieces are told, and what is refused is one of the call's own refusals.
--   call_numbers                  what each call may refuse of itself
--   framed_ways                   of any frame's routine
--   call_at_ways, call_ways       of the step and the three readings; `call_inside` says where it lies
--   Room, Limited, limited_room   with the limit of 64 frames there is room for the frame that is entered
-- Assumes nothing.
use Prim.Native.Nat.{ℕ, ◌+◌, ◌≤◌, ◌<◌}
use Rattle.byte.specs.declared.Refusal.{Refusal}
use mathlib.Core.Path.{◌≡◌, refl}
use mathlib.Core.Bool.{Bool, true, false, not}
use mathlib.Core.List.{List, [], ◌∷◌}
use native.Mathlib.Omega.{arith}
use lib.Dec.{eqb, ltb}
use lib.ListN.{length, drop, length-take, length-drop}
use borrow.Author.Tests.{ltb-true}
use Rattle.byte.specs.declared.Octal.{Octal}
use Rattle.byte.specs.Refusals.{unexpected_end_of_file, invalid_unicode_escape, octal_refusals, wait}
use Rattle.byte.specs.Refusals.{wait, stack_full, out_of_place, is_same, is_among}
use Rattle.byte.proofs.Refusals.{among_every}
use Rattle.byte.specs.Words.{every}
use Rattle.byte.proofs.Tests.{choice}
use Rattle.state.specs.declared.Frame.{Frame}
use Rattle.state.specs.declared.Label.{Label}
use Rattle.state.specs.declared.Choices.{Choices}
use Rattle.state.specs.declared.Reading.{Reading}
use Rattle.state.specs.declared.Session.{Session}
use Rattle.state.specs.Bounds.{label_bytes, is_label, is_frame, is_bottom, is_scripting}
use Rattle.state.proofs.Longer.{is_label_facts}
use Rattle.token.specs.Kinds.{literal_single_quoted_string, literal_double_quoted_string}
use Rattle.unit.specs.declared.Mode.{Mode}
use Rattle.unit.specs.Readings as unit
use Rattle.unit.proofs.Inside as unit-inside
use Rattle.unit.proofs.Stands.{is_literal, faults}
use Rattle.number.specs.Numbers as number
use Rattle.sheet.proofs.Inside.{sheet_faults, sheet_inside, sheet_moves, sheet_stops}
use Rattle.outcome.specs.declared.Call.{Call}
use Rattle.outcome.specs.declared.Change.{Change}
use Rattle.outcome.specs.Outcomes.{Outcome, limited}
use Rattle.outcome.specs.Insides.{Inside}
use Rattle.outcome.specs.Texts.{is_left, literal, numbered}
use Rattle.outcome.specs.Steps.{text_mode, nowdoc, framed, top_frame, scripted, call_at, rest, call_outcome}
use Rattle.outcome.proofs.Ways.{Asked, step_refusals, quoted_may, heredoc_may, Ways, fault_ways, texted_ways, literal_ways}
use Rattle.outcome.proofs.Ways.{numbered_ways, looking_for_varname_ways, looking_for_property_ways, var_offset_ways}
use Rattle.outcome.proofs.ScriptWays.{initial_ways, scripting_ways}

pub label_some : (src : List ℕ) (l : Label) → is_label src l ≡ true → 0 < length (label_bytes src l)
label_some src l e =
    let f = is_label_facts src l e in
    rw (length-take l.len (drop l.start src), length-drop l.start src) (omega (arith, f.low, f.inside))

-- the frame on top is good, and not the last one where it may not be
pub record TopGood (src : List ℕ) (f : Frame) (depth : ℕ) : Type 0 where
  pub frame : is_frame src f ≡ true
  pub deep : is_bottom f ≡ false → 2 ≤ depth

-- ---- what is asked

-- a reading's cursor may stay
abbrev pub Moving : Call → List ℕ → Frame → ℕ → Type 0
Moving Call.Step src f depth = TopGood src f depth
Moving Call.Number src f depth = ⊥
Moving Call.Single src f depth = ⊥
Moving Call.Double src f depth = ⊥

-- what a call may refuse of itself, octal escapes by this choice
abbrev pub call_numbers : Octal → Call → List Refusal
call_numbers octals Call.Step = step_refusals octals
call_numbers octals Call.Number = out_of_place ∷ []
call_numbers octals Call.Single = out_of_place ∷ unexpected_end_of_file ∷ []
call_numbers octals Call.Double = out_of_place ∷ unexpected_end_of_file ∷ invalid_unicode_escape ∷ octal_refusals octals

-- the wait is none of them
pub call_numbers_others : (octals : Octal) (call : Call) → every (λ k. not (is_same k wait)) (call_numbers octals call) ≡ true
unfolding every octal_refusals
call_numbers_others Octal.Rust Call.Step = refl
call_numbers_others Octal.Rust Call.Double = refl
call_numbers_others Octal.Manual Call.Step = refl
call_numbers_others Octal.Manual Call.Double = refl
call_numbers_others octals Call.Number = refl
call_numbers_others octals Call.Single = refl

-- those of a double-quoted literal are among the reading's
double_may : (octals : Octal)
    → every (λ k. is_among k (call_numbers octals Call.Double)) (faults (Mode.Double octals)) ≡ true
unfolding is_among every octal_refusals
double_may Octal.Rust = refl
double_may Octal.Manual = refl

module _ (octals : Octal) (src : List ℕ) (depth n : ℕ) (h : n ≤ length src) (f : Frame) where
  abbrev pub called_by : Call → Asked src n
  called_by call =
      record {
        inside = h;
        top = f;
        depth = depth;
        Good = TopGood src f depth;
        Moving = Moving call src f depth;
        refusals = call_numbers octals call;
        others = call_numbers_others octals call;
      }

-- ---- any frame

whole : (src : List ℕ) (n : ℕ) → n ≤ length src → n + length (drop n src) ≡ length src
whole src n h = omega (arith, length-drop n src)

module _ (choices : Choices) (src : List ℕ) (depth n : ℕ) (end : Bool) (h : n ≤ length src) where
  abbrev left : List ℕ
  left = drop n src

  abbrev pub asked : Frame → Asked src n
  asked f = called_by choices.octals src depth n h f Call.Step

  text_mode_ways : (f : Frame) → is_scripting f ≡ false → (m : Mode) → is_literal m ≡ false
      → every (λ k. is_among k (step_refusals choices.octals)) (faults m) ≡ true
      → (label : List ℕ) → Ways (asked f) (text_mode m label end n left)
  unfolding text_mode
  text_mode_ways f e m moving may label =
      texted_ways (asked f) e m left (faults m) may _
      (rw (whole src n h) at (unit-inside.text_inside m label end n left))
      (unit-inside.text_stops m label end n left moving)
      (λ g. unit-inside.text_moves m label end n left moving)

  pub framed_ways : (f : Frame) → Ways (asked f) (framed f src choices depth end n left)
  unfolding framed nowdoc is_bottom is_frame is_scripting is_among every
  framed_ways Frame.Initial = initial_ways (asked Frame.Initial) end refl left (whole src n h)
  framed_ways Frame.Scripting =
      scripting_ways (asked Frame.Scripting) refl choices.octals refl end left refl (whole src n h)
  framed_ways Frame.DoubleQuote =
      text_mode_ways Frame.DoubleQuote refl (Mode.DoubleQuote choices.octals) refl (quoted_may choices.octals) []
  framed_ways Frame.ShellExec = text_mode_ways Frame.ShellExec refl Mode.ShellExec refl refl []
  framed_ways (Frame.Heredoc label) =
      text_mode_ways (Frame.Heredoc label) refl (Mode.Heredoc choices.octals) refl (heredoc_may choices.octals)
      (label_bytes src label)
  framed_ways (Frame.Nowdoc label) = nowdoc_ways choices.nowdocs
    where
      nowdoc_ways : (reading : Reading) → Ways (asked (Frame.Nowdoc label)) (nowdoc reading (label_bytes src label) end n left)
      nowdoc_ways Reading.Ported = text_mode_ways (Frame.Nowdoc label) refl Mode.Nowdoc refl refl (label_bytes src label)
      nowdoc_ways Reading.Sheet =
          texted_ways (asked (Frame.Nowdoc label)) refl Mode.Nowdoc left sheet_faults refl _
          (rw (whole src n h) at (sheet_inside (label_bytes src label) end n left))
          (sheet_stops (label_bytes src label) end n left)
          (λ g. sheet_moves (label_bytes src label) end n left (label_some src label g.frame))
  framed_ways Frame.LookingForVarname =
      looking_for_varname_ways (asked Frame.LookingForVarname) end refl left (omega (arith, whole src n h))
  framed_ways Frame.LookingForProperty =
      looking_for_property_ways (asked Frame.LookingForProperty) end choices.octals refl (λ g. g.deep refl) left
      (omega (arith, whole src n h))
  framed_ways Frame.VarOffset =
      var_offset_ways (asked Frame.VarOffset) end choices.octals refl (λ g. g.deep refl) left
      (omega (arith, whole src n h))

-- ---- the limit of 64 frames

abbrev pub Room : ℕ → Change → Type 0
Room depth Change.Keep = Unit {0}
Room depth (Change.Swap f) = Unit {0}
Room depth (Change.Enter f) = depth < 64
Room depth Change.Leave = Unit {0}

abbrev pub Limited : ℕ → Outcome → Type 0
Limited depth (Outcome.Told pieces after change finished) = Room depth change
Limited depth (Outcome.Refused refusal place) = Unit {0}
Limited depth Outcome.Wait = Unit {0}

-- what holds of the refusal and, where there is room, of the outcome, holds with the limit
pub limited_either : (P : Outcome → Type 0) (depth n : ℕ) (o : Outcome) → P (Outcome.Refused stack_full n)
    → (Limited depth o → P o)
    → P (limited depth n o)
unfolding limited
limited_either P depth n (Outcome.Told pieces after (Change.Enter f) finished) x y =
    choice P (ltb depth 64) _ _ (λ e. y (ltb-true depth 64 e)) (λ e. x)
limited_either P depth n (Outcome.Told pieces after Change.Keep finished) x y = y tt
limited_either P depth n (Outcome.Told pieces after (Change.Swap f) finished) x y = y tt
limited_either P depth n (Outcome.Told pieces after Change.Leave finished) x y = y tt
limited_either P depth n (Outcome.Refused refusal place) x y = y tt
limited_either P depth n Outcome.Wait x y = y tt

pub limited_room : (depth n : ℕ) (o : Outcome) → Limited depth (limited depth n o)
limited_room depth n o = limited_either (Limited depth) depth n o tt (λ r. r)

-- ---- the step and the readings

module _ (choices : Choices) (src : List ℕ) (depth n : ℕ) (end : Bool) (h : n ≤ length src) (f : Frame) where
  abbrev octals : Octal
  octals = choices.octals

  abbrev by : Call → Asked src n
  by call = called_by octals src depth n h f call

  scripted_ways : (call : Call) → is_among out_of_place (call_numbers octals call) ≡ true → (o : Outcome)
      → (is_scripting f ≡ true → Ways (by call) o) → Ways (by call) (scripted f n o)
  scripted_ways call e o w = choice (Ways (by call)) (is_scripting f) o _ w (λ t. fault_ways _ e (omega arith) h)

  string_ways : (call : Call) → (Moving call src f depth → ⊥) → (kind : ℕ) (m : Mode)
      → every (λ k. is_among k (call_numbers octals call)) (faults m) ≡ true → is_scripting f ≡ true
      → Ways (by call) (literal kind n (unit.text_at m [] end n (drop n src)))
  string_ways call stays kind m may top =
      literal_ways (by call) top kind n (faults m) may (unit.text_at m [] end n (drop n src)) (omega arith)
      (λ g. absurd (stays g)) (rw (whole src n h) at (unit-inside.text_inside m [] end n (drop n src)))

  pub call_at_ways : (call : Call)
      → Ways (called_by choices.octals src depth n h f call) (call_at call f src choices depth end n (drop n src))
  unfolding call_at is_among every
  call_at_ways Call.Step = framed_ways choices src depth n end h f
  call_at_ways Call.Number =
      scripted_ways Call.Number refl _
      (λ t. numbered_ways (by Call.Number) end (drop n src) (omega (arith, length-drop n src)) (λ g. absurd g))
  call_at_ways Call.Single =
      scripted_ways Call.Single refl _ (string_ways Call.Single (λ g. g) literal_single_quoted_string Mode.Single refl)
  call_at_ways Call.Double =
      scripted_ways Call.Double refl _
      (string_ways Call.Double (λ g. g) literal_double_quoted_string (Mode.Double octals) (double_may octals))

-- a reading enters no frame, so the limit says nothing of it
module _ (depth n : ℕ) where
  abbrev Free : Outcome → Type 0
  Free o = limited depth n o ≡ o

  scripted_free : (f : Frame) (o : Outcome) → Free o → Free (scripted f n o)
  unfolding limited
  scripted_free f o x = choice Free (is_scripting f) o _ (λ e. x) (λ e. refl)

  literal_free : (kind place : ℕ) (r : unit.Reading) → Free (literal kind place r)
  unfolding limited literal
  literal_free kind place (unit.Text value stop from after) = choice Free (is_left stop) _ _ (λ e. refl) (λ e. refl)
  literal_free kind place (unit.Refused refusal fault) = refl
  literal_free kind place unit.Wait = refl

  numbered_free : (place : ℕ) (r : number.Reading) → Free (numbered place r)
  unfolding limited numbered
  numbered_free place (number.Reading.Number literal value after) = refl
  numbered_free place number.Reading.Wait = refl

module _ (src : List ℕ) (end : Bool) (s : Session) (h : s.position ≤ length src) where
  -- what the limit is put on
  abbrev before : Call → Outcome
  before call = call_at call (top_frame s) src s.choices s.depth end s.position (rest src s)

  abbrev LimitedWays : Call → Type 0
  LimitedWays call =
      Ways (called_by s.choices.octals src s.depth s.position h (top_frame s) call) (call_outcome call src end s)

  free_ways : (call : Call) → Free s.depth s.position (before call) → LimitedWays call
  unfolding call_outcome
  free_ways call e = rw e (call_at_ways s.choices src s.depth s.position end h (top_frame s) call)

  limited_ways : (call : Call) → LimitedWays call
  unfolding call_outcome call_at is_among
  limited_ways Call.Step =
      limited_either (Ways (called_by s.choices.octals src s.depth s.position h (top_frame s) Call.Step))
      s.depth s.position _
      (fault_ways _ refl (omega arith) h)
      (λ r. call_at_ways s.choices src s.depth s.position end h (top_frame s) Call.Step)
  limited_ways Call.Number = free_ways Call.Number (scripted_free _ _ _ _ (numbered_free _ _ _ _))
  limited_ways Call.Single = free_ways Call.Single (scripted_free _ _ _ _ (literal_free _ _ _ _ _))
  limited_ways Call.Double = free_ways Call.Double (scripted_free _ _ _ _ (literal_free _ _ _ _ _))

module _ (call : Call) (src : List ℕ) (end : Bool) (s : Session) (h : s.position ≤ length src) where
  pub call_ways : Ways (called_by s.choices.octals src s.depth s.position h (top_frame s) call) (call_outcome call src end s)
  call_ways = limited_ways src end s h call

  pub call_inside : Inside s.position (length src) (call_outcome call src end s)
  call_inside = call_ways.lies
