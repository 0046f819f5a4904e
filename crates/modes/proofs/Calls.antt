-- What a call reads: each row stands for the call's outcome, and its routine's plan is the call's. Assumes nothing.
use Rattle.std.specs.Prelude.{if◌then◌else◌}
use Prim.Native.Nat.{ℕ, suc, ◌+◌, ◌<◌, ◌≤◌}
use mathlib.Core.Path.{◌≡◌, refl, sym, ◌∙◌, subst}
use mathlib.Core.Bool.{Bool, true, false, ◌&&◌, false≢true}
use mathlib.Core.List.{List, [], ◌∷◌}
use native.Mathlib.Omega.{arith}
use native.Mathlib.Numerals.{add-one}
use lib.Dec.{eqb, leb}
use lib.ListN.{length, get_or, drop, get_or-eq_default}
use lib.Seq.{get_or-drop}
use borrow.Author.Tests.{ne_eqb, leb-true}
use Rattle.byte.specs.Words.{every}
use Rattle.byte.specs.Bytes.{is_digit, is_identifier}
use Rattle.byte.specs.declared.Octal.{Octal}
use Rattle.byte.specs.Refusals.{out_of_place}
use Rattle.byte.proofs.Tests.{&&-left, &&-right}
use Rattle.byte.proofs.Words.{drop-one}
use Rattle.state.specs.declared.Frame.{Frame}
use Rattle.state.specs.declared.Label.{Label}
use Rattle.state.specs.declared.Reading.{Reading}
use Rattle.state.specs.declared.Choices.{Choices}
use Rattle.state.specs.Bounds.{label_bytes, no_label, is_label, is_frame, is_scripting}
use Rattle.unit.specs.declared.Mode.{Mode}
use Rattle.number.specs.Numbers.{number_at}
use Rattle.outcome.specs.declared.Call.{Call}
use Rattle.outcome.specs.Outcomes.{Outcome}
use Rattle.outcome.specs.Texts.{text_read, numbered}
use Rattle.outcome.specs.Scripts.{point, scripting}
use Rattle.outcome.specs.Steps.{text_mode, nowdoc, framed, scripted, call_at}
use Rattle.byte.specs.declared.Refusal.{Refusal}
use Rattle.plan.specs.declared.Plan.{Plan}
use Rattle.plan.specs.Code.{Here, Named, PlansIn, Plans}
use Rattle.plan.proofs.Plans.{refused_plans, plans_in}
use Rattle.modes.specs.declared.rows.Way.{Way}
use Rattle.modes.specs.declared.rows.Row.{Row}
use Rattle.modes.specs.Code.{plain_row, digit_way, nowdoc_way, way_outcome, NoLiteral, Asked}
use Rattle.modes.specs.Code.{scripts, steps, calls, Reads}

-- ---- rows from their parts

pub plain_row_made : (way : Way) (mode : Mode) (label : Label) (start : ℕ) → label ≡ no_label
    → record { way = way; mode = mode; label = label; start = start } ≡ plain_row way mode start
plain_row_made way mode label start e = rw e

pub nowdoc_way_arm : (nowdocs arm : Reading) (r : Way) → nowdocs ≡ arm → r ≡ nowdoc_way arm → r ≡ nowdoc_way nowdocs
nowdoc_way_arm nowdocs arm r e h = rw e h

module _ (b : ℕ) (digit : Bool) (f : digit ≡ is_digit b) where
  pub digit_way_number : digit ≡ true → Way.Number ≡ digit_way b
  digit_way_number t = rw (← f, t)

  pub digit_way_other : digit ≡ false → Way.Scripting ≡ digit_way b
  digit_way_other t = rw (← f, t)

pub point_way_past : (src : List ℕ) (i : ℕ) → length src ≤ i → Way.Scripting ≡ digit_way (get_or src i 0)
unfolding is_digit
point_way_past src i h = rw (get_or-eq_default src 0 h)

pub ruleset digit_ways = (point_way_past, digit_way_number, digit_way_other)

module _ (f : Frame) (way : Way) (mode : Mode) (at : ℕ) (flag : Bool) (e : flag ≡ is_scripting f) (r : Row) where
  pub reading_row_taken : flag ≡ true → r ≡ plain_row way mode at
      → r ≡ plain_row (if is_scripting f then way else Way.Refused) mode at
  reading_row_taken t m = m ∙ rw (← e, t)

  pub reading_row_refused : flag ≡ false → r ≡ plain_row Way.Refused mode at
      → r ≡ plain_row (if is_scripting f then way else Way.Refused) mode at
  reading_row_refused t m = m ∙ rw (← e, t)

pub ruleset reading_rows = (reading_row_taken, reading_row_refused)

no_label_named : (src : List ℕ) → Named src no_label
no_label_named src = record { inside = omega arith; short = omega arith }

plain_reads : (o : ℕ → Bool → Outcome) (src : List ℕ) (at : ℕ) (way : Way) (mode : Mode) (start : ℕ) (r : Row)
    → r ≡ plain_row way mode start → start ≤ length src → Asked way src at
    → ((depth : ℕ) (end : Bool) → way_outcome way (plain_row way mode start) src at depth end ≡ o depth end)
    → Reads o src at r
plain_reads o src at way mode start r e s a t =
    rw e (record { told = t; start = s; name = no_label_named src; asked = a })

-- a row that stands for the same
same_reads : (o o' : ℕ → Bool → Outcome) (src : List ℕ) (at : ℕ) (r : Row) → Reads o src at r
    → ((depth : ℕ) (end : Bool) → o depth end ≡ o' depth end) → Reads o' src at r
same_reads o o' src at r x e =
    record { told = λ depth end. x.told depth end ∙ e depth end; start = x.start; name = x.name; asked = x.asked }

-- ---- Scripting

-- a digit after a `.`
point_digit : (end : Bool) (n : ℕ) (xs : List ℕ) → is_digit (get_or xs 0 0) ≡ true
    → point end n xs ≡ numbered n (number_at end n (46 ∷ xs))
unfolding point is_digit
point_digit end n [] d = absurd (false≢true d)
point_digit end n (b ∷ rest) d = rw d

not_tick : is_digit 96 ≡ true → ⊥
unfolding is_digit
not_tick e = false≢true e

-- of the table the row of double quotes alone asks for the choice
scripting_octals : (octals : Octal) (depth : ℕ) (end : Bool) (n : ℕ) (xs : List ℕ) → (get_or xs 0 0 ≡ 34 → ⊥)
    → scripting Octal.Rust depth end n xs ≡ scripting octals depth end n xs
unfolding scripting
scripting_octals octals depth end n [] h = refl
scripting_octals octals depth end n (b ∷ rest) h = rw (ne_eqb b 34 h)

module _ (octals : Octal) (src : List ℕ) (at : ℕ) (here : Here src at) (r : Row) where
  own_reads : NoLiteral src at → r ≡ plain_row Way.Scripting Mode.Nowdoc at → Reads (scripts octals src at) src at r
  unfolding way_outcome scripts
  own_reads x e =
      let place : at + 0 ≡ at = omega arith in
      let first : get_or (drop at src) 0 0 ≡ get_or src at 0 = get_or-drop at src 0 0 ∙ rw place in
      plain_reads (scripts octals src at) src at Way.Scripting Mode.Nowdoc at r e here.inside x
      (λ depth end. scripting_octals octals depth end at (drop at src) (λ z. x.double (sym first ∙ z)))

  pub script_past : length src ≤ at → r ≡ plain_row Way.Scripting Mode.Nowdoc at
      → Reads (scripts octals src at) src at r
  unfolding is_digit
  script_past past e =
      let b : get_or src at 0 ≡ 0 = get_or-eq_default src 0 past in
      let none : (n : ℕ) → get_or src at 0 ≡ suc n → ⊥ = λ n z. omega arith in
      own_reads (record { single = none 38; double = none 33; digit = rw b; point = λ z. absurd (none 45 z) }) e

  module _ (h : at < length src) where
    pub script_single : get_or src at 0 ≡ 39 → r ≡ plain_row Way.Text Mode.Single (at + 1)
        → Reads (scripts octals src at) src at r
    unfolding way_outcome scripts text_read scripting
    script_single b e =
        plain_reads (scripts octals src at) src at Way.Text Mode.Single (at + 1) r e (omega arith) tt
        (λ depth end. rw (drop-one src at h, b, ← add-one at))

    pub script_double : get_or src at 0 ≡ 34 → r ≡ plain_row Way.Text (Mode.Double octals) (at + 1)
        → Reads (scripts octals src at) src at r
    unfolding way_outcome scripts text_read scripting
    script_double b e =
        plain_reads (scripts octals src at) src at Way.Text (Mode.Double octals) (at + 1) r e (omega arith) tt
        (λ depth end. rw (drop-one src at h, b, ← add-one at))

    pub script_point : (way : Way) → get_or src at 0 ≡ 46 → way ≡ digit_way (get_or src (at + 1) 0)
        → r ≡ plain_row way Mode.Nowdoc at → Reads (scripts octals src at) src at r
    unfolding way_outcome scripts scripting is_digit
    script_point way b w e = go (is_digit (get_or src (at + 1) 0)) refl (e ∙ rw w)
      where
        go : (t : Bool) → is_digit (get_or src (at + 1) 0) ≡ t
            → r ≡ plain_row (if t then Way.Number else Way.Scripting) Mode.Nowdoc at
            → Reads (scripts octals src at) src at r
        go true d m =
            let place : at + 1 + 0 ≡ at + 1 = omega arith in
            let first : is_digit (get_or (drop (at + 1) src) 0 0) ≡ true = rw (get_or-drop (at + 1) src 0 0, place) d in
            plain_reads (scripts octals src at) src at Way.Number Mode.Nowdoc at r m here.inside tt
            (λ depth end. rw (drop-one src at h, b) (sym (point_digit end at (drop (at + 1) src) first)))
        go false d m =
            own_reads (record { single = λ z. omega arith; double = λ z. omega arith; digit = rw b; point = λ z. d }) m

    pub script_other : (way : Way) → (get_or src at 0 ≡ 39 → ⊥) → (get_or src at 0 ≡ 34 → ⊥) → (get_or src at 0 ≡ 46 → ⊥)
        → way ≡ digit_way (get_or src at 0) → r ≡ plain_row way Mode.Nowdoc at → Reads (scripts octals src at) src at r
    unfolding way_outcome scripts scripting
    script_other way single double other w e = go (is_digit (get_or src at 0)) refl (e ∙ rw w)
      where
        go : (t : Bool) → is_digit (get_or src at 0) ≡ t
            → r ≡ plain_row (if t then Way.Number else Way.Scripting) Mode.Nowdoc at
            → Reads (scripts octals src at) src at r
        go true d m =
            let b = get_or src at 0 in
            let tick : eqb b 96 ≡ false = ne_eqb b 96 (λ z. not_tick (rw z at d)) in
            plain_reads (scripts octals src at) src at Way.Number Mode.Nowdoc at r m here.inside tt
            (λ depth end. rw (drop-one src at h, ne_eqb b 39 single, ne_eqb b 34 double, tick, d))
        go false d m =
            own_reads (record { single = single; double = double; digit = d; point = λ z. absurd (other z) }) m

pub ruleset script_rows = (
  script_past,
  script_single,
  script_double,
  script_point,
  script_other,
)

-- ---- a step

is_label_named : (src : List ℕ) (label : Label) → is_label src label ≡ true → Named src label
unfolding is_label
is_label_named src label e =
    let low = leb 1 label.len && leb label.len 64 in
    let fits = leb (label.start + label.len) (length src) in
    let bounds = &&-left (low && fits) (every is_identifier (label_bytes src label)) e in
    record {
      inside = leb-true (label.start + label.len) (length src) (&&-right low fits bounds);
      short = leb-true label.len 64 (&&-right (leb 1 label.len) (leb label.len 64) (&&-left low fits bounds));
    }

module _ (src : List ℕ) (f : Frame) (choices : Choices) (at : ℕ) (here : Here src at) (r : Row) where
  step_plain : (arm : Frame) (way : Way) (mode : Mode) → f ≡ arm → Asked way src at
      → ((depth : ℕ) (end : Bool)
      → way_outcome way (plain_row way mode at) src at depth end ≡ steps arm src choices at depth end)
      → r ≡ plain_row way mode at → Reads (steps f src choices at) src at r
  step_plain arm way mode e a t m =
      rw e (plain_reads (steps arm src choices at) src at way mode at r m here.inside a t)

  pub step_initial : f ≡ Frame.Initial → r ≡ plain_row Way.Initial Mode.Nowdoc at
      → Reads (steps f src choices at) src at r
  unfolding way_outcome steps framed
  step_initial e = step_plain Frame.Initial Way.Initial Mode.Nowdoc e tt (λ depth end. refl)

  pub step_double_quote : f ≡ Frame.DoubleQuote → r ≡ plain_row Way.Text (Mode.DoubleQuote choices.octals) at
      → Reads (steps f src choices at) src at r
  unfolding way_outcome text_read steps framed text_mode
  step_double_quote e =
      step_plain Frame.DoubleQuote Way.Text (Mode.DoubleQuote choices.octals) e tt (λ depth end. refl)

  pub step_shell_exec : f ≡ Frame.ShellExec → r ≡ plain_row Way.Text Mode.ShellExec at
      → Reads (steps f src choices at) src at r
  unfolding way_outcome text_read steps framed text_mode
  step_shell_exec e = step_plain Frame.ShellExec Way.Text Mode.ShellExec e tt (λ depth end. refl)

  pub step_varname : f ≡ Frame.LookingForVarname → r ≡ plain_row Way.Varname Mode.Nowdoc at
      → Reads (steps f src choices at) src at r
  unfolding way_outcome steps framed
  step_varname e = step_plain Frame.LookingForVarname Way.Varname Mode.Nowdoc e tt (λ depth end. refl)

  pub step_property : f ≡ Frame.LookingForProperty → r ≡ plain_row Way.Property Mode.Nowdoc at
      → Reads (steps f src choices at) src at r
  unfolding way_outcome steps framed
  step_property e = step_plain Frame.LookingForProperty Way.Property Mode.Nowdoc e tt (λ depth end. refl)

  pub step_offset : f ≡ Frame.VarOffset → r ≡ plain_row Way.Offset Mode.Nowdoc at
      → Reads (steps f src choices at) src at r
  unfolding way_outcome steps framed
  step_offset e = step_plain Frame.VarOffset Way.Offset Mode.Nowdoc e tt (λ depth end. refl)

  pub step_scripting : f ≡ Frame.Scripting → Reads (scripts choices.octals src at) src at r
      → Reads (steps f src choices at) src at r
  unfolding scripts steps framed
  step_scripting e x =
      same_reads (scripts choices.octals src at) (steps f src choices at) src at r x (λ depth end. rw e)

-- a block's label is within the source
module _ (src : List ℕ) (f : Frame) (choices : Choices) (at : ℕ) (here : Here src at) (good : is_frame src f ≡ true)
    (label : Label) where
  pub step_heredoc : f ≡ Frame.Heredoc label
      → Reads (steps f src choices at) src at
      (record { way = Way.Text; mode = Mode.Heredoc choices.octals; label = label; start = at })
  unfolding way_outcome text_read steps framed text_mode is_frame
  step_heredoc e =
      let named : Named src label = is_label_named src label (rw e at good) in
      record { told = λ depth end. rw e; start = here.inside; name = named; asked = tt }

  pub step_nowdoc : (way : Way) → f ≡ Frame.Nowdoc label → way ≡ nowdoc_way choices.nowdocs
      → Reads (steps f src choices at) src at (record { way = way; mode = Mode.Nowdoc; label = label; start = at })
  unfolding way_outcome text_read steps framed text_mode nowdoc nowdoc_way is_frame
  step_nowdoc way e w = go choices.nowdocs refl w
    where
      named : Named src label
      named = is_label_named src label (rw e at good)

      go : (n : Reading) → choices.nowdocs ≡ n → way ≡ nowdoc_way n
          → Reads (steps f src choices at) src at (record { way = way; mode = Mode.Nowdoc; label = label; start = at })
      go Reading.Ported n v =
          rw v (record { told = λ depth end. rw (e, n); start = here.inside; name = named; asked = tt })
      go Reading.Sheet n v =
          rw v (record { told = λ depth end. rw (e, n); start = here.inside; name = named; asked = tt })

pub ruleset step_rows = (
  step_initial,
  step_scripting,
  step_double_quote,
  step_shell_exec,
  step_heredoc,
  step_nowdoc,
  step_varname,
  step_property,
  step_offset,
)

-- ---- a call

module _ (call : Call) (f : Frame) (src : List ℕ) (choices : Choices) (at : ℕ) (here : Here src at) (r : Row) where
  -- a reading wants Scripting on top
  reading_reads : (arm : Call) (way : Way) (mode : Mode) → call ≡ arm → Asked way src at
      → ((depth : ℕ) (end : Bool)
      → calls arm f src choices at depth end ≡ scripted f at (way_outcome way (plain_row way mode at) src at depth end))
      → r ≡ plain_row (if is_scripting f then way else Way.Refused) mode at → Reads (calls call f src choices at) src at r
  unfolding way_outcome
  reading_reads arm way mode k a o e = go (is_scripting f) refl e
    where
      go : (t : Bool) → is_scripting f ≡ t → r ≡ plain_row (if t then way else Way.Refused) mode at
          → Reads (calls call f src choices at) src at r
      go true s m =
          plain_reads (calls call f src choices at) src at way mode at r m here.inside a
          (λ depth end. rw k (sym (o depth end ∙ rw s)))
      go false s m =
          plain_reads (calls call f src choices at) src at Way.Refused mode at r m here.inside tt
          (λ depth end. rw k (sym (o depth end ∙ rw s)))

  pub call_step : call ≡ Call.Step → Reads (steps f src choices at) src at r
      → Reads (calls call f src choices at) src at r
  unfolding steps calls call_at
  call_step e x = same_reads (steps f src choices at) (calls call f src choices at) src at r x (λ depth end. rw e)

  pub call_number : call ≡ Call.Number → r ≡ plain_row (if is_scripting f then Way.Number else Way.Refused) Mode.Nowdoc at
      → Reads (calls call f src choices at) src at r
  unfolding calls call_at way_outcome
  call_number e = reading_reads Call.Number Way.Number Mode.Nowdoc e tt (λ depth end. refl)

  pub call_single : call ≡ Call.Single → r ≡ plain_row (if is_scripting f then Way.Text else Way.Refused) Mode.Single at
      → Reads (calls call f src choices at) src at r
  unfolding calls call_at way_outcome text_read
  call_single e = reading_reads Call.Single Way.Text Mode.Single e tt (λ depth end. refl)

  pub call_double : call ≡ Call.Double
      → r ≡ plain_row (if is_scripting f then Way.Text else Way.Refused) (Mode.Double choices.octals) at
      → Reads (calls call f src choices at) src at r
  unfolding calls call_at way_outcome text_read
  call_double e = reading_reads Call.Double Way.Text (Mode.Double choices.octals) e tt (λ depth end. refl)

pub ruleset call_rows = (call_step, call_number, call_single, call_double)

-- ---- the plan

pub row_asked : (o : ℕ → Bool → Outcome) (src : List ℕ) (at : ℕ) (row : Row) → Reads o src at row
    → row.way ≡ Way.Scripting → NoLiteral src at
row_asked o src at row x e = rw e at x.asked

module _ (call : Call) (f : Frame) (src : List ℕ) (choices : Choices) (depth : ℕ) (end : Bool) (at : ℕ) (row : Row)
    (x : Reads (calls call f src choices at) src at row) where
  module _ (scratch : List ℕ) where
    -- a routine that fills the scratch part
    pub row_held : (arm : Way) (r : Plan Refusal) → row.way ≡ arm
        → PlansIn src end scratch (way_outcome arm row src at depth end) r
        → PlansIn src end scratch (call_at call f src choices depth end at (drop at src)) r
    unfolding calls
    row_held arm r k p =
        rw (← x.told depth end)
        (subst (λ way. PlansIn src end scratch (way_outcome way row src at depth end) r) (sym k) p)

    -- any other
    pub row_arm : (arm : Way) (r : Plan Refusal) → row.way ≡ arm → Plans src end (way_outcome arm row src at depth end) r
        → PlansIn src end scratch (call_at call f src choices depth end at (drop at src)) r
    row_arm arm r k p = row_held arm r k (plans_in src end scratch (way_outcome arm row src at depth end) r p)

    pub row_refused : row.way ≡ Way.Refused
        → PlansIn src end scratch (call_at call f src choices depth end at (drop at src)) (Plan.Refused out_of_place at)
    unfolding way_outcome
    row_refused k = row_held Way.Refused (Plan.Refused out_of_place at) k (refused_plans src end out_of_place at)

pub ruleset planned = (row_asked, row_held, row_arm, row_refused)
