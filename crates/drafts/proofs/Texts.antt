-- Texts and their plans: what a scan found makes the outcome of what was read, and what it left in the scratch part is
-- the value of a draft that is held. Assumes nothing.
--   held_value     the scratch part begins with the value
--   text_plans     the plan of a text that was measured makes its outcome
--   text_planned   the same of what the scan answered
use Rattle.std.specs.Prelude.{if◌then◌else◌, Option, None, Some}
use Prim.Native.Nat.{ℕ, ◌+◌, ◌≤◌}
use Rattle.byte.specs.declared.Refusal.{Refusal}
use mathlib.Core.Path.{◌≡◌, refl, sym, ap, ◌∙◌}
use mathlib.Core.Bool.{Bool, true, false, false≢true}
use mathlib.Core.List.{List, [], ◌∷◌}
use native.Mathlib.Omega.{arith}
use lib.Dec.{eqb}
use lib.ListN.{length, take, drop, length-take}
use lib.Seq.{take-take, take-append-le}
use borrow.Author.Tests.{leb-true, eqb-true}
use Rattle.byte.specs.Laid.{laid}
use Rattle.byte.proofs.Tests.{choice}
use Rattle.byte.proofs.Laid.{length_laid}
use Rattle.state.specs.declared.Frame.{Frame}
use Rattle.state.specs.declared.Label.{Label}
use Rattle.state.specs.Bounds.{label_bytes}
use Rattle.token.specs.declared.Kind.{Kind}
use Rattle.token.specs.Kinds.{kind_number}
use Rattle.unit.specs.declared.Mode.{Mode}
use Rattle.unit.specs.declared.Stop.{Stop}
use Rattle.unit.specs.Readings as unit
use Rattle.unit.proofs.Inside as unit-inside
use Rattle.unit.proofs.Stands.{is_literal, faults}
use Rattle.unit.proofs.Readings.{TextStands, StandsReading, text_stands, text_copied}
use Rattle.text.specs.declared.Scanned.{Scanned}
use Rattle.text.specs.Code as text-scans
use Rattle.text.proofs.Writes.{value_gathered}
use Rattle.outcome.specs.declared.Change.{Change}
use Rattle.outcome.specs.Outcomes.{Outcome, piece}
use Rattle.outcome.specs.Texts.{texted, is_left, literal, text_read}
use Rattle.plan.specs.declared.Making.{Making}
use Rattle.plan.specs.declared.Draft.{Draft}
use Rattle.plan.specs.declared.Plan.{Plan}
use Rattle.plan.specs.Code.{made_by, Here, Named, Block, PlansIn, one_plan}
use Rattle.drafts.specs.Code.{made_draft, is_held, text_making, text_draft, text_plan, text_work, Placed}
use Rattle.drafts.specs.Code.{literal_kind, literal_plan, text_read_plan, read_plan}
use Rattle.plan.proofs.Plans.{named_short, refused_plans, wait_plans}
use Rattle.drafts.proofs.Drafts.{Makes, copied_makes, made_makes, piece_plans}
use Rattle.drafts.proofs.Works.{all_left, read-plans}

-- ---- the plan of a text that was measured

module _ (at : ℕ) (scan : Scanned) (h : Placed at scan) (len : ℕ) (stop : Stop) (from after : ℕ)
    (a : scan ≡ Scanned.Text len stop from after) where
  placed : (at + len + unit.gap stop ≤ from) × (from ≤ after)
  unfolding Placed
  placed = rw a at h

  pub placed_fits : at + len + unit.gap stop ≤ from
  placed_fits = placed.0

  pub placed_order : from ≤ after
  placed_order = placed.1

module _ (mode : Mode) (place : ℕ) (label : Label) (at room : ℕ) (scan : Scanned) where
  pub read_plan_arm : (arm : Scanned) (r : Plan Refusal) → scan ≡ arm → r ≡ read_plan mode place label at room arm
      → r ≡ read_plan mode place label at room scan
  read_plan_arm arm r a e = rw a e

  module _ (len : ℕ) (stop : Stop) (from after : ℕ) (d : Draft) (r : Plan Refusal)
      (a : scan ≡ Scanned.Text len stop from after) (held : Bool) (h : held ≡ is_held mode len room)
      (making : Making) (g : making ≡ text_making mode label held) (found : Option Kind)
      (k : found ≡ literal_kind mode) where
    pub read_plan_parted : found ≡ None → d ≡ text_draft Kind.StringPart at making at len stop from
        → r ≡ text_plan mode d stop from after → r ≡ read_plan mode place label at room scan
    unfolding read_plan text_read_plan
    read_plan_parted z m e = e ∙ rw (a, m, g, h, ← k, z)

    pub read_plan_literal : (kind : Kind) (left : Bool) (value : Kind) → found ≡ Some kind → left ≡ is_left stop
        → value ≡ (if left then Kind.StringPart else kind) → d ≡ text_draft value place making at len stop from
        → r ≡ literal_plan d left after → r ≡ read_plan mode place label at room scan
    unfolding read_plan text_read_plan
    read_plan_literal kind left value z l v m e = e ∙ rw (a, m, g, h, v, ← k, z, ← l)

pub ruleset read_plans = (placed_fits, placed_order, read_plan_arm, read_plan_parted, read_plan_literal)

-- a text is a mode's or a literal's
module _ (place n : ℕ) (xs : List ℕ) where
  read_as : Option Kind → Mode → unit.Reading → Outcome
  read_as None mode r = texted mode n xs r
  read_as (Some kind) mode r = literal (kind_number kind) place r

  text_read_as : (mode : Mode) (r : unit.Reading) → text_read mode place n xs r ≡ read_as (literal_kind mode) mode r
  unfolding literal_kind text_read read_as
  text_read_as Mode.Single r = refl
  text_read_as (Mode.Double octals) r = refl
  text_read_as (Mode.DoubleQuote octals) r = refl
  text_read_as Mode.ShellExec r = refl
  text_read_as (Mode.Heredoc octals) r = refl
  text_read_as Mode.Nowdoc r = refl

  text_read_refused : (mode : Mode) (refusal : Refusal) (fault : ℕ)
      → text_read mode place n xs (unit.Refused refusal fault) ≡ Outcome.Refused refusal fault
  unfolding text_read texted literal
  text_read_refused Mode.Single refusal fault = refl
  text_read_refused (Mode.Double octals) refusal fault = refl
  text_read_refused (Mode.DoubleQuote octals) refusal fault = refl
  text_read_refused Mode.ShellExec refusal fault = refl
  text_read_refused (Mode.Heredoc octals) refusal fault = refl
  text_read_refused Mode.Nowdoc refusal fault = refl

  text_read_waits : (mode : Mode) → text_read mode place n xs unit.Wait ≡ Outcome.Wait
  unfolding text_read texted literal
  text_read_waits Mode.Single = refl
  text_read_waits (Mode.Double octals) = refl
  text_read_waits (Mode.DoubleQuote octals) = refl
  text_read_waits Mode.ShellExec = refl
  text_read_waits (Mode.Heredoc octals) = refl
  text_read_waits Mode.Nowdoc = refl

-- what a scan leaves in the scratch part
module _ (label : List ℕ) (len room : ℕ) where
  held_unsearched : (mode : Mode) → is_held mode len room ≡ true → text-scans.is_searched mode label ≡ false
  unfolding is_held text-scans.is_searched
  held_unsearched Mode.Single h = refl
  held_unsearched (Mode.Double octals) h = refl
  held_unsearched (Mode.DoubleQuote octals) h = refl
  held_unsearched Mode.ShellExec h = refl
  held_unsearched (Mode.Heredoc octals) h = refl
  held_unsearched Mode.Nowdoc h = absurd (false≢true h)

  held_fits : (mode : Mode) → is_held mode len room ≡ true → len ≤ room
  unfolding is_held
  held_fits Mode.Single h = leb-true len room h
  held_fits (Mode.Double octals) h = leb-true len room h
  held_fits (Mode.DoubleQuote octals) h = leb-true len room h
  held_fits Mode.ShellExec h = leb-true len room h
  held_fits (Mode.Heredoc octals) h = leb-true len room h
  held_fits Mode.Nowdoc h = absurd (false≢true h)

-- a part that begins with the first bytes of a list begins with those of them that fit
take_filled : (dst xs : List ℕ) (n : ℕ) → n ≤ length dst → n ≤ length xs
    → take n (laid dst 0 (take (length dst) xs)) ≡ take n xs
unfolding laid
take_filled dst xs n h i =
    let k : n ≤ length (take (length dst) xs) = simp length-take (omega arith) in
    take-append-le n (take (length dst) xs) _ k ∙ take-take n (length dst) xs h

held_value : (mode : Mode) (src label : List ℕ) (at : ℕ) (end : Bool) (dst : List ℕ) (scan : Scanned)
    (scratch value : List ℕ)
    → text-scans.Scans mode src label at end dst scan scratch
    → text-scans.value_of (unit.text_at mode label end at (drop at src)) ≡ value
    → is_held mode (length value) (length scratch) ≡ true → take (length value) scratch ≡ value
held_value mode src label at end dst scan scratch value x v h =
    let all = text-scans.gathered mode label end 0 at (drop at src) in
    let put : scratch ≡ laid dst 0 (take (length dst) all) =
    x.held ∙ rw (held_unsearched label (length value) (length scratch) mode h) in
    let few : length (take (length dst) all) ≤ length dst = simp length-take (omega arith) in
    let size : length scratch ≡ length dst =
    ap length put ∙ length_laid dst 0 (take (length dst) all) (omega (arith, few)) in
    let fits : length value ≤ length dst =
    omega (arith, size, held_fits label (length value) (length scratch) mode h) in
    let same : value ≡ take (length value) all = rw v at (value_gathered mode label end at (drop at src)) in
    let some : length value ≤ length all = omega (arith, ap length same ∙ length-take (length value) all) in
    ap (take (length value)) put ∙ take_filled dst all (length value) fits some ∙ sym same

-- what is read of the text from `at` on
abbrev pub read_text : Mode → List ℕ → Label → Bool → ℕ → ℕ → Outcome
read_text mode src label end place at =
    text_read mode place at (drop at src) (unit.text_at mode (label_bytes src label) end at (drop at src))

reading_placed : (m : Mode) (at hi : ℕ) (xs : List ℕ) (r : unit.Reading) → StandsReading m at hi xs r
    → Placed at (text-scans.measured r)
unfolding text-scans.measured Placed
reading_placed m at hi xs (unit.Text value stop from after) i = (i.fits, i.order)
reading_placed m at hi xs (unit.Refused refusal place) i = tt
reading_placed m at hi xs unit.Wait i = tt

-- a held draft's value stands in the scratch part
abbrev Holds : Mode → List ℕ → Label → Bool → ℕ → List ℕ → Type 0
Holds mode src label end at scratch = (value : List ℕ)
    → text-scans.value_of (unit.text_at mode (label_bytes src label) end at (drop at src)) ≡ value
    → is_held mode (length value) (length scratch) ≡ true → take (length value) scratch ≡ value

module _ (mode : Mode) (src : List ℕ) (label : Label) (end : Bool) (at : ℕ) (here : Here src at)
    (name : Named src label)
    (scratch : List ℕ) where
  text-read : StandsReading mode at (length src) (drop at src)
      (unit.text_at mode (label_bytes src label) end at (drop at src))
  text-read = rw (all_left src at here.inside) at (text_stands mode (label_bytes src label) end at (drop at src))

  abbrev making_of : List ℕ → Making
  making_of value = text_making mode label (is_held mode (length value) (length scratch))

  block : Block src label at
  block = record { start = here.inside; name = name }

  module _ (holds : Holds mode src label end at scratch) where
    -- held or read again
    value_makes : (kind : Kind) (place from : ℕ) (value : List ℕ)
        → text-scans.value_of (unit.text_at mode (label_bytes src label) end at (drop at src)) ≡ value → (held : Bool)
        → is_held mode (length value) (length scratch) ≡ held
        → Makes src end scratch (piece (kind_number kind) place value)
        (made_draft kind place (text_making mode label held) at from (length value))
    unfolding text_making made_by
    value_makes kind place from value v true h =
        made_makes src end kind place value (Making.Held mode label) at from
        (record { block = block; same = holds value v h }) v
    value_makes kind place from value v false h =
        made_makes src end kind place value (Making.Text mode label) at from block v

    -- copied or made, the draft of a text makes its piece
    text_makes : (kind : Kind) (place : ℕ) (value : List ℕ) (stop : Stop) (from after : ℕ)
        → unit.text_at mode (label_bytes src label) end at (drop at src) ≡ unit.Text value stop from after
        → Makes src end scratch (piece (kind_number kind) place value)
        (text_draft kind place (making_of value) at (length value) stop from)
    unfolding text_draft text-scans.value_of
    text_makes kind place value stop from after e =
        let i : TextStands (is_literal mode) at (length src) (drop at src) value stop from after = rw e at text-read in
        choice (Makes src end scratch (piece (kind_number kind) place value)) (eqb (at + length value) (unit.text_end stop from)) _ _
        (λ t. copied_makes src end kind place value at (length value) (omega (arith, i.fits, i.order, i.inside))
        (text_copied mode (label_bytes src label) end at (drop at src) value stop from after e (eqb-true _ _ t)))
        (λ t. value_makes kind place from value (rw e) (is_held mode (length value) (length scratch)) refl)

    module _ (place : ℕ) where
      literal_one : (kind : Kind) (from after : ℕ) (stop : Stop) (change : Change) (value : List ℕ)
          → unit.text_at mode (label_bytes src label) end at (drop at src) ≡ unit.Text value stop from after
          → PlansIn src end scratch (Outcome.Told (piece (kind_number kind) place value ∷ []) after change false)
          (one_plan (text_draft kind place (making_of value) at (length value) stop from) after change)
      literal_one kind from after stop change value e =
          piece_plans src end after change (kind_number kind) place value _ (text_makes kind place value stop from after e)

      literal-plans : (kind : Kind) (left : Bool) (from after : ℕ) (stop : Stop) (value : List ℕ) → left ≡ is_left stop
          → unit.text_at mode (label_bytes src label) end at (drop at src) ≡ unit.Text value stop from after
          → PlansIn src end scratch (literal (kind_number kind) place (unit.Text value stop from after))
          (literal_plan
          (text_draft (if left then Kind.StringPart else kind) place (making_of value) at (length value) stop from)
          left
          after)
      unfolding literal literal_plan
      literal-plans kind true from after stop value l e =
          rw (← l) (literal_one Kind.StringPart from after stop (Change.Swap Frame.DoubleQuote) value e)
      literal-plans kind false from after stop value l e =
          rw (← l) (literal_one kind from after stop Change.Keep value e)

      -- a mode's text, or a literal of a kind
      read_plans_as : (kind : Option Kind) (from after : ℕ) (stop : Stop) (value : List ℕ)
          → unit.text_at mode (label_bytes src label) end at (drop at src) ≡ unit.Text value stop from after
          → PlansIn src end scratch (read_as place at (drop at src) kind mode (unit.Text value stop from after))
          (text_read_plan kind mode place (making_of value) at (length value) stop from after)
      unfolding text_read_plan text_work text-scans.measured read_as
      read_plans_as None from after stop value e =
          let xs = drop at src in
          let whole = unit.text_at mode (label_bytes src label) end at xs in
          let found = unit.Text value stop from after in
          let within = unit-inside.text_inside mode (label_bytes src label) end at xs in
          read-plans mode src end at
          (λ len. text_draft Kind.StringPart at (text_making mode label (is_held mode len (length scratch))) at len) whole
          (text_makes Kind.StringPart at) (faults mode) found e (rw e at (rw (all_left src at here.inside) at within))
      read_plans_as (Some kind) from after stop value e = literal-plans kind (is_left stop) from after stop value refl e

      text_plans : (r : unit.Reading) → unit.text_at mode (label_bytes src label) end at (drop at src) ≡ r
          → PlansIn src end scratch (text_read mode place at (drop at src) r)
          (read_plan mode place label at (length scratch) (text-scans.measured r))
      unfolding read_plan text_work text-scans.measured
      text_plans (unit.Text value stop from after) e =
          let xs = drop at src in
          let found = unit.Text value stop from after in
          rw (text_read_as place at xs mode found) (read_plans_as (literal_kind mode) from after stop value e)
      text_plans (unit.Refused refusal fault) e =
          rw (text_read_refused place at (drop at src) mode refusal fault) (refused_plans src end refusal fault)
      text_plans unit.Wait e = rw (text_read_waits place at (drop at src) mode) (wait_plans src end)

  module _ (part : List ℕ) (p : part ≡ label_bytes src label) (dst : List ℕ) (scan : Scanned)
      (s : text-scans.Scans mode src part at end dst scan scratch) where
    pub text_placed : Placed at scan
    text_placed = rw (s.told, p) (reading_placed mode at (length src) (drop at src) _ text-read)

    pub text_planned : (place : ℕ) (r : Plan Refusal) → r ≡ read_plan mode place label at (length scratch) scan
        → PlansIn src end scratch (read_text mode src label end place at) r
    text_planned place r e =
        let holds : Holds mode src label end at scratch =
        λ value v h. held_value mode src part at end dst scan scratch value s (rw p v) h in
        rw (e, s.told, p) (text_plans holds place _ refl)

pub ruleset texts = (named_short, text_placed, text_planned)
