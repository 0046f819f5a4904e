-- Scans and their plans: what a scan found makes the outcome of what was read. Assumes nothing.
--   read-plans, number_plans   the plan of a reading that was measured makes its outcome
--   .. -arm                    the same on each arm of a match on the scan
use Rattle.std.specs.Prelude.{Option, Some, None}
use Prim.Native.Nat.{ℕ, ◌+◌, ◌-◌, ◌≤◌}
use Rattle.byte.specs.declared.Refusal.{Refusal}
use mathlib.Core.Path.{◌≡◌, refl, sym, ◌∙◌}
use mathlib.Core.Bool.{Bool}
use mathlib.Core.List.{List, []}
use native.Mathlib.Omega.{arith}
use lib.Dec.{eqb}
use lib.ListN.{length, take, drop, length-drop}
use lib.Seq.{drop-drop}
use borrow.Author.Tests.{eqb-true}
use Rattle.byte.proofs.Tests.{choice}
use Rattle.state.specs.declared.Label.{Label}
use Rattle.state.specs.declared.Reading as session
use Rattle.state.specs.Bounds.{label_bytes}
use Rattle.token.specs.declared.Kind.{Kind}
use Rattle.token.specs.Kinds.{kind_number, string_part}
use Rattle.unit.specs.declared.Mode.{Mode}
use Rattle.unit.specs.declared.Stop.{Stop}
use Rattle.unit.specs.Readings as unit
use Rattle.unit.proofs.Inside as unit-inside
use Rattle.text.specs.declared.Scanned.{Scanned}
use Rattle.text.specs.Code as text-scans
use Rattle.outcome.specs.declared.Change.{Change}
use Rattle.number.specs.declared.Scanned as number
use Rattle.number.specs.Numbers as numbers
use Rattle.number.proofs.Values.{number_at_inside, number_at_value_of}
use Rattle.sheet.specs.Code.{blank_of}
use Rattle.sheet.specs.Sheets.{sheet_at}
use Rattle.sheet.proofs.Inside.{SheetStands, StandsSheet, sheet_stands, sheet_inside, sheet_faults}
use Rattle.sheet.proofs.Writes.{sheet_copied}
use Rattle.outcome.specs.Outcomes.{piece}
use Rattle.outcome.specs.Texts.{slice, stop_detail, stop_change, texted, literal, numbered}
use Rattle.outcome.specs.Steps.{nowdoc}
use Rattle.plan.specs.declared.Making.{Making}
use Rattle.plan.specs.declared.Draft.{Draft}
use Rattle.plan.specs.declared.Plan.{Plan}
use Rattle.plan.specs.Code.{made_by, outcome_of, Here, PlansIn, Plans, copied_draft, one_plan}
use Rattle.drafts.specs.Code.{stop_kind, number_kind, made_draft, sheet_draft, text_plan, text_work}
use Rattle.drafts.specs.Code.{number_plan, number_work}
use Rattle.plan.proofs.Plans.{named_short, copied_ready}
use Rattle.drafts.proofs.KindNumbers.{stop_numbered, number_numbered}
use Rattle.drafts.proofs.Drafts.{Makes, copied_makes, made_makes, one_plans, parted_plans}

-- a part of the text from `at` on is a part of the source
slice_source : (src : List ℕ) (at from after : ℕ) → at ≤ from → slice at (drop at src) from after ≡ take (after - from) (drop from src)
unfolding slice
slice_source src at from after low =
    let n : at + (from - at) ≡ from = omega arith in
    rw (drop-drop (from - at) at src, n)

pub all_left : (src : List ℕ) (at : ℕ) → at ≤ length src → at + length (drop at src) ≡ length src
all_left src at h = rw (length-drop at src) (omega arith)

-- the text that a scan measured
pub record Measures (r : unit.Reading) (len : ℕ) (stop : Stop) (from after : ℕ) : Type 0 where
  pub value : List ℕ
  pub same : r ≡ unit.Text value stop from after
  pub size : len ≡ length value

pub measures : (scan : Scanned) (r : unit.Reading) (len : ℕ) (stop : Stop) (from after : ℕ)
    → scan ≡ text-scans.measured r
    → scan ≡ Scanned.Text len stop from after → Measures r len stop from after
unfolding text-scans.measured
measures scan (unit.Text value stop' from' after') len stop from after s a =
    let z : Scanned.Text len stop from after ≡ Scanned.Text (length value) stop' from' after' = sym a ∙ s in
    let v : stop' ≡ stop = cc in
    let x : from' ≡ from = cc in
    let y : after' ≡ after = cc in
    let w : len ≡ length value = cc in
    record { value = value; same = rw (v, x, y); size = w }
measures scan (unit.Refused refusal place) len stop from after s a =
    let z : Scanned.Text len stop from after ≡ Scanned.Refused refusal place = sym a ∙ s in
    absurd (let y : ◌≡◌ {A = ℕ} 0 1 = cc in omega arith)
measures scan unit.Wait len stop from after s a =
    let z : Scanned.Text len stop from after ≡ Scanned.Wait = sym a ∙ s in
    absurd (let y : ◌≡◌ {A = ℕ} 0 1 = cc in omega arith)

-- a reading whose texts make such drafts makes the outcome of a text
module _ {scratch : List ℕ} (mode : Mode) (src : List ℕ) (end : Bool) (at : ℕ) (draft : ℕ → Stop → ℕ → Draft)
    (read : unit.Reading)
    (makes : (value : List ℕ) (stop : Stop) (from after : ℕ) → read ≡ unit.Text value stop from after
    → Makes src end scratch (piece string_part at value) (draft (length value) stop from))
    (refusals : List Refusal) where
  pub read-plans : (r : unit.Reading) → read ≡ r → unit-inside.InsideReading refusals at (length src) r
      → PlansIn src end scratch (texted mode at (drop at src) r) (text_work mode draft (text-scans.measured r))
  unfolding texted text_work text_plan text-scans.measured made_by outcome_of
  read-plans (unit.Text value stop from after) e i =
      rw (slice_source src at from after (omega (arith, i.narrow)), ← stop_numbered mode stop)
      (parted_plans src end after (stop_change stop) string_part at value _
      (λ k. copied_draft (kind_number (stop_kind mode stop)) (stop_detail stop) k from after)
      (makes value stop from after e)
      (λ k. copied_ready src end (kind_number (stop_kind mode stop)) (stop_detail stop) k from after i.order i.inside))
  read-plans (unit.Refused refusal place) e i = record { told = refl; ready = tt }
  read-plans unit.Wait e i = record { told = refl; ready = tt }

  scan_plans : unit-inside.InsideReading refusals at (length src) read → (scan arm : Scanned) → scan ≡ text-scans.measured read → scan ≡ arm
      → (r : Plan Refusal) → r ≡ text_work mode draft arm → PlansIn src end scratch (texted mode at (drop at src) read) r
  scan_plans i scan arm s a r e =
      let work : r ≡ text_work mode draft (text-scans.measured read) = e ∙ rw (← a, s) in
      rw work (read-plans read refl i)

-- ---- sheets

module _ (src : List ℕ) (label : Label) (end : Bool) (at : ℕ) (here : Here src at) where
  sheet_read : StandsSheet (length (label_bytes src label)) at (length src) (drop at src)
      (sheet_at (label_bytes src label) end at (drop at src))
  sheet_read = rw (all_left src at here.inside) at (sheet_stands (label_bytes src label) end at (drop at src))

  sheet_makes : (value : List ℕ) (stop : Stop) (from after : ℕ)
      → sheet_at (label_bytes src label) end at (drop at src) ≡ unit.Text value stop from after
      → Makes src end [] (piece string_part at value) (sheet_draft at (length value) stop from)
  unfolding sheet_draft stop_detail made_by
  sheet_makes value stop from after e =
      let x : SheetStands (length (label_bytes src label)) at (length src) (drop at src) value stop from after = rw e at sheet_read in
      rw x.label
      (choice (Makes src end [] (piece string_part at value)) (eqb x.amount 0) _ _
      (λ t. copied_makes src end Kind.StringPart at value at (length value) (omega (arith, x.narrow, x.sized, x.inside))
      (sheet_copied (length (label_bytes src label)) at (length src) (drop at src) value stop from after x (eqb-true _ _ t)))
      (λ t. made_makes src end Kind.StringPart at value (Making.Sheet (blank_of (Stop.Label x.ind x.amount)) x.amount) at (from - x.amount)
      (record { order = omega (arith, x.narrow); inside = omega (arith, x.sized, x.inside) })
      (sym x.same)))

  module _ (part : List ℕ) (p : part ≡ label_bytes src label) (scan : Scanned)
      (s : scan ≡ text-scans.measured (sheet_at part end at (drop at src))) where
    pub sheet_arm : (arm : Scanned) (r : Plan Refusal) → scan ≡ arm → r ≡ text_work Mode.Nowdoc (sheet_draft at) arm
        → Plans src end (nowdoc session.Reading.Sheet (label_bytes src label) end at (drop at src)) r
    unfolding nowdoc
    sheet_arm arm r a e =
        scan_plans Mode.Nowdoc src end at (sheet_draft at) (sheet_at (label_bytes src label) end at (drop at src)) sheet_makes sheet_faults
        (rw (all_left src at here.inside) at (sheet_inside (label_bytes src label) end at (drop at src))) scan arm (s ∙ rw p) a r e

    module _ (len : ℕ) (stop : Stop) (from after : ℕ) (a : scan ≡ Scanned.Text len stop from after) where
      pub sheet_parted : (d : Draft) (r : Plan Refusal) → d ≡ sheet_draft at len stop from → r ≡ text_plan Mode.Nowdoc d stop from after
          → Plans src end (nowdoc session.Reading.Sheet (label_bytes src label) end at (drop at src)) r
      unfolding text_work
      sheet_parted d r m e = sheet_arm (Scanned.Text len stop from after) r a (e ∙ rw m)

      sheet_found : Measures (sheet_at (label_bytes src label) end at (drop at src)) len stop from after
      sheet_found = measures scan _ len stop from after (s ∙ rw p) a

      sheet_placed : SheetStands (length (label_bytes src label)) at (length src) (drop at src) sheet_found.value stop from after
      sheet_placed = rw sheet_found.same at sheet_read

      pub sheet_fits : at + len + stop_detail stop ≤ from
      unfolding stop_detail
      sheet_fits = rw sheet_placed.label (omega (arith, sheet_found.size, sheet_placed.narrow))

      pub sheet_order : from ≤ after
      sheet_order = omega (arith, sheet_placed.sized)

pub ruleset sheeting = (named_short, sheet_arm, sheet_parted, sheet_fits, sheet_order)

-- ---- numbers

module _ (place : ℕ) (src : List ℕ) (end : Bool) (at : ℕ) (here : Here src at) where
  number_plans : (r : numbers.Reading) → numbers.number_at end at (drop at src) ≡ r
      → Plans src end (numbered place r) (number_work place at (numbers.scanned r))
  unfolding numbered number_work number_plan numbers.scanned made_by outcome_of
  number_plans (numbers.Reading.Number literal value after) e =
      let inside = number_at_inside end at (drop at src) literal value after e in
      let high : after ≤ length src = omega (arith, inside.1, all_left src at here.inside) in
      rw (number_at_value_of end src at literal value after e, ← number_numbered literal)
      (one_plans src end after Change.Keep
      (made_draft (number_kind literal) place Making.Number at after (length (numbers.value_of src at after)))
      (record { size = refl; able = record { order = inside.0; inside = high } }))
  number_plans numbers.Reading.Wait e = record { told = refl; ready = tt }

  module _ (scan : Option number.Scanned) (s : scan ≡ numbers.scanned (numbers.number_at end at (drop at src))) where
    number_arm : (arm : Option number.Scanned) (r : Plan Refusal) → scan ≡ arm → r ≡ number_work place at arm
        → Plans src end (numbered place (numbers.number_at end at (drop at src))) r
    number_arm arm r a e =
        let work : r ≡ number_work place at (numbers.scanned (numbers.number_at end at (drop at src))) = e ∙ rw (← a, s) in
        rw work (number_plans (numbers.number_at end at (drop at src)) refl)

    pub number_found : (found : number.Scanned) (kind : Kind) (d : Draft) (r : Plan Refusal) → scan ≡ Some found
        → kind ≡ number_kind found.literal → d ≡ made_draft kind place Making.Number at found.after found.len
        → r ≡ one_plan d found.after Change.Keep
        → Plans src end (numbered place (numbers.number_at end at (drop at src))) r
    unfolding number_work number_plan
    number_found found kind d r a k m e = number_arm (Some found) r a (e ∙ rw (m, k))

    pub number_wait : scan ≡ None → Plans src end (numbered place (numbers.number_at end at (drop at src))) Plan.Wait
    unfolding number_work
    number_wait a = number_arm None Plan.Wait a refl

pub ruleset numbering = (number_found, number_wait)
