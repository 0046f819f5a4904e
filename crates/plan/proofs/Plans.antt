-- The plans that the modes make, and the outcomes that they stand for. Assumes nothing.
use Rattle.std.specs.Prelude.{if◌then◌else◌}
use Prim.Native.Nat.{ℕ, suc, ◌+◌, ◌-◌, ◌≤◌}
use Rattle.byte.specs.declared.Refusal.{Refusal}
use mathlib.Core.Path.{◌≡◌, refl, sym, ◌∙◌}
use mathlib.Core.Bool.{Bool, true, false}
use mathlib.Core.List.{List, [], ◌∷◌, ◌++◌}
use native.Mathlib.Omega.{arith}
use native.Mathlib.Numerals.{add-one}
use lib.ListN.{length, drop, length-take, length-drop}
use lib.Seq.{take-nil}
use borrow.Author.Tests.{eq-eqb, ne_eqb}
use Rattle.state.specs.declared.Label.{Label}
use Rattle.state.specs.Bounds.{label_bytes}
use Rattle.outcome.specs.declared.Change.{Change}
use Rattle.outcome.specs.Outcomes.{Outcome, unless_empty, goes, ending}
use Rattle.outcome.specs.Lookings.{token}
use Rattle.plan.specs.declared.Making.{Making}
use Rattle.plan.specs.declared.Draft.{Draft}
use Rattle.plan.specs.declared.Plan.{Plan}
use Rattle.plan.specs.Code.{made_by, made, piece_of, pieces, outcome_of, Named, Able, Ready, AllReady, PlanReady}
use Rattle.plan.specs.Code.{PlansIn, Plans}
use Rattle.plan.specs.Code.{copied_draft, drafts_of}
use Rattle.plan.specs.Code.{goes_plan, one_plan, parted_plan, ending_plan}

pub named_short : (src : List ℕ) (label : Label) (part : List ℕ) → Named src label → part ≡ label_bytes src label
    → length part ≤ 64
named_short src label part name e = rw e (simp (length-take, length-drop) (omega (arith, name.short)))

-- bytes of the source can be copied
pub copied_ready : {scratch : List ℕ} (src : List ℕ) (end : Bool) (kind detail place from to : ℕ) → from ≤ to
    → to ≤ length src
    → Ready src end scratch (copied_draft kind detail place from to)
unfolding made_by
copied_ready src end kind detail place from to h i =
    record {
      size = sym (rw (length-take (to - from) (drop from src), length-drop from src) (omega arith));
      able = record { order = h; inside = i };
    }

-- k bytes from `at` on as a token
pub token_plans : (src : List ℕ) (end : Bool) (kind at k : ℕ) (change : Change) → at + k ≤ length src
    → Plans src end (token kind at (drop at src) k change) (one_plan (copied_draft kind 0 at at (at + k)) (at + k) change)
unfolding made_by outcome_of pieces
token_plans src end kind at k change inside =
    let n : at + k - at ≡ k = omega arith in
    record {
      told = rw n;
      ready = record { few = omega arith; all = (copied_ready src end kind 0 at at (at + k) (omega arith) inside, tt) };
    }

-- plans that write nothing, refuse or wait
module _ (src : List ℕ) (end : Bool) where
  pub goes_plans : (after : ℕ) (change : Change) → Plans src end (goes after change) (goes_plan after change)
  unfolding outcome_of pieces
  goes_plans after change = record { told = refl; ready = record { few = omega arith; all = tt } }

  pub refused_plans : {scratch : List ℕ} (refusal : Refusal) (place : ℕ)
      → PlansIn src end scratch (Outcome.Refused refusal place) (Plan.Refused refusal place)
  unfolding outcome_of
  refused_plans refusal place = record { told = refl; ready = tt }

  pub wait_plans : {scratch : List ℕ} → PlansIn src end scratch Outcome.Wait Plan.Wait
  unfolding outcome_of
  wait_plans = record { told = refl; ready = tt }

  -- a choice that a test decides
  pub either_plans : (t : Bool) (o o' : Outcome) (p p' : Plan Refusal) → Plans src end o p → Plans src end o' p'
      → Plans src end (if t then o else o') (if t then p else p')
  either_plans true o o' p p' first other = first
  either_plans false o o' p p' first other = other

  pub ending_plans : (o : Outcome) (p : Plan Refusal) → Plans src end o p → Plans src end (ending end o) (ending_plan end p)
  ending_plans o p h = either_plans end o Outcome.Wait p Plan.Wait h wait_plans

  -- a sign is passed; nothing is left after it
  module _ (at : ℕ) (r : Plan Refusal) where
    pub sign_plans : r ≡ goes_plan (at + 1) Change.Keep → Plans src end (goes (suc at) Change.Keep) r
    sign_plans e = rw (e, add-one at) (goes_plans (suc at) Change.Keep)

    pub last_sign_plans : (p : Plan Refusal) → p ≡ goes_plan (at + 1) Change.Keep → r ≡ ending_plan end p
        → Plans src end (ending end (goes (suc at) Change.Keep)) r
    last_sign_plans p e f =
        rw (f, e, add-one at) (ending_plans (goes (suc at) Change.Keep) (goes_plan (suc at) Change.Keep) (goes_plans (suc at) Change.Keep))

-- a part, if it is not empty, and the token after it
module _ {scratch : List ℕ} (src : List ℕ) (end : Bool) (part d : Draft) (after : ℕ) (change : Change) where
  parted_value : (value : List ℕ) → made src end part ≡ value → part.detail ≡ 0 → Ready src end scratch part
      → Ready src end scratch d
      → PlansIn src end scratch
      (Outcome.Told (unless_empty part.kind part.place value ++ piece_of src end d ∷ []) after change false)
      (parted_plan part d after change)
  unfolding outcome_of pieces unless_empty
  parted_value [] v z p q =
      let e : part.len ≡ 0 = p.size ∙ rw v in
      rw (eq-eqb part.len 0 e) (record { told = refl; ready = record { few = omega arith; all = (q, tt) } })
  parted_value (b ∷ rest) v z p q =
      let e : part.len ≡ suc (length rest) = p.size ∙ rw v in
      rw (ne_eqb part.len 0 (λ y. omega arith)) (record { told = rw (v, z); ready = record { few = omega arith; all = (p, (q, tt)) } })

  pub parted_plans : part.detail ≡ 0 → Ready src end scratch part → Ready src end scratch d
      → PlansIn src end scratch
      (Outcome.Told (unless_empty part.kind part.place (made src end part) ++ piece_of src end d ∷ []) after change false)
      (parted_plan part d after change)
  parted_plans z p q = parted_value (made src end part) refl z p q

-- what needs no scratch part can be written with any: a value that is held in none has no bytes
module _ (src : List ℕ) (end : Bool) (scratch : List ℕ) where
  able_in : (making : Making) (from to len : ℕ) (value : List ℕ) → len ≡ length value
      → Able making src [] from to len value
      → Able making src scratch from to len value
  able_in Making.Copied from to len value e a = a
  able_in (Making.Held mode label) from to len value e a =
      let none : [] ≡ value = sym (take-nil len) ∙ a.same in
      let z : len ≡ 0 = e ∙ rw (← none) in
      record { block = a.block; same = rw (z, ← none) }
  able_in (Making.Text mode label) from to len value e a = a
  able_in Making.Number from to len value e a = a
  able_in (Making.Sheet blank width) from to len value e a = a

  all_in : (drafts : List Draft) → AllReady drafts src end [] → AllReady drafts src end scratch
  all_in [] r = tt
  all_in (d ∷ more) r = (
    record {
      size = r.0.size;
      able = able_in d.making d.from d.to d.len (made src end d) r.0.size
          r.0.able;
    },
    all_in more r.1,
  )

  ready_in : (r : Plan Refusal) → PlanReady r src end [] → PlanReady r src end scratch
  ready_in (Plan.Told w) r = record { few = r.few; all = all_in (drafts_of w.drafts) r.all }
  ready_in (Plan.Refused refusal place) r = tt
  ready_in Plan.Wait r = tt

  pub plans_in : (o : Outcome) (r : Plan Refusal) → Plans src end o r → PlansIn src end scratch o r
  plans_in o r p = record { told = p.told; ready = ready_in r p.ready }

-- plans that meet one statement make one outcome: they may differ in how a value comes about, and in nothing that is written
pub plans_one : (src : List ℕ) (end : Bool) (scratch scratch' : List ℕ) (o : Outcome) (r r' : Plan Refusal) → PlansIn src end scratch o r
    → PlansIn src end scratch' o r' → outcome_of src end r ≡ outcome_of src end r'
plans_one src end scratch scratch' o r r' x y = x.told ∙ sym y.told
