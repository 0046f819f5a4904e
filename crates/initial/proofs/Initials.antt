-- The plans of the mode Initial make its outcomes. Assumes nothing.
use Prim.Native.Nat.{ℕ, ◌+◌, ◌-◌, ◌≤◌}
use mathlib.Core.Path.{◌≡◌, refl, sym, ◌∙◌}
use mathlib.Core.Bool.{Bool, true, false}
use mathlib.Core.List.{List, [], ◌∷◌, ◌++◌}
use native.Mathlib.Omega.{arith}
use lib.ListN.{length, take, drop, length-drop}
use lib.Seq.{drop-drop, take_all}
use Rattle.state.specs.declared.Frame.{Frame}
use Rattle.token.specs.declared.Kind.{Kind}
use Rattle.token.specs.Kinds.{kind_number, inline_html}
use Rattle.outcome.specs.declared.Change.{Change}
use Rattle.outcome.specs.declared.OpenTagKind.{OpenTagKind}
use Rattle.outcome.specs.declared.Tagged.{Tagged}
use Rattle.outcome.specs.Outcomes.{Outcome, piece, unless_empty}
use Rattle.outcome.specs.Initials as outcome
use Rattle.outcome.specs.Initials.{tagged, tag_length, inlined, initial}
use Rattle.outcome.proofs.Initials.{TagInside, tagged_inside}
use Rattle.plan.specs.declared.Draft.{Draft}
use Rattle.plan.specs.declared.Drafts.{Drafts}
use Rattle.byte.specs.declared.Refusal.{Refusal}
use Rattle.plan.specs.declared.Plan.{Plan}
use Rattle.plan.specs.Code.{made_by, pieces, outcome_of, Here, Plans, copied_draft, one_draft, parted_plan}
use Rattle.plan.proofs.Plans.{copied_ready, parted_plans}
use Rattle.initial.specs.Code.{tag_kind, tag_plan, over_plan}

tag_numbered : (kind : OpenTagKind) → kind_number (tag_kind kind) ≡ outcome.tag_kind kind
unfolding tag_kind outcome.tag_kind
tag_numbered OpenTagKind.Full = refl
tag_numbered OpenTagKind.Echo = refl
tag_numbered OpenTagKind.Short = refl

pub tag_plan_made : (at place length after : ℕ) (kind : Kind) (tag : OpenTagKind) (text draft : Draft) (r : Plan Refusal)
    → length ≡ tag_length tag → kind ≡ tag_kind tag
    → text ≡ copied_draft inline_html 0 at at place → draft ≡ copied_draft (kind_number kind) 0 place place (place + length)
    → r ≡ parted_plan text draft (place + length) (Change.Swap Frame.Scripting) → r ≡ tag_plan at tag place
tag_plan_made at place length after kind tag text draft r e f g h i = i ∙ rw (g, h, e, f)

pub over_plan_made : (at hi : ℕ) (text : Draft) (drafts : Drafts) → text ≡ copied_draft inline_html 0 at at hi
    → drafts ≡ one_draft text
    → Plan.Told (record { drafts = drafts; after = hi; change = Change.Keep; finished = true }) ≡ over_plan at hi
over_plan_made at hi text drafts e f = rw (f, e)

pub ruleset plans = (tag_plan_made, over_plan_made)

-- the text from `at` up to `place`, and the bytes from there up to `after`
two_copied : (src : List ℕ) (end : Bool) (at place kind len after : ℕ) → at ≤ place → after ≡ place + len → after ≤ length src
    → Plans src end
    (Outcome.Told
    (unless_empty inline_html at (take (place - at) (drop at src)) ++ piece kind place (take len (drop place src)) ∷ [])
    after
    (Change.Swap Frame.Scripting)
    false)
    (parted_plan (copied_draft inline_html 0 at at place) (copied_draft kind 0 place place after) after (Change.Swap Frame.Scripting))
unfolding made_by
two_copied src end at place kind len after h e i =
    let q : len ≡ after - place = omega arith in
    rw q
    (parted_plans src end (copied_draft inline_html 0 at at place) (copied_draft kind 0 place place after) after (Change.Swap Frame.Scripting) refl
    (copied_ready src end inline_html 0 at at place h (omega arith))
    (copied_ready src end kind 0 place place after (omega arith) i))

module _ (src : List ℕ) (at : ℕ) (end : Bool) (here : Here src at) (found : Tagged) (e : found ≡ tagged end at (drop at src)) where
  module _ (kind : OpenTagKind) (place : ℕ) (f : found ≡ Tagged.At kind place) where
    inside : TagInside at (at + length (drop at src)) kind place
    inside = tagged_inside end at (drop at src) kind place (sym e ∙ f)

    size : at + length (drop at src) ≡ length src
    size = rw (length-drop at src) (omega (arith, here.inside))

    pub tag_low : at ≤ place
    tag_low = inside.low

    pub tag_high : place ≤ 65536
    tag_high = omega (arith, inside.high, size, here.short)

    pub initial_tag : (r : Plan Refusal) → r ≡ tag_plan at kind place → Plans src end (initial end at (drop at src)) r
    unfolding initial inlined made_by
    initial_tag r g =
        let p : at + (place - at) ≡ place = omega (arith, inside.low) in
        rw (g, ← e, f, drop-drop (place - at) at src, p, ← tag_numbered kind)
        (two_copied src end at place (kind_number (tag_kind kind)) (tag_length kind) (place + tag_length kind) inside.low refl (omega (arith, inside.high, size)))

  pub initial_over : found ≡ Tagged.Over → (r : Plan Refusal) → r ≡ over_plan at (length src) → Plans src end (initial end at (drop at src)) r
  unfolding initial inlined made_by outcome_of pieces
  initial_over f r g =
      let p : at + length (drop at src) ≡ length src = rw (length-drop at src) (omega (arith, here.inside)) in
      let q : length (drop at src) ≤ length src - at = rw (length-drop at src) (omega arith) in
      rw (g, ← e, f)
      (record {
        told = rw (p, take_all (length src - at) (drop at src) q);
        ready =
            record {
              few = omega arith;
              all = (copied_ready src end inline_html 0 at at (length src) here.inside (omega arith), tt);
            };
      })

  pub initial_wait : found ≡ Tagged.Undecided → Plans src end (initial end at (drop at src)) Plan.Wait
  unfolding initial inlined outcome_of
  initial_wait f = rw (← e, f) (record { told = refl; ready = tt })

pub ruleset initials = (tag_low, tag_high, initial_tag, initial_over, initial_wait)
