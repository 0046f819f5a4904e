-- The plans at the opening of a text block make its outcomes. Assumes nothing.
use Prim.Native.Nat.{ℕ, ◌+◌, ◌≤◌, ◌<◌}
use mathlib.Core.Path.{◌≡◌, sym, ◌∙◌}
use mathlib.Core.Bool.{Bool}
use mathlib.Core.List.{List}
use native.Mathlib.Omega.{arith}
use lib.ListN.{length, drop, length-drop}
use Rattle.state.specs.declared.Frame.{Frame}
use Rattle.state.specs.declared.Label.{Label}
use Rattle.outcome.specs.declared.Change.{Change}
use Rattle.outcome.specs.declared.DocStringKind.{DocStringKind}
use Rattle.outcome.specs.declared.Opening.{Opening}
use Rattle.outcome.specs.Openings.{opening, doc_frame, opened}
use Rattle.outcome.proofs.Openings.{LabelInside, opening_label}
use Rattle.byte.specs.declared.Refusal.{Refusal}
use Rattle.plan.specs.declared.Plan.{Plan}
use Rattle.plan.specs.Code.{Plans, goes_plan}
use Rattle.plan.proofs.Plans.{goes_plans, wait_plans, sign_plans}
use Rattle.opening.specs.Code.{block_plan}

pub doc_frame_arm : (kind arm : DocStringKind) (label : Label) (r : Frame) → kind ≡ arm → r ≡ doc_frame arm label → r ≡ doc_frame kind label
doc_frame_arm kind arm label r e h = rw e h

pub block_plan_made : (kind : DocStringKind) (start len after : ℕ) (frame : Frame) (r : Plan Refusal)
    → frame ≡ doc_frame kind (record { start = start; len = len }) → r ≡ goes_plan after (Change.Swap frame) → r ≡ block_plan kind start len after
block_plan_made kind start len after frame r e f = f ∙ rw e

module _ (src : List ℕ) (at : ℕ) (end : Bool) (h : at < length src) (small : length src ≤ 65536) where
  module _ (o : Opening) (e : o ≡ opening end (at + 1) (drop (at + 1) src)) where
    module _ (kind : DocStringKind) (start len after : ℕ) (f : o ≡ Opening.Block kind start len after) where
      label : LabelInside (at + 1) (drop (at + 1) src) start len after
      label = opening_label end (at + 1) (drop (at + 1) src) kind start len after (sym e ∙ f)

      pub label_start : start < 65536
      label_start = omega (arith, label.some, label.behind, label.inside, length-drop (at + 1) src)

      pub label_length : len ≤ 64
      label_length = label.most

      pub opened_block : (r : Plan Refusal) → r ≡ block_plan kind start len after
          → Plans src end (opened at (opening end (at + 1) (drop (at + 1) src))) r
      unfolding opened
      opened_block r g =
          rw (g, ← e, f) (goes_plans src end after (Change.Swap (doc_frame kind (record { start = start; len = len }))))

    pub opened_other : (r : Plan Refusal) → o ≡ Opening.Other → r ≡ goes_plan (at + 1) Change.Keep
        → Plans src end (opened at (opening end (at + 1) (drop (at + 1) src))) r
    unfolding opened
    opened_other r f g = rw (← e, f) (sign_plans src end at r g)

    pub opened_wait : o ≡ Opening.Undecided → Plans src end (opened at (opening end (at + 1) (drop (at + 1) src))) Plan.Wait
    unfolding opened
    opened_wait f = rw (← e, f) (wait_plans src end)

pub ruleset blocks = (label_start, label_length, opened_block, opened_other, opened_wait)
