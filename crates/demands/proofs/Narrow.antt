-- The value bytes of a step are no more than the bytes it passed, and the cursor never goes back. Assumes nothing.
use Prim.Native.Nat.{ℕ, ◌+◌, ◌≤◌}
use mathlib.Core.Bool.{Bool}
use mathlib.Core.List.{List}
use native.Mathlib.Omega.{arith}
use lib.Dec.{eqb}
use lib.ListN.{length}
use Rattle.lexer.proofs.Nexts.{shut_cases}
use Rattle.byte.proofs.Tests.{choice}
use Rattle.state.specs.declared.Session.{Session}
use Rattle.state.specs.Calls.{span_of}
use Rattle.state.specs.Gates.{lent_refusal}
use Rattle.outcome.specs.declared.Call.{Call}
use Rattle.outcome.specs.Outcomes.{Outcome}
use Rattle.outcome.specs.Insides.{Inside}
use Rattle.outcome.specs.Steps.{call_outcome}
use Rattle.outcome.proofs.StepWays.{call_inside}
use Rattle.lexer.specs.Turns.{After, settled}
use Rattle.lexer.specs.Calls.{called}
use Rattle.lexer.proofs.Nexts.{settled_cases}
use Rattle.demands.proofs.Rising.{span_place}

-- of the session before and the one after; as sums, since a difference of numbers is never below 0
pub record Narrow (s t : Session) : Type 0 where
  pub forward : s.position ≤ t.position
  pub bytes : t.bytes + s.position ≤ s.bytes + t.position

module _ (src : List ℕ) (s : Session) (l q : List ℕ) (h : s.position ≤ length src) where
  abbrev NarrowAfter : After → Type 0
  NarrowAfter a = Narrow s a.turn.session

  same : Narrow s s
  same = record { forward = omega arith; bytes = omega arith }

  pub settled_narrow : (o : Outcome) → Inside s.position (length src) o → NarrowAfter (settled src s l q o)
  settled_narrow =
      settled_cases src s l q (λ o a. Inside s.position (length src) o → NarrowAfter a)
      (λ pieces after change finished e i.
      let there = span_place src (span_of s) after i.order i.inside in
      record { forward = omega (arith, there, i.order); bytes = omega (arith, there, i.narrow) })
      (λ pieces after change finished refusal e i. same) (λ refusal place i. same) (λ i. same)

  pub call_narrow : (call : Call) (end : Bool) → NarrowAfter (called call src end s l q)
  unfolding called
  call_narrow call end =
      shut_cases NarrowAfter (lent_refusal src (length l) (length q) s) s l q _
      (λ e. settled_narrow (call_outcome call src end s) (call_inside call src end s h)) (λ refusal e. same)
