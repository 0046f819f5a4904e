-- Demand 1: where a step or a reading refuses, session, list and pool are those that were passed; and one result: two results that
-- meet one statement are equal. Assumes nothing.
--   call_kept                  a refusal keeps everything
--   gives_one, committed_one   one result, for every call, and for commit
use Prim.Native.Nat.{ℕ}
use Rattle.byte.specs.declared.Refusal.{Refusal}
use mathlib.Core.Path.{◌≡◌, refl, sym, ◌∙◌}
use mathlib.Core.Bool.{Bool, true, false}
use mathlib.Core.List.{List}
use native.Mathlib.Omega.{arith}
use lib.Dec.{eqb}
use lib.ListN.{length}
use Rattle.lexer.proofs.Nexts.{shut_cases}
use Rattle.byte.specs.Refusals.{wait}
use Rattle.source.specs.Cursor.{origin}
use Rattle.source.specs.declared.Span.{Span}
use Rattle.byte.proofs.Tests.{choice}
use Rattle.state.specs.declared.Answer.{Answer}
use Rattle.state.specs.declared.Session.{Session}
use Rattle.state.specs.declared.Turn.{Turn}
use Rattle.state.specs.Calls.{span_of}
use Rattle.state.specs.Gates.{lent_refusal}
use Rattle.outcome.specs.declared.Call.{Call}
use Rattle.outcome.specs.Outcomes.{Outcome}
use Rattle.outcome.specs.Steps.{call_outcome}
use Rattle.commit.specs.declared.Mark.{Mark}
use Rattle.commit.specs.declared.Next.{Next}
use Rattle.commit.specs.Records.{answer_of}
use Rattle.commit.specs.Code.{Committed}
use Rattle.lexer.specs.Turns.{After, Gives, refusing}
use Rattle.lexer.specs.Calls.{called}
use Rattle.lexer.proofs.Nexts.{settled_cases}

pub record Kept (s : Session) (l q : List ℕ) (a : After) : Type 0 where
  pub back : (refusal : Refusal) (span : Span) → a.turn.answer ≡ Answer.Refused refusal span
      → (a.turn.session ≡ s) × (a.list ≡ l) × (a.pool ≡ q)

finished_told : {refusal : Refusal} {span : Span} → Answer.Finished ≡ Answer.Refused refusal span → ⊥
finished_told e = let z : ◌≡◌ {A = ℕ} 0 1 = cc in omega arith

pub done_told : {refusal : Refusal} {span : Span} → Answer.Done ≡ Answer.Refused refusal span → ⊥
done_told e = let z : ◌≡◌ {A = ℕ} 0 1 = cc in omega arith

pub answer_told : (finished : Bool) (refusal : Refusal) (span : Span) → answer_of finished ≡ Answer.Refused refusal span → ⊥
answer_told true refusal span e = finished_told e
answer_told false refusal span e = done_told e

module _ (src : List ℕ) (s : Session) (l q : List ℕ) where
  refusing_kept : (refusal : Refusal) (span : Span) → Kept s l q (refusing refusal span s l q)
  refusing_kept refusal span = record { back = λ n p e. (refl, refl, refl) }

  pub call_kept : (call : Call) (end : Bool) → Kept s l q (called call src end s l q)
  unfolding called
  call_kept call end =
      shut_cases (Kept s l q) (lent_refusal src (length l) (length q) s) s l q _
      (λ e.
      settled_cases src s l q (λ o. Kept s l q)
      (λ pieces after change finished e. record { back = λ n p e. absurd (answer_told finished n p e) })
      (λ pieces after change finished refusal e. refusing_kept refusal (span_of s)) (λ refusal place. refusing_kept refusal _)
      (refusing_kept wait (span_of s)) (call_outcome call src end s))
      (λ refusal e. refusing_kept refusal origin)

pub gives_one : (a : After) (r r' : Turn Refusal) (l l' q q' : List ℕ) → Gives a r l q → Gives a r' l' q' → (r ≡ r') × (l ≡ l') × (q ≡ q')
gives_one a r r' l l' q q' x y = (x.turn ∙ sym y.turn, x.list ∙ sym y.list, x.pool ∙ sym y.pool)

pub committed_one : (src : List ℕ) (m : Mark) (l q : List ℕ) (o : Outcome) (r r' : Next Refusal) (l₁ l₂ q₁ q₂ : List ℕ)
    → Committed src m l q o r l₁ q₁ → Committed src m l q o r' l₂ q₂ → (r ≡ r') × (l₁ ≡ l₂) × (q₁ ≡ q₂)
committed_one src m l q o r r' l₁ l₂ q₁ q₂ x y = (x.next ∙ sym y.next, x.list ∙ sym y.list, x.pool ∙ sym y.pool)
