-- An answer and a turn as numbers, on each way through the functions that write them. Assumes nothing.
--   session_told                  of a host's numbers the slice is changed where the call is not refused
--   turned_refused, turned_done   a turn written back, by its answer
--   turned_one                    two results that meet one statement are equal
use Prim.Native.Nat.{ℕ}
use mathlib.Core.Path.{◌≡◌, refl, sym, ◌∙◌}
use mathlib.Core.Logic.{◌⊎◌, inl, inr}
use mathlib.Core.List.{List}
use borrow.Author.Tests.{eq-eqb, ne_eqb}
use Rattle.byte.specs.declared.Refusal.{Refusal}
use Rattle.byte.specs.Laid.{laid}
use Rattle.byte.specs.Refusals.{number_of}
use Rattle.byte.proofs.Refusals.{number_of_some}
use Rattle.source.specs.declared.Span.{Span}
use Rattle.state.specs.declared.Answer.{Answer}
use Rattle.state.specs.declared.Turn.{Turn}
use Rattle.layout.specs.Sessions.{numbers_of}
use Rattle.layout.specs.Answers.{answer_by, answer_numbers, refusal_by, unless_refused}
use Rattle.layout.specs.Answers.{session_by, session_after, Turned}

-- a turn written back
module _ {R : Type 0} (number_by : R → ℕ) (t : Turn R) (session answer answer' : List ℕ) (r : ℕ) (e : r ≡ refusal_by number_by t.answer)
    (a : answer' ≡ laid answer 0 (answer_by number_by t.answer)) where
  pub turned_shut : (r ≡ 0 → ⊥) → Turned number_by t session answer r session answer'
  turned_shut z = record { number = e; holds = rw (← e, ne_eqb r 0 z); tells = a }

  pub turned_open : r ≡ 0 → (session' : List ℕ) → session' ≡ laid session 0 (numbers_of t.session)
      → Turned number_by t session answer r session' answer'
  turned_open z session' f = record { number = e; holds = rw (← e, eq-eqb r 0 z) f; tells = a }

pub ruleset turned = (turned_shut, turned_open)

-- of a refusal that is named, and of a call that is not refused
module _ (t : Turn Refusal) (session answer answer' : List ℕ)
    (a : answer' ≡ laid answer 0 (answer_numbers t.answer)) where
  pub turned_refused : (refusal : Refusal) (span : Span) (number : ℕ) → t.answer ≡ Answer.Refused refusal span
      → number ≡ number_of refusal → Turned number_of t session answer number session answer'
  unfolding refusal_by
  turned_refused refusal span number e n =
      record { number = rw (e, n); holds = rw (e, number_of_some refusal); tells = a }

  module _ (session' : List ℕ) (f : session' ≡ laid session 0 (numbers_of t.session)) where
    pub turned_done : (t.answer ≡ Answer.Done) ⊎ (t.answer ≡ Answer.Finished)
        → Turned number_of t session answer 0 session' answer'
    unfolding refusal_by
    turned_done (inl e) = turned_open number_of t session answer answer' 0 (rw e refl) a refl session' f
    turned_done (inr e) = turned_open number_of t session answer answer' 0 (rw e refl) a refl session' f

pub session_told : (t : Turn Refusal) (session : List ℕ) → session_by number_of t session ≡ session_after t session
unfolding refusal_by unless_refused
session_told t session = go t.answer refl
  where
    go : (a : Answer Refusal) → t.answer ≡ a → session_by number_of t session ≡ session_after t session
    go Answer.Done e = rw e
    go Answer.Finished e = rw e
    go (Answer.Refused refusal span) e = rw (e, number_of_some refusal)

pub turned_one : {R : Type 0} (number_by : R → ℕ) (t : Turn R) (session answer : List ℕ) (r r' : ℕ) (s s' a a' : List ℕ)
    → Turned number_by t session answer r s a
    → Turned number_by t session answer r' s' a' → (r ≡ r') × (s ≡ s') × (a ≡ a')
turned_one number_by t session answer r r' s s' a a' x y =
    (x.number ∙ sym y.number, x.holds ∙ sym y.holds, x.tells ∙ sym y.tells)
