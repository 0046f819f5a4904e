-- A walk with the session by value: copied to numbers, walked there, and read back. Assumes nothing.
--   unwritten    where nothing is written session, list and pool are those that were passed
--   read-back    what numbers are read as after a walk is the walk's session
--   walk_value   the same for the session by value
use Prim.Native.Nat.{ℕ, zero, suc}
use Rattle.byte.specs.declared.Refusal.{Refusal}
use mathlib.Core.Path.{◌≡◌, refl, sym, ap, subst, ◌∙◌}
use mathlib.Core.Bool.{Bool, true, false, false≢true}
use mathlib.Core.List.{List}
use native.Mathlib.Omega.{arith}
use lib.Dec.{eqb}
use lib.ListN.{length}
use borrow.Author.Tests.{eqb-false}
use mir.Val.{Val}
use denote.Laws.{Is}
use Rattle.lexer.proofs.Nexts.{shut_cases}
use Rattle.byte.specs.Laid.{laid}
use Rattle.byte.proofs.Tests.{choice}
use Rattle.source.specs.declared.Span.{Span}
use Rattle.state.specs.declared.Answer.{Answer}
use Rattle.state.specs.declared.Session.{Session}
use Rattle.state.specs.Gates.{lent_refusal}
use Rattle.state.specs.contracts.Session as session-type
use Rattle.layout.specs.Sessions.{numbers_of, session_in}
use Rattle.layout.specs.Answers.{is_unrefused}
use Rattle.layout.specs.Lent.{Rewritten}
use Rattle.layout.proofs.Again.{session_again}
use Rattle.outcome.specs.declared.Call.{Call}
use Rattle.lexer.specs.Turns.{After, Gives}
use Rattle.lexer.specs.Calls.{called}
use Rattle.demands.specs.Walks.{called_on, is_done}
use Rattle.demands.proofs.Kept.{call_kept}
use Rattle.walk.specs.declared.Ended.{Ended}
use Rattle.walk.specs.Walks.{is_written, Walks}
use Rattle.walk.proofs.Held.{session_held}
use Rattle.walk.proofs.Walks.{called_on_over, is_written_some}

-- an answer that is not unrefused is a refusal
pub told : (a : Answer Refusal) → is_unrefused a ≡ false → (P : Type 0)
    → ((refusal : Refusal) (span : Span) → a ≡ Answer.Refused refusal span → P) → P
told Answer.Done h P f = absurd (false≢true (sym h))
told Answer.Finished h P f = absurd (false≢true (sym h))
told (Answer.Refused refusal span) h P f = f refusal span refl

module _ (call : Call) (src : List ℕ) (end : Bool) (s : Session) (l q : List ℕ) where
  abbrev Same : After → Type 0
  Same a = (a.turn.session ≡ s) × (a.list ≡ l) × (a.pool ≡ q)

  pub unwritten : (most : ℕ) → is_written most (called call src end s l q) ≡ false
      → Same (called_on call most src end s l q)
  unfolding called_on is_done
  unwritten zero e =
      shut_cases Same (lent_refusal src (length l) (length q) s) s l q _ (λ t. (refl, refl, refl))
      (λ refusal t. (refl, refl, refl))
  unwritten (suc n) e =
      let one = called call src end s l q in
      let refused : is_unrefused one.turn.answer ≡ false =
      sym (is_written_some (suc n) one (omega arith)) ∙ e in
      told one.turn.answer refused _ (λ refusal span f.
      let over : is_done one.turn.answer ≡ false = rw f in
      rw (called_on_over call src end s l q (suc n) (omega arith) over)
      ((call_kept src s l q call end).back refusal span f))

module _ (call : Call) (most : ℕ) (src : List ℕ) (end : Bool) (n l q : List ℕ) where
  pub read_back : (n' : List ℕ) → (is_written most (called call src end (session_in n) l q) ≡ false → n' ≡ n)
      → (is_written most (called call src end (session_in n) l q) ≡ true
      → Rewritten n (called_on call most src end (session_in n) l q).turn.session n')
      → session_in n' ≡ (called_on call most src end (session_in n) l q).turn.session
  read_back n' stays holds = go (is_written most (called call src end (session_in n) l q)) refl
    where
      go : (t : Bool) → is_written most (called call src end (session_in n) l q) ≡ t
          → session_in n' ≡ (called_on call most src end (session_in n) l q).turn.session
      go true z = (holds z).reads
      go false z = ap session_in (stays z) ∙ sym (unwritten call src end (session_in n) l q most z).0

module _ (call : Call) (most : ℕ) (src : List ℕ) (end : Bool) (s : Session) (lent l q : List ℕ) (a : Ended)
    (n n' l' q' : List ℕ) (r : Session)
    (vs : List Val) (h : Is session-type.the_row s vs) (e : n ≡ laid lent 0 (numbers_of s))
    (w : Walks call most src end n l q a n' l' q') (f : r ≡ session_in n') where
  again : session_in n ≡ s
  again = rw e (session_again s (session_held s vs h) lent)

  pub walk_value : Gives (called_on call most src end s l q) (record { answer = a.answer; session = r }) l' q'
  walk_value =
      let back = f ∙ read_back call most src end n l q n' w.stays w.holds in
      subst
      (λ (x : Session). Gives (called_on call most src end x l q) (record { answer = a.answer; session = r }) l' q') again
      (record { turn = rw (w.answer, back); list = w.list; pool = w.pool })
