-- No call changes the choices of a session, done or refused. (Skip, push and pop: `Stays`, crate state.) Assumes
-- nothing.
--   call_choices   a step or a reading
--   walk_choices   a walk; calledOn-choices: a call and the steps after it
use Prim.Native.Nat.{ℕ, zero, suc}
use mathlib.Core.Path.{◌≡◌, refl, ◌∙◌}
use mathlib.Core.Bool.{Bool}
use mathlib.Core.List.{List}
use lib.Dec.{eqb}
use lib.ListN.{length}
use Rattle.lexer.proofs.Nexts.{shut_cases}
use Rattle.byte.proofs.Tests.{choice}
use Rattle.state.specs.declared.Session.{Session}
use Rattle.state.specs.Gates.{lent_refusal}
use Rattle.outcome.specs.declared.Call.{Call}
use Rattle.outcome.specs.Steps.{call_outcome}
use Rattle.lexer.specs.Turns.{After}
use Rattle.lexer.specs.Calls.{called, stepped}
use Rattle.lexer.proofs.Nexts.{settled_cases}
use Rattle.demands.specs.Walks.{walked, called_on}
use Rattle.demands.proofs.Rising.{go_on_either}

abbrev Same : Session → After → Type 0
Same s a = a.turn.session.choices ≡ s.choices

pub call_choices : (call : Call) (src : List ℕ) (end : Bool) (s : Session) (l q : List ℕ)
    → (called call src end s l q).turn.session.choices ≡ s.choices
unfolding called
call_choices call src end s l q =
    shut_cases (Same s) (lent_refusal src (length l) (length q) s) s l q _
    (λ e.
    settled_cases src s l q (λ o. Same s) (λ pieces after change finished e. refl)
    (λ pieces after change finished refusal e. refl)
    (λ refusal place. refl) refl (call_outcome call src end s))
    (λ refusal e. refl)

pub walk_choices : (n : ℕ) (src : List ℕ) (end : Bool) (s : Session) (l q : List ℕ)
    → (walked n src end s l q).turn.session.choices ≡ s.choices
unfolding walked
walk_choices zero src end s l q = refl
walk_choices (suc n) src end s l q =
    let now = stepped src end s l q in
    let first = call_choices Call.Step src end s l q in
    go_on_either (Same s) now.turn.answer now (walked n src end now.turn.session now.list now.pool) first
    (walk_choices n src end now.turn.session now.list now.pool ∙ first)

pub called_on_choices : (call : Call) (n : ℕ) (src : List ℕ) (end : Bool) (s : Session) (l q : List ℕ)
    → (called_on call n src end s l q).turn.session.choices ≡ s.choices
unfolding called_on
called_on_choices call zero src end s l q =
    shut_cases (Same s) (lent_refusal src (length l) (length q) s) s l q _ (λ e. refl) (λ refusal e. refl)
called_on_choices call (suc n) src end s l q =
    let now = called call src end s l q in
    let first = call_choices call src end s l q in
    go_on_either (Same s) now.turn.answer now (walked n src end now.turn.session now.list now.pool) first
    (walk_choices n src end now.turn.session now.list now.pool ∙ first)
