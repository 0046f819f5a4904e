-- A call and the steps after it, by the call's answer, and a walk that stands still. Assumes nothing.
--   walked_some, walked_open, walked_called   a step and the steps after it are a walk, and after the gate always
--   calledOn-..                               a call and the steps after it
--   callsDone-..                              how many of them are done
--   is_written_some, is_written_refused       whether numbers are written: a call is wanted, or the first is refused
--   walks                                     the ruleset of `turns`: the gate is shut, or no call is wanted
use Prim.Native.Nat.{ℕ, zero, suc, ◌+◌, ◌-◌, ◌<◌}
use Rattle.byte.specs.declared.Refusal.{Refusal}
use mathlib.Core.Path.{◌≡◌, refl, sym, ◌∙◌}
use mathlib.Core.Bool.{Bool, true, false, false≢true}
use mathlib.Core.List.{List}
use native.Mathlib.Omega.{arith}
use lib.Dec.{eqb}
use lib.ListN.{length}
use borrow.Author.Tests.{ne_eqb}
use Rattle.std.specs.Prelude.{Ok}
use Rattle.std.specs.Prelude.{Err}
use Rattle.std.specs.Prelude.{Result}
use Rattle.source.specs.Cursor.{origin}
use Rattle.state.specs.declared.Answer.{Answer}
use Rattle.state.specs.declared.Session.{Session}
use Rattle.source.specs.declared.Span.{Span}
use Rattle.state.specs.Gates.{lent_refusal}
use Rattle.layout.specs.Sessions.{session_in}
use Rattle.layout.specs.Answers.{is_unrefused}
use Rattle.outcome.specs.declared.Call.{Call}
use Rattle.lexer.specs.Turns.{After, refusing}
use Rattle.lexer.specs.Calls.{gated, called}
use Rattle.demands.specs.Walks.{gone_on, walked, called_on, counted, calls_done, is_done}
use Rattle.demands.proofs.Steps.{call_open, done_open, calls_done_steps}
use Rattle.walk.specs.Walks.{is_written, Walks}

module _ (src : List ℕ) (end : Bool) (s : Session) (l q : List ℕ) where
  -- with some step, or with the gate open
  pub walked_some : (n : ℕ) → 0 < n → called_on Call.Step n src end s l q ≡ walked n src end s l q
  unfolding called_on walked
  walked_some zero h = absurd (omega (arith, h))
  walked_some (suc n) h = refl

  pub walked_open : lent_refusal src (length l) (length q) s ≡ Ok tt
      → (n : ℕ) → called_on Call.Step n src end s l q ≡ walked n src end s l q
  unfolding called_on walked
  walked_open gate zero = rw gate
  walked_open gate (suc n) = refl

  pub walked_called : (n : ℕ) → called_on Call.Step n src end s l q ≡ gated src s l q (walked n src end s l q)
  unfolding called_on walked gone_on called
  walked_called zero = refl
  walked_called (suc n) = go (lent_refusal src (length l) (length q) s) refl
    where
      go : (told : Result (Unit {0}) Refusal) → lent_refusal src (length l) (length q) s ≡ told
          → called_on Call.Step (suc n) src end s l q ≡ gated src s l q (walked (suc n) src end s l q)
      go (Ok tt) e = rw e
      go (Err refusal) e = rw e

module _ (call : Call) (src : List ℕ) (end : Bool) (s : Session) (l q : List ℕ) where
  abbrev now : After
  now = called call src end s l q

  go_on : (a : Answer Refusal) (later : After) → is_done a ≡ true → gone_on a now later ≡ later
  unfolding gone_on is_done
  go_on Answer.Done later e = refl
  go_on Answer.Finished later e = absurd (false≢true e)
  go_on (Answer.Refused refusal span) later e = absurd (false≢true e)

  go_over : (a : Answer Refusal) (later : After) → is_done a ≡ false → gone_on a now later ≡ now
  unfolding gone_on is_done
  go_over Answer.Done later e = absurd (false≢true (sym e))
  go_over Answer.Finished later e = refl
  go_over (Answer.Refused refusal span) later e = refl

  pub called_on_on : (left : ℕ) → 0 < left → is_done now.turn.answer ≡ true
      → called_on call left src end s l q ≡ called_on Call.Step (left - 1) src end now.turn.session now.list now.pool
  unfolding called_on
  called_on_on zero h e = absurd (omega (arith, h))
  called_on_on (suc n) h e =
      let one : suc n - 1 ≡ n = omega arith in
      let gate = call_open call src end s l q (done_open call src end s l q e) in
      go_on now.turn.answer _ e
      ∙ sym (walked_open src end now.turn.session now.list now.pool gate n)
      ∙ rw one

  pub called_on_over : (left : ℕ) → 0 < left → is_done now.turn.answer ≡ false
      → called_on call left src end s l q ≡ now
  unfolding called_on
  called_on_over zero h e = absurd (omega (arith, h))
  called_on_over (suc n) h e = go_over now.turn.answer _ e

  count_on : (a : Answer Refusal) (later : ℕ) → is_done a ≡ true → counted a later ≡ later + 1
  unfolding counted is_done
  count_on Answer.Done later e = omega arith
  count_on Answer.Finished later e = absurd (false≢true e)
  count_on (Answer.Refused refusal span) later e = absurd (false≢true e)

  count_over : (a : Answer Refusal) (later : ℕ) → is_done a ≡ false → counted a later ≡ 0
  unfolding counted is_done
  count_over Answer.Done later e = absurd (false≢true (sym e))
  count_over Answer.Finished later e = refl
  count_over (Answer.Refused refusal span) later e = refl

  pub calls_done_on : (left : ℕ) → 0 < left → is_done now.turn.answer ≡ true
      → calls_done call left src end s l q
      ≡ calls_done Call.Step (left - 1) src end now.turn.session now.list now.pool + 1
  unfolding calls_done
  calls_done_on zero h e = absurd (omega (arith, h))
  calls_done_on (suc n) h e =
      let one : suc n - 1 ≡ n = omega arith in
      count_on now.turn.answer _ e
      ∙ rw (one, calls_done_steps n src end now.turn.session now.list now.pool)

  pub calls_done_over : (left : ℕ) → is_done now.turn.answer ≡ false → calls_done call left src end s l q ≡ 0
  unfolding calls_done
  calls_done_over zero e = refl
  calls_done_over (suc n) e = count_over now.turn.answer _ e

  -- where one call is wanted
  pub called_on_one : called_on call 1 src end s l q ≡ now
  unfolding called_on walked gone_on is_done
  called_on_one = go now.turn.answer refl
    where
      go : (a : Answer Refusal) → now.turn.answer ≡ a → called_on call 1 src end s l q ≡ now
      go Answer.Done e = go_on now.turn.answer _ (rw e) ∙ rw (← e)
      go Answer.Finished e = rw e
      go (Answer.Refused refusal span) e = rw e

-- a done answer refuses nothing
pub done_unrefused : (a : Answer Refusal) → is_done a ≡ true → is_unrefused a ≡ true
unfolding is_done
done_unrefused Answer.Done e = refl
done_unrefused Answer.Finished e = absurd (false≢true e)
done_unrefused (Answer.Refused refusal span) e = absurd (false≢true e)

pub is_written_some : (most : ℕ) (a : After) → 0 < most → is_written most a ≡ is_unrefused a.turn.answer
unfolding is_written
is_written_some most a h = rw (ne_eqb most 0 (λ z. omega (arith, h, z)))

pub is_written_refused : (most : ℕ) (a : After) → is_unrefused a.turn.answer ≡ false → is_written most a ≡ false
unfolding is_written
is_written_refused zero a h = refl
is_written_refused (suc most) a h = is_written_some (suc most) a (omega arith) ∙ h

-- the gate is shut, or no call is wanted
module _ (call : Call) (src : List ℕ) (end : Bool) (numbers l q : List ℕ) (most : ℕ) (shut : Result (Unit {0}) Refusal)
    (e : shut ≡ lent_refusal src (length l) (length q) (session_in numbers)) where
  abbrev alone : After
  alone = called call src end (session_in numbers) l q

  pub walk_none : shut ≡ Ok tt → most ≡ 0
      → Walks call most src end numbers l q (record { answer = Answer.Done; done = 0 }) numbers l q
  unfolding called_on calls_done is_written
  walk_none n z =
      let gate : lent_refusal src (length l) (length q) (session_in numbers) ≡ Ok tt = sym e ∙ n in
      rw z
      (record {
        answer = rw gate;
        done = refl;
        list = rw gate;
        pool = rw gate;
        stays = λ x. refl;
        holds = λ x. absurd (false≢true x);
      })

  module _ (refusal : Refusal) (n : shut ≡ Err refusal) where
    shut_on : (m : ℕ) → called_on call m src end (session_in numbers) l q
        ≡ refusing refusal origin (session_in numbers) l q
    unfolding called_on called gone_on
    shut_on zero = rw (← e, n)
    shut_on (suc m) = rw (← e, n)

    pub walk_shut : (span : Span) → span ≡ origin
        → Walks call most src end numbers l q (record { answer = Answer.Refused refusal span; done = 0 }) numbers l q
    unfolding called is_done
    walk_shut span o =
        let over = shut_on most in
        let undone : is_done alone.turn.answer ≡ false = rw (← e, n) in
        let still : is_written most alone ≡ false = is_written_refused most alone (rw (← e, n)) in
        record {
          answer = rw (over, o);
          done = sym (calls_done_over call src end (session_in numbers) l q most undone);
          list = rw over;
          pool = rw over;
          stays = λ x. refl;
          holds = λ x. absurd (false≢true (sym still ∙ x));
        }

pub ruleset walks = (walk_none, walk_shut)
