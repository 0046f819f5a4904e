-- A call of a host, and the steps after it, on each way through it. Assumes nothing.
--   told-..      the answer written, without a sixth number and with one
--   turns-..     the call and the steps after it
--   turned_one   of one call
use Prim.Native.Nat.{ℕ, ◌≤◌, ◌<◌}
use mathlib.Core.Path.{◌≡◌, refl, sym, ap, subst, ◌∙◌}
use mathlib.Core.Bool.{Bool, true, false, not, false≢true}
use mathlib.Core.List.{List, [], ◌∷◌}
use native.Mathlib.Omega.{arith}
use lib.ListN.{length, set}
use borrow.Author.Tests.{le-leb, lt-leb, not-true, not-false}
use Rattle.byte.specs.Laid.{laid}
use Rattle.byte.specs.Refusals.{out_of_place, number_of}
use Rattle.byte.proofs.Laid.{length_laid, laid_append, set_laid}
use Rattle.byte.specs.declared.Refusal.{Refusal}
use Rattle.state.specs.declared.Answer.{Answer}
use Rattle.outcome.specs.declared.Call.{Call}
use Rattle.lexer.specs.Turns.{After}
use Rattle.lexer.specs.Calls.{called}
use Rattle.demands.specs.Walks.{called_on, calls_done}
use Rattle.walk.specs.declared.Ended.{Ended}
use Rattle.walk.specs.Walks.{Walks}
use Rattle.walk.proofs.Walks.{called_on_one}
use Rattle.layout.specs.Sessions.{session_in}
use Rattle.layout.specs.Answers.{answer_by, answer_numbers, refusal_in}
use Rattle.puretakoi.specs.Calls.{are_long, told_numbers, WalkCalled}

length-numbers : (a : Answer Refusal) → length (answer_numbers a) ≡ 5
unfolding answer_by
length-numbers Answer.Done = refl
length-numbers Answer.Finished = refl
length-numbers (Answer.Refused refusal span) = refl

-- the five numbers are written
module _ (answer written : List ℕ) (a : Answer Refusal) (done : ℕ) (long : 5 ≤ length answer)
    (e : written ≡ laid answer 0 (answer_numbers a)) where
  size : length written ≡ length answer
  size = ap length e ∙ length_laid answer 0 (answer_numbers a) (rw (length-numbers a) long)

  pub told_five : length written < 6 → written ≡ laid answer 0 (told_numbers (length answer) a done)
  unfolding told_numbers
  told_five h = e ∙ rw (lt-leb 6 (length answer) (omega (arith, h, size)))

  pub told_six : 6 ≤ length written → set written 5 done ≡ laid answer 0 (told_numbers (length answer) a done)
  unfolding told_numbers
  told_six h =
      let room : 6 ≤ length answer = omega (arith, h, size) in
      let five = length-numbers a in
      set_laid written 5 done (omega (arith, h))
      ∙ ap (λ (l : List ℕ). laid l 5 (done ∷ [])) e
      ∙ laid_append answer 0 5 (answer_numbers a) (done ∷ []) (omega (arith, five)) (rw five (omega (arith, room)))
      ∙ rw (le-leb 6 (length answer) room)

module _ (session answer : List ℕ) (flag : Bool) (e : flag ≡ are_long (length session) (length answer)) (most : ℕ) where
  pub turns_short : (first a : After) (done : ℕ) (list pool : List ℕ) (r : ℕ) → not flag ≡ true → r ≡ number_of out_of_place
      → WalkCalled most first a done session list pool answer r session list pool answer
  turns_short first a done list pool r h n =
      let short : are_long (length session) (length answer) ≡ false = sym e ∙ not-true flag h in
      record {
        number = n ∙ rw short;
        stays = λ z. refl;
        holds = λ z. absurd (false≢true (rw short at z));
        tells = rw short;
        records = rw short;
        values = rw short;
      }

  pub turns_made : (call : Call) (src : List ℕ) (end : Bool) (list pool : List ℕ) (a : Ended) (r : ℕ)
      (session' list' pool' answer' : List ℕ) → not flag ≡ false → Walks call most src end session list pool a session' list' pool'
      → answer' ≡ laid answer 0 (told_numbers (length answer) a.answer a.done) → r ≡ refusal_in a.answer
      → WalkCalled most (called call src end (session_in session) list pool) (called_on call most src end (session_in session) list pool)
      (calls_done call most src end (session_in session) list pool) session list pool answer r session' list' pool' answer'
  turns_made call src end list pool a r session' list' pool' answer' h w t n =
      let long : are_long (length session) (length answer) ≡ true = sym e ∙ not-false flag h in
      record {
        number = n ∙ rw (long, w.answer);
        stays = λ z. w.stays (rw long at z);
        holds = λ z. w.holds (rw long at z);
        tells = t ∙ rw (long, w.answer, w.done);
        records = w.list ∙ rw long;
        values = w.pool ∙ rw long;
      }

pub ruleset turning = (told_five, told_six, turns_short, turns_made)

-- ---- one call

module _ (src : List ℕ) (end : Bool) (session list pool answer : List ℕ) (r : ℕ)
    (session' list' pool' answer' : List ℕ) where
  pub turned_one : (call : Call)
      → WalkCalled 1 (called call src end (session_in session) list pool) (called_on call 1 src end (session_in session) list pool)
      (calls_done call 1 src end (session_in session) list pool) session list pool answer r session' list' pool' answer'
      → WalkCalled 1 (called call src end (session_in session) list pool) (called call src end (session_in session) list pool)
      (calls_done call 1 src end (session_in session) list pool) session list pool answer r session' list' pool' answer'
  turned_one call c =
      subst
      (λ (a : After). WalkCalled 1 (called call src end (session_in session) list pool) a
      (calls_done call 1 src end (session_in session) list pool) session list pool answer r session' list' pool' answer')
      (called_on_one call src end (session_in session) list pool) c
