-- What a walk over a host's numbers gives: the answer, how many calls were done, list and pool, and what the numbers then are.
--   is_written   a call is wanted, and the first is not refused
--   Walks        else the numbers stay as they were; a slot that no step changes keeps its numbers always
use Rattle.std.specs.Prelude.{ℕ, Bool, true, false, not, ◌&&◌, List, ◌≡◌, eqb}
use Rattle.layout.specs.Sessions.{session_in}
use Rattle.layout.specs.Answers.{is_unrefused}
use Rattle.layout.specs.Lent.{Rewritten}
use Rattle.outcome.specs.declared.Call.{Call}
use Rattle.lexer.specs.Turns.{After}
use Rattle.lexer.specs.Calls.{called}
use Rattle.demands.specs.Walks.{called_on, calls_done}
use Rattle.walk.specs.declared.Ended.{Ended}

unfoldable pub is_written : ℕ → After → Bool
is_written most first = not (eqb most 0) && is_unrefused first.turn.answer

pub record Walks (call : Call) (most : ℕ) (src : List ℕ) (end : Bool) (n l q : List ℕ) (r : Ended) (n' l' q' : List ℕ) : Type 0 where
  pub answer : r.answer ≡ (called_on call most src end (session_in n) l q).turn.answer
  pub done : r.done ≡ calls_done call most src end (session_in n) l q
  pub list : l' ≡ (called_on call most src end (session_in n) l q).list
  pub pool : q' ≡ (called_on call most src end (session_in n) l q).pool
  pub stays : is_written most (called call src end (session_in n) l q) ≡ false → n' ≡ n
  pub holds : is_written most (called call src end (session_in n) l q) ≡ true
      → Rewritten n (called_on call most src end (session_in n) l q).turn.session n'
