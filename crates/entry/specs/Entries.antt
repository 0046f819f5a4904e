-- What a call in the host's own session gives (document 01, "What must change shape"): what the call by value comes to, its answer
-- as the result and its session in the host's struct.
--   Entered   the answer, and what session, list and pool hold after the call
use Rattle.std.specs.Prelude.{ℕ, List, ◌≡◌}
use Rattle.state.specs.declared.Session.{Session}
use Rattle.byte.specs.declared.Refusal.{Refusal}
use Rattle.state.specs.declared.Answer.{Answer}
use Rattle.lexer.specs.Turns.{After}

pub record Entered (a : After) (r : Answer Refusal) (s : Session) (l q : List ℕ) : Type 0 where
  pub answer : r ≡ a.turn.answer
  pub session : s ≡ a.turn.session
  pub list : l ≡ a.list
  pub pool : q ≡ a.pool
