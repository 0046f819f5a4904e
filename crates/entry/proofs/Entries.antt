-- A call in the host's own session gives what the call by value gives, with the session of its turn stored back. Assumes nothing.
--   entered_stored   from the call by value
--   entered_one      two results that meet one statement are equal
use Prim.Native.Nat.{ℕ}
use mathlib.Core.Path.{◌≡◌, sym, ap, ◌∙◌}
use mathlib.Core.List.{List}
use Rattle.state.specs.declared.Session.{Session}
use Rattle.byte.specs.declared.Refusal.{Refusal}
use Rattle.state.specs.declared.Answer.{Answer}
use Rattle.state.specs.declared.Turn.{Turn}
use Rattle.lexer.specs.Turns.{After, Gives}
use Rattle.entry.specs.Entries.{Entered}

pub entered_stored : (a : After) (r : Turn Refusal) (l q : List ℕ) → Gives a r l q → Entered a r.answer r.session l q
entered_stored a r l q g = record {
  answer = ap (λ t. t.answer) g.turn;
  session = ap (λ t. t.session) g.turn;
  list = g.list;
  pool = g.pool;
}

pub entered_one : (a : After) (r r' : Answer Refusal) (s s' : Session) (l l' q q' : List ℕ) → Entered a r s l q → Entered a r' s' l' q'
    → (r ≡ r') × (s ≡ s') × (l ≡ l') × (q ≡ q')
entered_one a r r' s s' l l' q q' e e' =
    (e.answer ∙ sym e'.answer, e.session ∙ sym e'.session, e.list ∙ sym e'.list, e.pool ∙ sym e'.pool)
