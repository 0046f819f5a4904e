-- Demand 3 of a call (step and the three readings): with more announced the answer is 6 exactly when two continuations of the part get
-- different answers from its outcome, which knows no limit of tables and script length; if it is not 6, turn, list and pool are those of
-- every longer script up to 65,536 bytes; and with the end announced it is never 6.
--   call      what the call gives, for a source and an announced end
--   outcome   what it comes to, for a whole source
use Rattle.std.specs.Prelude.{ℕ, ◌≤◌, Bool, true, false, List, ◌++◌, ◌↔◌, ◌≡◌, length}
use Rattle.byte.specs.Demand.{Apart}
use Rattle.outcome.specs.Outcomes.{Outcome}
use Rattle.lexer.specs.Turns.{After}
use Rattle.demands.specs.Walks.{is_wait}

pub record WaitsExactly (call : List ℕ → Bool → After) (outcome : List ℕ → Outcome) (part : List ℕ) : Type 0 where
  pub exactly : (is_wait (call part false).turn.answer ≡ true) ↔ Apart outcome part
  pub settled : is_wait (call part false).turn.answer ≡ false → (rest : List ℕ) → length (part ++ rest) ≤ 65536
      → call (part ++ rest) true ≡ call part false
  pub never : is_wait (call part true).turn.answer ≡ false
