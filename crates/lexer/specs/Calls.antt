-- What step and the three readings give (document 01, "Step", "Refusal numbers"). Order: 11, 12, 10, 6, then 1 to 5 and 13 as the
-- routine meets them, then 9, 7, 8.
--   unless_shut, gated   the gate's refusal, 11 or 12, at the script's beginning; or what the call gives
--   called               a call: the step or a reading
--   stepped              the step
use Rattle.std.specs.Prelude.{ℕ, Result, Ok, Err, Bool, List, length}
use Rattle.byte.specs.declared.Refusal.{Refusal}
use Rattle.source.specs.Cursor.{origin}
use Rattle.state.specs.declared.Session.{Session}
use Rattle.state.specs.Gates.{lent_refusal}
use Rattle.outcome.specs.declared.Call.{Call}
use Rattle.outcome.specs.Steps.{call_outcome}
use Rattle.lexer.specs.Turns.{After, refusing, settled}

abbrev pub unless_shut : Result (Unit {0}) Refusal → Session → List ℕ → List ℕ → After → After
unless_shut (Ok passes) s list pool a = a
unless_shut (Err refusal) s list pool a = refusing refusal origin s list pool

abbrev pub gated : List ℕ → Session → List ℕ → List ℕ → After → After
gated src s list pool a = unless_shut (lent_refusal src (length list) (length pool) s) s list pool a

unfoldable pub called : Call → List ℕ → Bool → Session → List ℕ → List ℕ → After
called call src end s list pool = gated src s list pool (settled src s list pool (call_outcome call src end s))

abbrev pub stepped : List ℕ → Bool → Session → List ℕ → List ℕ → After
stepped src end s list pool = called Call.Step src end s list pool
