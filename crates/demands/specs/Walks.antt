-- Many steps, and a script that comes in parts (demand 3).
--   gone_on   a step that is done is followed by the next; any other answer is the last
--   walked    at most so many steps
--   called_on a call and, where it is done, steps after it: at most so many in all; the gate is asked also where none is wanted
--   steps_done   how many steps of a walk are done
--   calls_done   how many of a call and the steps after it are done
--   is_done      done, and not finished
--   is_wait      refusal 6
--   joined       the script that parts make
--   fed          a script in parts: each part is stepped, with more announced, up to a wait; the next part comes after
--                it, the session, list and pool as the wait found them; after the last part the end is announced
use Rattle.std.specs.Prelude.{ℕ, zero, suc, Bool, true, false, List, [], ◌∷◌, ◌++◌, if◌then◌else◌}
use Rattle.byte.specs.Refusals.{wait, is_same}
use Rattle.byte.specs.declared.Refusal.{Refusal}
use Rattle.state.specs.declared.Answer.{Answer}
use Rattle.state.specs.declared.Session.{Session}
use Rattle.state.specs.Calls.{done}
use Rattle.outcome.specs.declared.Call.{Call}
use Rattle.lexer.specs.Turns.{After}
use Rattle.lexer.specs.Calls.{gated, called, stepped}

unfoldable pub gone_on : Answer Refusal → After → After → After
gone_on Answer.Done now later = later
gone_on Answer.Finished now later = now
gone_on (Answer.Refused refusal span) now later = now

unfoldable pub walked : ℕ → List ℕ → Bool → Session → List ℕ → List ℕ → After
walked zero src end s list pool = record { turn = done s; list = list; pool = pool }
walked (suc n) src end s list pool =
    let now = stepped src end s list pool in
    gone_on now.turn.answer now (walked n src end now.turn.session now.list now.pool)

unfoldable pub called_on : Call → ℕ → List ℕ → Bool → Session → List ℕ → List ℕ → After
called_on call zero src end s list pool = gated src s list pool (record { turn = done s; list = list; pool = pool })
called_on call (suc n) src end s list pool =
    let now = called call src end s list pool in
    gone_on now.turn.answer now (walked n src end now.turn.session now.list now.pool)

-- one more where the answer is done
unfoldable pub counted : Answer Refusal → ℕ → ℕ
counted Answer.Done later = suc later
counted Answer.Finished later = 0
counted (Answer.Refused refusal span) later = 0

unfoldable pub steps_done : ℕ → List ℕ → Bool → Session → List ℕ → List ℕ → ℕ
steps_done zero src end s list pool = 0
steps_done (suc n) src end s list pool =
    let now = stepped src end s list pool in
    counted now.turn.answer (steps_done n src end now.turn.session now.list now.pool)

unfoldable pub calls_done : Call → ℕ → List ℕ → Bool → Session → List ℕ → List ℕ → ℕ
calls_done call zero src end s list pool = 0
calls_done call (suc n) src end s list pool =
    let now = called call src end s list pool in
    counted now.turn.answer (steps_done n src end now.turn.session now.list now.pool)

unfoldable pub is_done : Answer Refusal → Bool
is_done Answer.Done = true
is_done Answer.Finished = false
is_done (Answer.Refused refusal span) = false

unfoldable pub is_wait : Answer Refusal → Bool
is_wait (Answer.Refused refusal span) = is_same refusal wait
is_wait Answer.Done = false
is_wait Answer.Finished = false

unfoldable pub joined : List ℕ → List (List ℕ) → List ℕ
joined src [] = src
joined src (part ∷ more) = joined (src ++ part) more

-- src has come so far; at most n steps to a part
unfoldable pub fed : ℕ → List ℕ → List (List ℕ) → Session → List ℕ → List ℕ → After
fed n src [] s list pool = walked n src true s list pool
fed n src (part ∷ more) s list pool =
    let now = walked n src false s list pool in
    if is_wait now.turn.answer then fed n (src ++ part) more now.turn.session now.list now.pool else now
