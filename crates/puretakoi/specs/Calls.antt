-- What a host's call gives (include/puretakoi.h): the numbers stand for a session, the call of crate walk or state is made, and its answer
-- and its session are written as numbers.
--   are_long                  a session has its 199 numbers and an answer its 5; else 10, and nothing is written
--   Crossed                   the refusal or 0, and what the slices of session and answer hold, for a call with a turn
--   told_numbers              an answer's five numbers and, where the slice has a sixth, how many calls were done
--   WalkCalled                a call and steps after it, with list and pool: where none is wanted, or the first is
--                             refused, the session's numbers stay; else they stand for the session after it, and a slot
--                             that no step changed keeps its own
--   Answered, Turns, Walked   of one call, of a call and steps after it, and of steps
--   fresh_refusal, fresh_numbers, Begun   a fresh session
--   FiledBy, Filed   a record file or a list: the refusal or 0, and what the lent slice holds
use Rattle.std.specs.Prelude.{ℕ, Result, Ok, Err, Bool, true, false, ◌&&◌, List, [], ◌∷◌, ◌++◌, ◌≡◌, leb, length, if◌then◌else◌}
use Rattle.byte.specs.Words.{announced}
use Rattle.byte.specs.Laid.{laid}
use Rattle.byte.specs.declared.Refusal.{Refusal}
use Rattle.byte.specs.Refusals.{out_of_place, bad_session, number_of}
use Rattle.state.specs.declared.Answer.{Answer}
use Rattle.state.specs.declared.Turn.{Turn}
use Rattle.state.specs.Calls.{fresh_session}
use Rattle.outcome.specs.declared.Call.{Call}
use Rattle.lexer.specs.Turns.{After}
use Rattle.lexer.specs.Calls.{called, stepped}
use Rattle.demands.specs.Walks.{called_on, calls_done}
use Rattle.layout.specs.Sessions.{are_choices, choices_in, numbers_of, session_in}
use Rattle.layout.specs.Answers.{answer_numbers, refusal_in, session_after}
use Rattle.layout.specs.Lent.{Rewritten}
use Rattle.walk.specs.Walks.{is_written}
use Rattle.token.specs.Files.{file_after}
use Rattle.puretakoi.specs.Told.{told_by, told_number, told_after}

unfoldable pub are_long : ℕ → ℕ → Bool
are_long session answer = leb 199 session && leb 5 answer

pub record Crossed (t : Turn Refusal) (session answer : List ℕ) (r : ℕ) (session' answer' : List ℕ) : Type 0 where
  pub number : r ≡ (if are_long (length session) (length answer) then refusal_in t.answer else number_of out_of_place)
  pub holds : session' ≡ (if are_long (length session) (length answer) then session_after t session else session)
  pub tells : answer' ≡ (if are_long (length session) (length answer) then laid answer 0 (answer_numbers t.answer) else answer)

-- for a slice of so many numbers
unfoldable pub told_numbers : ℕ → Answer Refusal → ℕ → List ℕ
told_numbers size answer done = if leb 6 size then answer_numbers answer ++ (done ∷ []) else answer_numbers answer

-- of at most so many calls: what the first comes to, what they all do, and how many are done
pub record WalkCalled (most : ℕ) (first a : After) (done : ℕ) (session list pool answer : List ℕ) (r : ℕ)
    (session' list' pool' answer' : List ℕ) : Type 0 where
  pub number : r ≡ (if are_long (length session) (length answer) then refusal_in a.turn.answer else number_of out_of_place)
  pub stays : (are_long (length session) (length answer) && is_written most first) ≡ false → session' ≡ session
  pub holds : (are_long (length session) (length answer) && is_written most first) ≡ true → Rewritten session a.turn.session session'
  pub tells : answer'
      ≡ (if are_long (length session) (length answer) then laid answer 0 (told_numbers (length answer) a.turn.answer done)
      else answer)
  pub records : list' ≡ (if are_long (length session) (length answer) then a.list else list)
  pub values : pool' ≡ (if are_long (length session) (length answer) then a.pool else pool)

abbrev pub Answered : Call → List ℕ → ℕ → List ℕ → List ℕ → List ℕ → List ℕ → ℕ → List ℕ → List ℕ → List ℕ → List ℕ → Type 0
Answered call src end session list pool answer =
    WalkCalled 1 (called call src (announced end) (session_in session) list pool)
    (called call src (announced end) (session_in session) list pool)
    (calls_done call 1 src (announced end) (session_in session) list pool) session list pool answer

abbrev pub Turns : Call → List ℕ → ℕ → ℕ → List ℕ → List ℕ → List ℕ → List ℕ → ℕ → List ℕ → List ℕ → List ℕ → List ℕ → Type 0
Turns call src end most session list pool answer =
    WalkCalled most (called call src (announced end) (session_in session) list pool)
    (called_on call most src (announced end) (session_in session) list pool)
    (calls_done call most src (announced end) (session_in session) list pool) session list pool answer

abbrev pub Walked : List ℕ → ℕ → ℕ → List ℕ → List ℕ → List ℕ → List ℕ → ℕ → List ℕ → List ℕ → List ℕ → List ℕ → Type 0
Walked src end most session list pool answer =
    WalkCalled most (stepped src (announced end) (session_in session) list pool)
    (called_on Call.Step most src (announced end) (session_in session) list pool)
    (calls_done Call.Step most src (announced end) (session_in session) list pool) session list pool answer

-- 10 for a slice that is too short, 12 for a bit that is no choice's flag, or none
unfoldable pub fresh_refusal : ℕ → ℕ → Result (Unit {0}) Refusal
fresh_refusal session choices =
    if leb 199 session then (if are_choices choices then Ok tt else Err bad_session) else Err out_of_place

abbrev pub fresh_numbers : ℕ → List ℕ → List ℕ
fresh_numbers choices session = laid session 0 (numbers_of (fresh_session (choices_in choices)))

pub record Begun (choices : ℕ) (session : List ℕ) (r : ℕ) (session' : List ℕ) : Type 0 where
  pub number : r ≡ told_number (fresh_refusal (length session) choices)
  pub holds : session' ≡ told_after (fresh_refusal (length session) choices) (fresh_numbers choices session) session

-- without a refusal the values stand at the start of what was lent, and else it is as it was
pub record FiledBy {R : Type 0} (number_of : R → ℕ) (refusal : Result (Unit {0}) R) (lent values : List ℕ) (r : ℕ) (after : List ℕ)
    : Type 0 where
  pub number : r ≡ told_by number_of refusal
  pub holds : after ≡ file_after refusal lent values

abbrev pub Filed : Result (Unit {0}) Refusal → List ℕ → List ℕ → ℕ → List ℕ → Type 0
Filed refusal lent values r after = FiledBy number_of refusal lent values r after
