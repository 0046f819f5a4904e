-- A host takes what a call has written and empties its tables before the next: both marks are 0 again, and what stood in list and pool
-- may stand there still (README.md, "How a host calls it").
--   Taken            a token as a host takes it: kind, detail, place, value bytes, and the end of its step
--   takens           the tokens that the pieces of a step come to, from a cursor on; it ends at `after`
--   taken_in         the tokens of so many records, with their values in a pool
--   new_in           the tokens that a call, or a walk, has written: from the mark before it up to the mark after it
--   emptied          a session with both marks 0; two sessions with the same one differ in nothing but their marks
--   lacks_room       refusal 7 or 8
--   Handed           all tokens that were taken, with the last answer and session
--   handed           what a call from an emptied session gives to its host
--   taking           what a call from any session has given, but for its marks; unmarked: of what was handed
--   walked_emptied   at most so many steps, the tables emptied before each
--   fed_emptied      a script in parts, the tables emptied before each part
use Rattle.std.specs.Prelude.{ℕ, zero, suc, ◌-◌, ◌*◌, Bool, true, false, ◌||◌, List, [], ◌∷◌, ◌++◌, get_or, take, drop, if◌then◌else◌}
use Rattle.byte.specs.Refusals.{list_full, pool_full, is_same}
use Rattle.source.specs.declared.Span.{Span}
use Rattle.byte.specs.declared.Refusal.{Refusal}
use Rattle.state.specs.declared.Answer.{Answer}
use Rattle.state.specs.declared.Session.{Session}
use Rattle.outcome.specs.Outcomes.{Piece}
use Rattle.commit.specs.Records.{span_at}
use Rattle.lexer.specs.Turns.{After}
use Rattle.lexer.specs.Calls.{stepped}
use Rattle.demands.specs.Walks.{walked, is_done, is_wait}

pub record Taken : Type 0 where
  pub kind : ℕ
  pub detail : ℕ
  pub span : Span
  pub value : List ℕ
  pub end : ℕ

unfoldable pub takens : List ℕ → ℕ → Span → List Piece → List Taken
takens src after p [] = []
takens src after p (piece ∷ more) =
    record {
      kind = piece.kind;
      detail = piece.detail;
      span = span_at src p piece.place;
      value = piece.value;
      end = after;
    }
    ∷ takens src after p more

-- the first record of a list: kind, detail, line, column, position, value start and length, end
abbrev pub first_taken : List ℕ → List ℕ → Taken
first_taken list pool = record {
  kind = get_or list 0 0;
  detail = get_or list 1 0;
  span = record { line = get_or list 2 0; column = get_or list 3 0; position = get_or list 4 0 };
  value = take (get_or list 6 0) (drop (get_or list 5 0) pool);
  end = get_or list 7 0;
}

unfoldable pub taken_in : ℕ → List ℕ → List ℕ → List Taken
taken_in zero list pool = []
taken_in (suc count) list pool = first_taken list pool ∷ taken_in count (drop 8 list) pool

abbrev pub new_in : Session → After → List Taken
new_in s a = taken_in (a.turn.session.tokens - s.tokens) (drop (s.tokens * 8) a.list) a.pool

abbrev pub emptied : Session → Session
emptied s = record {
  position = s.position;
  line = s.line;
  column = s.column;
  depth = s.depth;
  tokens = 0;
  bytes = 0;
  frames = s.frames;
  choices = s.choices;
}

unfoldable pub lacks_room : Answer Refusal → Bool
lacks_room (Answer.Refused refusal span) = is_same refusal list_full || is_same refusal pool_full
lacks_room Answer.Done = false
lacks_room Answer.Finished = false

pub record Handed : Type 0 where
  pub tokens : List Taken
  pub answer : Answer Refusal
  pub session : Session

-- what a call from an emptied session gives to its host
abbrev pub handed : After → Handed
handed a = record {
  tokens = taken_in a.turn.session.tokens a.list a.pool;
  answer = a.turn.answer;
  session = a.turn.session;
}

abbrev pub taking : Session → After → Handed
taking s a = record { tokens = new_in s a; answer = a.turn.answer; session = emptied a.turn.session }

abbrev pub unmarked : Handed → Handed
unmarked h = record { tokens = h.tokens; answer = h.answer; session = emptied h.session }

-- before what is handed later
abbrev pub and_then : After → Handed → Handed
and_then a later = record {
  tokens = (handed a).tokens ++ later.tokens;
  answer = later.answer;
  session = later.session;
}

unfoldable pub walked_emptied : ℕ → List ℕ → Bool → Session → List ℕ → List ℕ → Handed
walked_emptied zero src end s list pool = record { tokens = []; answer = Answer.Done; session = s }
walked_emptied (suc n) src end s list pool =
    let now = stepped src end (emptied s) list pool in
    if is_done now.turn.answer then and_then now (walked_emptied n src end now.turn.session now.list now.pool)
    else handed now

-- src has come so far; at most n steps to a part
unfoldable pub fed_emptied : ℕ → List ℕ → List (List ℕ) → Session → List ℕ → List ℕ → Handed
fed_emptied n src [] s list pool = handed (walked n src true (emptied s) list pool)
fed_emptied n src (part ∷ more) s list pool =
    let now = walked n src false (emptied s) list pool in
    if is_wait now.turn.answer then and_then now (fed_emptied n (src ++ part) more now.turn.session now.list now.pool)
    else handed now
