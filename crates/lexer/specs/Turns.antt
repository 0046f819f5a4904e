-- What a step or a reading makes of a session and its tables (document 01, "Token list", "Refusal numbers"). Room and layout are told in
-- crate commit; here the session's part.
--   After                                the turn, and what list and pool then hold
--   Gives                                what a call gives: its result, and list and pool after it
--   frames_after, depth_after, changed   the mode stack and its depth after a change; a session with another cursor and
--                                        other marks
--   mark_of, turn_of                     a session's cursor and marks; the turn that a next makes of a session
--   refusing                             a refusal: session, list and pool are as they were
--   settled   what an outcome comes to
use Rattle.std.specs.Prelude.{ℕ, ◌+◌, ◌-◌, List, ◌≡◌, set}
use Rattle.byte.specs.declared.Refusal.{Refusal}
use Rattle.source.specs.declared.Span.{Span}
use Rattle.state.specs.declared.Slot.{Slot}
use Rattle.state.specs.declared.Session.{Session}
use Rattle.state.specs.declared.Turn.{Turn}
use Rattle.state.specs.Calls.{span_of, refused}
use Rattle.outcome.specs.declared.Change.{Change}
use Rattle.outcome.specs.Outcomes.{Outcome}
use Rattle.commit.specs.declared.Mark.{Mark}
use Rattle.commit.specs.declared.Next.{Next}
use Rattle.commit.specs.Records.{Reached, reached}

pub record After : Type 0 where
  pub turn : Turn Refusal
  pub list : List ℕ
  pub pool : List ℕ

pub record Gives (a : After) (r : Turn Refusal) (l q : List ℕ) : Type 0 where
  pub turn : r ≡ a.turn
  pub list : l ≡ a.list
  pub pool : q ≡ a.pool

unfoldable pub frames_after : Change → ℕ → List Slot → List Slot
frames_after Change.Keep depth frames = frames
frames_after (Change.Swap f) depth frames = set frames (depth - 1) (record { frame = f })
frames_after (Change.Enter f) depth frames = set frames depth (record { frame = f })
frames_after Change.Leave depth frames = frames

unfoldable pub depth_after : Change → ℕ → ℕ
depth_after Change.Keep depth = depth
depth_after (Change.Swap f) depth = depth
depth_after (Change.Enter f) depth = depth + 1
depth_after Change.Leave depth = depth - 1

abbrev pub changed : Session → Span → ℕ → ℕ → Change → Session
changed s p tokens bytes change = record {
  position = p.position;
  line = p.line;
  column = p.column;
  depth = depth_after change s.depth;
  tokens = tokens;
  bytes = bytes;
  frames = frames_after change s.depth s.frames;
  choices = s.choices;
}

abbrev pub mark_of : Session → Mark
mark_of s = record { span = span_of s; tokens = s.tokens; bytes = s.bytes }

abbrev pub turn_of : Session → Next Refusal → Turn Refusal
turn_of s x = record {
  answer = x.answer;
  session = changed s x.mark.span x.mark.tokens x.mark.bytes x.change;
}

abbrev pub refusing : Refusal → Span → Session → List ℕ → List ℕ → After
refusing refusal span s list pool = record { turn = refused refusal span s; list = list; pool = pool }

abbrev pub reaching : Session → Reached → After
reaching s r = record { turn = turn_of s r.next; list = r.tables.list; pool = r.tables.pool }

abbrev pub settled : List ℕ → Session → List ℕ → List ℕ → Outcome → After
settled src s list pool o = reaching s (reached src (mark_of s) (record { list = list; pool = pool }) o)
