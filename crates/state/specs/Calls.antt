-- What the host's calls give (document 01, "Session" and "Refusal numbers"): fresh, skip, push, pop.
--   span_of, refused, done                   a session's place; a refusal, which gives back the session; an answer
--   gated                                    the gate's refusal, at the script's beginning, or what the call gives
--   moved, entered, left                     a session at another place, with a frame more, with a frame less
--   fresh_session, skipped, pushed, popped   the calls
use Rattle.std.specs.Prelude.{ℕ, ◌+◌, ◌-◌, List, Result, Ok, Err, leb, ltb, length, set, take, drop, replicate, if◌then◌else◌}
use Rattle.byte.specs.declared.Refusal.{Refusal}
use Rattle.source.specs.Cursor.{origin, passed}
use Rattle.source.specs.declared.Span.{Span}
use Rattle.state.specs.declared.Frame.{Frame}
use Rattle.state.specs.declared.Choices.{Choices}
use Rattle.state.specs.declared.Session.{Session}
use Rattle.state.specs.declared.Answer.{Answer}
use Rattle.state.specs.declared.Turn.{Turn}
use Rattle.byte.specs.Refusals.{stack_full, out_of_place}
use Rattle.state.specs.Bounds.{is_frame, no_slot}
use Rattle.state.specs.Gates.{gate_refusal}

abbrev pub span_of : Session → Span
span_of s = record { line = s.line; column = s.column; position = s.position }

abbrev pub refused : {R : Type 0} → R → Span → Session → Turn R
refused refusal span s = record { answer = Answer.Refused refusal span; session = s }

abbrev pub done : Session → Turn Refusal
done s = record { answer = Answer.Done; session = s }

abbrev pub gated : Result (Unit {0}) Refusal → Session → Turn Refusal → Turn Refusal
gated (Ok passes) s t = t
gated (Err refusal) s t = refused refusal origin s

abbrev pub moved : Session → Span → Session
moved s p = record {
  position = p.position;
  line = p.line;
  column = p.column;
  depth = s.depth;
  tokens = s.tokens;
  bytes = s.bytes;
  frames = s.frames;
  choices = s.choices;
}

abbrev pub entered : Session → Frame → Session
entered s f = record {
  position = s.position;
  line = s.line;
  column = s.column;
  depth = s.depth + 1;
  tokens = s.tokens;
  bytes = s.bytes;
  frames = set s.frames s.depth (record { frame = f });
  choices = s.choices;
}

-- what stood there stays in the array, above the depth
abbrev pub left : Session → Session
left s = record {
  position = s.position;
  line = s.line;
  column = s.column;
  depth = s.depth - 1;
  tokens = s.tokens;
  bytes = s.bytes;
  frames = s.frames;
  choices = s.choices;
}

abbrev pub fresh_session : Choices → Session
fresh_session choices = record {
  position = 0;
  line = 1;
  column = 1;
  depth = 1;
  tokens = 0;
  bytes = 0;
  frames = replicate 64 no_slot;
  choices = choices;
}

-- the next count bytes are passed
unfoldable pub skipped : List ℕ → Session → ℕ → Turn Refusal
skipped src s count =
    gated (gate_refusal src s) s
    (if leb (s.position + count) (length src) then done (moved s (passed (span_of s) (take count (drop s.position src))))
    else refused out_of_place (span_of s) s)

unfoldable pub pushed : List ℕ → Session → Frame → Turn Refusal
pushed src s f =
    gated (gate_refusal src s) s
    (if is_frame src f then (if ltb s.depth 64 then done (entered s f) else refused stack_full (span_of s) s)
    else refused out_of_place (span_of s) s)

unfoldable pub popped : List ℕ → Session → Turn Refusal
popped src s =
    gated (gate_refusal src s) s (if ltb 1 s.depth then done (left s) else refused out_of_place (span_of s) s)
