-- A step as the code has it: over numbers and the top frame.
--   Place        (source) cursor and marks, and the depth of the mode stack
--   session_at   the session at a place
--   outcome_at   what a call comes to at a place with this frame on top
--   moved_to     what a step comes to that only passes bytes
--   Standing     the cursor and the marks are within their bounds, and the top frame is one
use Rattle.std.specs.Prelude.{ℕ, Bool, true, List, ◌≡◌, drop}
use Rattle.byte.specs.declared.Refusal.{Refusal}
use Rattle.source.specs.declared.Span.{Span}
use Rattle.state.specs.declared.Answer.{Answer}
use Rattle.state.specs.declared.Frame.{Frame}
use Rattle.state.specs.declared.Choices.{Choices}
use Rattle.state.specs.declared.Slot.{Slot}
use Rattle.state.specs.declared.Session.{Session}
use Rattle.state.specs.Bounds.{is_frame}
use Rattle.outcome.specs.declared.Call.{Call}
use Rattle.outcome.specs.declared.Change.{Change}
use Rattle.outcome.specs.Outcomes.{Outcome, limited}
use Rattle.outcome.specs.Steps.{call_at}
use Rattle.commit.specs.declared.Mark.{Mark}
use Rattle.commit.specs.declared.Next.{Next}
use Rattle.commit.specs.Code.{Marked}
use Rattle.lexer.specs.declared.Place.{Place}

abbrev pub session_at : Place → List Slot → Choices → Session
session_at at frames choices = record {
  position = at.mark.span.position;
  line = at.mark.span.line;
  column = at.mark.span.column;
  depth = at.depth;
  tokens = at.mark.tokens;
  bytes = at.mark.bytes;
  frames = frames;
  choices = choices;
}

abbrev pub outcome_at : Call → List ℕ → Bool → Frame → Choices → Place → Outcome
outcome_at call src end f choices at =
    limited at.depth at.mark.span.position
    (call_at call f src choices at.depth end at.mark.span.position (drop at.mark.span.position src))

abbrev pub moved_to : Mark → Span → Next Refusal
moved_to m p = record {
  answer = Answer.Done;
  mark = record { span = p; tokens = m.tokens; bytes = m.bytes };
  change = Change.Keep;
}

pub record Standing (src : List ℕ) (f : Frame) (m : Mark) (list pool : ℕ) : Type 0 where
  pub marked : Marked src m list pool
  pub top : is_frame src f ≡ true
