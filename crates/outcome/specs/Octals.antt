-- A session and its choices with another choice for octal escapes (document 02, P5). `outcome_chosen`
-- (proofs/Octals.antt) says: where a call under the Rust's choice is not refused with 3, it comes to the same under the
-- manual's.
--   choosing       choices with this one for octal escapes
--   with_choices   a session with other choices
--   chosen         a session with this choice for octal escapes
use Rattle.byte.specs.declared.Octal.{Octal}
use Rattle.state.specs.declared.Choices.{Choices}
use Rattle.state.specs.declared.Session.{Session}

abbrev pub choosing : Octal → Choices → Choices
choosing octals choices = record { nowdocs = choices.nowdocs; octals = octals }

abbrev pub with_choices : Choices → Session → Session
with_choices choices s = record {
  position = s.position;
  line = s.line;
  column = s.column;
  depth = s.depth;
  tokens = s.tokens;
  bytes = s.bytes;
  frames = s.frames;
  choices = choices;
}

abbrev pub chosen : Octal → Session → Session
chosen octals s = with_choices (choosing octals s.choices) s
