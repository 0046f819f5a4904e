-- What a step makes of its outcome, over cursor, fill marks and tables (document 01, "Token list", "Refusal numbers"): room, then
-- layout. The session's part stands in crate lexer.
--   Mark, Next                   (source) the cursor and the fill marks; answer, cursor, marks and the change of frame
--   span_at                      the span of a place from the cursor p on
--   token_of                     the token of a piece that is put at the marks by a step that ends at `after`
--   Tables                       what list and pool hold
--   put_piece, past_piece, put   a piece is put at the marks, the marks go past it, the next piece is put
--   records                      the records of pieces; `put_laid` (proofs/Putting.antt) says that they and the values
--                                stand from the marks on
--   room_for                     7 for more tokens than places left, then 8 for more value bytes than pool left, or neither
--   answer_of                    done, or finished
--   stays, advances              a refusal: the numbers are as they were; or an answer, and the numbers after the
--                                pieces
--   roomy     what is written where there is room, or a refusal
--   reached   what contracts cite: room is asked after all that the outcome refuses
use Rattle.std.specs.Prelude.{ℕ, Result, Ok, Err, ◌+◌, ◌-◌, ◌*◌, Bool, List, [], ◌∷◌, ◌++◌, length, take, drop, if◌then◌else◌}
use Rattle.byte.specs.declared.Refusal.{Refusal}
use Rattle.byte.specs.Laid.{laid}
use Rattle.byte.specs.Refusals.{wait}
use Rattle.source.specs.Cursor.{passed}
use Rattle.source.specs.declared.Span.{Span}
use Rattle.state.specs.declared.Answer.{Answer}
use Rattle.token.specs.declared.Token.{Token}
use Rattle.token.specs.Records.{record_of, room_refusal}
use Rattle.outcome.specs.declared.Change.{Change}
use Rattle.outcome.specs.Outcomes.{Piece, Outcome, values}
use Rattle.commit.specs.declared.Mark.{Mark}
use Rattle.commit.specs.declared.Next.{Next}

abbrev pub span_at : List ℕ → Span → ℕ → Span
span_at src p place = passed p (take (place - p.position) (drop p.position src))

abbrev pub token_of : List ℕ → ℕ → Mark → Piece → Token
token_of src after m piece = record {
  kind = piece.kind;
  detail = piece.detail;
  span = span_at src m.span piece.place;
  start = m.bytes;
  len = length piece.value;
  end = after;
}

pub record Tables : Type 0 where
  pub list : List ℕ
  pub pool : List ℕ

abbrev pub put_piece : List ℕ → ℕ → Mark → Tables → Piece → Tables
put_piece src after m t piece = record {
  list = laid t.list (m.tokens * 8) (record_of (token_of src after m piece));
  pool = laid t.pool m.bytes piece.value;
}

abbrev pub past_piece : Mark → Piece → Mark
past_piece m piece = record { span = m.span; tokens = m.tokens + 1; bytes = m.bytes + length piece.value }

-- all pieces of a step bear its end
unfoldable pub put : List ℕ → ℕ → Mark → Tables → List Piece → Tables
put src after m t [] = t
put src after m t (piece ∷ more) = put src after (past_piece m piece) (put_piece src after m t piece) more

unfoldable pub records : List ℕ → ℕ → Mark → List Piece → List ℕ
records src after m [] = []
records src after m (piece ∷ more) =
    record_of (token_of src after m piece) ++ records src after (past_piece m piece) more

abbrev pub room_for : Mark → Tables → List Piece → Result (Unit {0}) Refusal
room_for m t pieces =
    room_refusal (length t.list) (length t.pool) m.tokens m.bytes (length pieces) (length (values pieces))

abbrev pub answer_of : {R : Type 0} → Bool → Answer R
answer_of finished = if finished then Answer.Finished else Answer.Done

-- what a step comes to, and what the tables then hold
pub record Reached : Type 0 where
  pub next : Next Refusal
  pub tables : Tables

abbrev pub stays : {R : Type 0} → R → Span → Mark → Next R
stays refusal span m = record {
  answer = Answer.Refused refusal span;
  mark = m;
  change = Change.Keep;
}

abbrev pub advances : List ℕ → Mark → List Piece → ℕ → Change → Bool → Next Refusal
advances src m pieces after change finished = record {
  answer = answer_of finished;
  mark = record {
    span = span_at src m.span after;
    tokens = m.tokens + length pieces;
    bytes = m.bytes + length (values pieces);
  };
  change = change;
}

-- what is written where there is room, or a refusal
abbrev pub roomy : Result (Unit {0}) Refusal → Mark → Tables → Reached → Reached
roomy (Ok fits) m t written = written
roomy (Err refusal) m t written = record { next = stays refusal m.span m; tables = t }

unfoldable pub reached : List ℕ → Mark → Tables → Outcome → Reached
reached src m t (Outcome.Told pieces after change finished) =
    roomy (room_for m t pieces) m t
    (record { next = advances src m pieces after change finished; tables = put src after m t pieces })
reached src m t (Outcome.Refused refusal place) =
    record { next = stays refusal (span_at src m.span place) m; tables = t }
reached src m t Outcome.Wait = record { next = stays wait m.span m; tables = t }
