-- What a call gives, with another choice for octal escapes in its session (document 02, P5). `call_chosen` and
-- `walk_chosen` (proofs/Octals.antt) say: where the Rust's choice does not answer 3, the manual's gives the same, its
-- session's choice aside.
--   chosen_after   the same turn, list and pool, with this choice in the session
use Rattle.byte.specs.declared.Octal.{Octal}
use Rattle.outcome.specs.Octals.{chosen}
use Rattle.lexer.specs.Turns.{After}

abbrev pub chosen_after : Octal → After → After
chosen_after octals a = record {
  turn = record { answer = a.turn.answer; session = chosen octals a.turn.session };
  list = a.list;
  pool = a.pool;
}
