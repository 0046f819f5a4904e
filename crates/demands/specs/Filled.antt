-- A list that was filled from empty (document 02, P3): its session's token mark was 0, and since then calls came in a
-- row, each on the session, list and pool that the last one left. Each call may lend another source, be a step or a
-- reading, or be refused. Skip, push and pop may come between them, the host may choose otherwise, and another list and
-- pool may be lent, longer or shorter, if the list has the same records up to the mark.
--   Filled        session, list and pool after such calls
--   FilledAfter   the same of what a call gives
--   Round         what a step is lent: a source, and whether its end is announced
--   stepped_on    steps in a row, each on what the last one left, whatever it answered
use Rattle.std.specs.Prelude.{ℕ, ◌*◌, Bool, List, [], ◌∷◌, ◌≡◌, take}
use Rattle.state.specs.declared.Choices.{Choices}
use Rattle.state.specs.declared.Frame.{Frame}
use Rattle.state.specs.declared.Session.{Session}
use Rattle.state.specs.Calls.{done, skipped, pushed, popped}
use Rattle.outcome.specs.declared.Call.{Call}
use Rattle.outcome.specs.Octals.{with_choices}
use Rattle.lexer.specs.Turns.{After}
use Rattle.lexer.specs.Calls.{called, stepped}

pub data Filled : Session → List ℕ → List ℕ → Type 0 where
  empty : {s : Session} {list pool : List ℕ} → s.tokens ≡ 0 → Filled s list pool
  call : {s : Session} {list pool : List ℕ} (c : Call) (src : List ℕ) (end : Bool) → Filled s list pool
      → Filled (called c src end s list pool).turn.session (called c src end s list pool).list
      (called c src end s list pool).pool
  lend : {s : Session} {list pool : List ℕ} (list' pool' : List ℕ)
      → take (s.tokens * 8) list' ≡ take (s.tokens * 8) list → Filled s list pool → Filled s list' pool'
  choose : {s : Session} {list pool : List ℕ} (choices : Choices) → Filled s list pool
      → Filled (with_choices choices s) list pool
  skip : {s : Session} {list pool : List ℕ} (src : List ℕ) (count : ℕ) → Filled s list pool
      → Filled (skipped src s count).session list pool
  push : {s : Session} {list pool : List ℕ} (src : List ℕ) (frame : Frame) → Filled s list pool
      → Filled (pushed src s frame).session list pool
  pop : {s : Session} {list pool : List ℕ} (src : List ℕ) → Filled s list pool
      → Filled (popped src s).session list pool

abbrev pub FilledAfter : After → Type 0
FilledAfter a = Filled a.turn.session a.list a.pool

pub record Round : Type 0 where
  pub source : List ℕ
  pub end : Bool

unfoldable pub stepped_on : List Round → Session → List ℕ → List ℕ → After
stepped_on [] s list pool = record { turn = done s; list = list; pool = pool }
stepped_on (round ∷ more) s list pool =
    let now = stepped round.source round.end s list pool in
    stepped_on more now.turn.session now.list now.pool
