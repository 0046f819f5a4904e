-- What a host's numbers are read as after a call is the session of the definition, refused or not: so calls in a row are steps in a
-- row. Assumes nothing.
--   turns_cross, reading_crosses, step_crosses, walk_crosses   after a call and the steps after it, one call, a step, a
--                                                              walk
--   walk_tells                                                 a sixth number of a walk's answer: how many steps were
--                                                              done
--   skip_crosses, push_crosses, pop_crosses                    after skip, push and pop
--   Stands, turns_stands, turns_in_a_row   all that a host then has, and after two calls, the
--                                          second on what the first left
--   steps_in_a_row                         the same of two steps
use Rattle.std.specs.Prelude.{Result, Ok, Err}
use Prim.Native.Nat.{ℕ, ◌+◌, ◌≤◌}
use mathlib.Core.Path.{◌≡◌, refl, sym, ap, subst, ◌∙◌}
use mathlib.Core.Bool.{Bool, true, false, ◌&&◌}
use mathlib.Core.List.{List, [], ◌∷◌, ◌++◌}
use lib.Dec.{leb, ltb}
use lib.ListN.{length, get_or}
use borrow.Author.Tests.{le-leb}
use Rattle.byte.specs.Words.{announced}
use Rattle.byte.specs.Laid.{laid}
use Rattle.byte.proofs.Tests.{choice}
use Rattle.byte.specs.declared.Refusal.{Refusal}
use Rattle.source.specs.declared.Span.{Span}
use Rattle.state.specs.declared.Answer.{Answer}
use Rattle.state.specs.declared.Session.{Session}
use Rattle.state.specs.declared.Turn.{Turn}
use Rattle.state.specs.Bounds.{is_frame}
use Rattle.state.specs.Gates.{gate_refusal}
use Rattle.state.specs.Calls.{gated, skipped, pushed, popped}
use Rattle.state.proofs.Kept.{Kept, skip_kept, push_kept, pop_kept}
use Rattle.outcome.specs.declared.Call.{Call}
use Rattle.lexer.specs.Turns.{After}
use Rattle.lexer.specs.Calls.{called, stepped}
use Rattle.demands.specs.Walks.{called_on, steps_done, calls_done}
use Rattle.demands.proofs.Steps.{calls_done_steps}
use Rattle.walk.specs.Walks.{is_written}
use Rattle.walk.proofs.Walks.{called_on_one}
use Rattle.walk.proofs.Values.{read_back}
use Rattle.layout.specs.Sessions.{numbers_of, frame_in, session_in}
use Rattle.layout.specs.Answers.{answer_by, answer_numbers, refusal_in, unless_refused, session_after}
use Rattle.layout.proofs.Again.{Held, session_again, frame_in_held, held_in, held_moved, held_left, held_entered}
use Rattle.puretakoi.specs.Calls.{are_long, Crossed, told_numbers, WalkCalled, Answered, Turns, Walked}

-- what a host has after a call stands for what the call gives, with so many calls done
pub record Stands (a : After) (done : ℕ) (answer : List ℕ) (r : ℕ)
    (session' list' pool' answer' : List ℕ) : Type 0 where
  pub number : r ≡ refusal_in a.turn.answer
  pub reads : session_in session' ≡ a.turn.session
  pub tells : answer' ≡ laid answer 0 (told_numbers (length answer) a.turn.answer done)
  pub records : list' ≡ a.list
  pub values : pool' ≡ a.pool

-- an answer of five numbers, and the number after them
sixth : (answer : List ℕ) (a : Answer Refusal) (done : ℕ) → 6 ≤ length answer
    → get_or (laid answer 0 (told_numbers (length answer) a done)) 5 0 ≡ done
unfolding told_numbers laid answer_by
sixth answer a done room = rw (le-leb 6 (length answer) room) (go a)
  where
    go : (b : Answer Refusal) → get_or (laid answer 0 (answer_numbers b ++ (done ∷ []))) 5 0 ≡ done
    go Answer.Done = refl
    go Answer.Finished = refl
    go (Answer.Refused refusal span) = refl

module _ (src : List ℕ) (end : ℕ) (session list pool answer : List ℕ) (r : ℕ) (session' list' pool' answer' : List ℕ)
    (long : are_long (length session) (length answer) ≡ true) where
  module _ (call : Call) (most : ℕ) (c : Turns call src end most session list pool answer r session' list' pool' answer') where
    abbrev all : After
    all = called_on call most src (announced end) (session_in session) list pool

    pub turns_cross : session_in session' ≡ all.turn.session
    turns_cross =
        read_back call most src (announced end) session list pool session' (λ z. c.stays (rw (long, z)))
        (λ z. c.holds (rw (long, z)))

    abbrev count : ℕ
    count = calls_done call most src (announced end) (session_in session) list pool

    pub turns_stands : Stands all count answer r session' list' pool' answer'
    turns_stands = record {
      number = c.number ∙ rw long;
      reads = turns_cross;
      tells = c.tells ∙ rw long;
      records = c.records ∙ rw long;
      values = c.values ∙ rw long;
    }

  -- one call
  module _ (call : Call) (c : Answered call src end session list pool answer r session' list' pool' answer') where
    one : called_on call 1 src (announced end) (session_in session) list pool
        ≡ called call src (announced end) (session_in session) list pool
    one = called_on_one call src (announced end) (session_in session) list pool

    pub reading_stands : Stands (called call src (announced end) (session_in session) list pool)
        (calls_done call 1 src (announced end) (session_in session) list pool) answer r session' list' pool' answer'
    reading_stands =
        subst
        (λ (a : After). Stands a (calls_done call 1 src (announced end) (session_in session) list pool) answer r
        session' list' pool' answer') one
        (turns_stands call 1
        (subst
        (λ (a : After). WalkCalled 1 (called call src (announced end) (session_in session) list pool) a
        (calls_done call 1 src (announced end) (session_in session) list pool) session list pool answer r
        session' list' pool' answer')
        (sym one) c))

    pub reading_crosses : session_in session' ≡ (called call src (announced end) (session_in session) list pool).turn.session
    reading_crosses = reading_stands.reads

  pub step_crosses : Answered Call.Step src end session list pool answer r session' list' pool' answer'
      → session_in session' ≡ (stepped src (announced end) (session_in session) list pool).turn.session
  step_crosses c = reading_crosses Call.Step c

  pub walk_crosses : (most : ℕ) → Walked src end most session list pool answer r session' list' pool' answer'
      → session_in session' ≡ (called_on Call.Step most src (announced end) (session_in session) list pool).turn.session
  walk_crosses most c = turns_cross Call.Step most c

  -- the sixth number of a walk's answer: how many steps were done
  pub walk_tells : (most : ℕ) → Walked src end most session list pool answer r session' list' pool' answer'
      → 6 ≤ length answer → get_or answer' 5 0 ≡ steps_done most src (announced end) (session_in session) list pool
  walk_tells most c room =
      ap (λ (l : List ℕ). get_or l 5 0) (turns_stands Call.Step most c).tells
      ∙ sixth answer _ _ room
      ∙ calls_done_steps most src (announced end) (session_in session) list pool

-- ---- skip, push and pop

abbrev HeldTurn : Turn Refusal → Type 0
HeldTurn t = Held t.session

module _ (src session answer : List ℕ) (r : ℕ) (session' answer' : List ℕ)
    (long : are_long (length session) (length answer) ≡ true) where
  abbrev here : Session
  here = session_in session

  -- a session that is not refused is written whole, and a refused one stays
  crosses : (t : Turn Refusal) → Kept here t → HeldTurn t → Crossed t session answer r session' answer' → session_in session' ≡ t.session
  unfolding unless_refused
  crosses t k h c =
      let holds : session' ≡ session_after t session = c.holds ∙ rw long in
      ap session_in holds ∙ go t.answer (k.back)
    where
      go : (a : Answer Refusal) → ((refusal : Refusal) (span : Span) → a ≡ Answer.Refused refusal span → t.session ≡ here)
          → session_in (unless_refused a (laid session 0 (numbers_of t.session)) session) ≡ t.session
      go Answer.Done back = session_again t.session h session
      go Answer.Finished back = session_again t.session h session
      go (Answer.Refused refusal span) back = sym (back refusal span refl)

  gated_held : (told : Result (Unit {0}) Refusal) (t : Turn Refusal) → HeldTurn t → HeldTurn (gated told here t)
  gated_held (Ok passes) t h = h
  gated_held (Err refusal) t h = held_in session

  pub skip_crosses : (count : ℕ) → Crossed (skipped src here count) session answer r session' answer'
      → session_in session' ≡ (skipped src here count).session
  unfolding skipped
  skip_crosses count =
      crosses (skipped src here count) (skip_kept src here count)
      (gated_held (gate_refusal src here) _
      (choice HeldTurn (leb (here.position + count) (length src)) _ _ (λ e. held_moved here (held_in session) _)
      (λ e. held_in session)))

  -- the frame is read from numbers
  pub push_crosses : (number start len : ℕ)
      → Crossed (pushed src here (frame_in number start len)) session answer r session' answer'
      → session_in session' ≡ (pushed src here (frame_in number start len)).session
  unfolding pushed
  push_crosses number start len =
      let f = frame_in number start len in
      crosses (pushed src here f) (push_kept src here f)
      (gated_held (gate_refusal src here) _
      (choice HeldTurn (is_frame src f) _ _
      (λ e.
      choice HeldTurn (ltb here.depth 64) _ _ (λ g. held_entered here (held_in session) f (frame_in_held number start len))
      (λ g. held_in session))
      (λ e. held_in session)))

  pub pop_crosses : Crossed (popped src here) session answer r session' answer' → session_in session' ≡ (popped src here).session
  unfolding popped
  pop_crosses =
      crosses (popped src here) (pop_kept src here)
      (gated_held (gate_refusal src here) _
      (choice HeldTurn (ltb 1 here.depth) _ _ (λ e. held_left here (held_in session)) (λ e. held_in session)))

-- ---- calls in a row

-- the slice of a session keeps its length
pub turns_size : (most : ℕ) (first a : After) (done : ℕ) (session list pool answer : List ℕ) (r : ℕ)
    (session' list' pool' answer' : List ℕ)
    → WalkCalled most first a done session list pool answer r session' list' pool' answer'
    → length session' ≡ length session
turns_size most first a done session list pool answer r session' list' pool' answer' c =
    go (are_long (length session) (length answer) && is_written most first) refl
  where
    go : (t : Bool) → (are_long (length session) (length answer) && is_written most first) ≡ t → length session' ≡ length session
    go true e = (c.holds e).size
    go false e = ap length (c.stays e)

-- two calls: the second on the session, list and pool that the first left, with any source, announced end and slice for its answer
module _ (src : List ℕ) (end : ℕ) (session list pool answer : List ℕ) (r : ℕ) (session' list' pool' answer' : List ℕ)
    (src₂ : List ℕ) (end₂ : ℕ) (answer₂ : List ℕ) (r₂ : ℕ) (session₂ list₂ pool₂ answer₂' : List ℕ)
    (long : are_long (length session) (length answer) ≡ true)
    (long₂ : are_long (length session) (length answer₂) ≡ true) where
  pub turns_in_a_row : (call call₂ : Call) (most most₂ : ℕ)
      → Turns call src end most session list pool answer r session' list' pool' answer'
      → Turns call₂ src₂ end₂ most₂ session' list' pool' answer₂ r₂ session₂ list₂ pool₂ answer₂'
      → Stands
      (called_on call₂ most₂ src₂ (announced end₂) (called_on call most src (announced end) (session_in session) list pool).turn.session
      (called_on call most src (announced end) (session_in session) list pool).list
      (called_on call most src (announced end) (session_in session) list pool).pool)
      (calls_done call₂ most₂ src₂ (announced end₂)
      (called_on call most src (announced end) (session_in session) list pool).turn.session
      (called_on call most src (announced end) (session_in session) list pool).list
      (called_on call most src (announced end) (session_in session) list pool).pool)
      answer₂ r₂ session₂ list₂ pool₂ answer₂'
  turns_in_a_row call call₂ most most₂ c c₂ =
      let s = turns_stands src end session list pool answer r session' list' pool' answer' long call most c in
      let size = turns_size most _ _ _ session list pool answer r session' list' pool' answer' c in
      let s₂ =
      turns_stands src₂ end₂ session' list' pool' answer₂ r₂ session₂ list₂ pool₂ answer₂' (rw size long₂) call₂ most₂ c₂ in
      rw (← s.reads, ← s.records, ← s.values) s₂

  pub steps_in_a_row : Answered Call.Step src end session list pool answer r session' list' pool' answer'
      → Answered Call.Step src₂ end₂ session' list' pool' answer₂ r₂ session₂ list₂ pool₂ answer₂'
      → Stands
      (stepped src₂ (announced end₂) (stepped src (announced end) (session_in session) list pool).turn.session
      (stepped src (announced end) (session_in session) list pool).list
      (stepped src (announced end) (session_in session) list pool).pool)
      (calls_done Call.Step 1 src₂ (announced end₂)
      (stepped src (announced end) (session_in session) list pool).turn.session
      (stepped src (announced end) (session_in session) list pool).list
      (stepped src (announced end) (session_in session) list pool).pool)
      answer₂ r₂ session₂ list₂ pool₂ answer₂'
  steps_in_a_row c c₂ =
      let s = reading_stands src end session list pool answer r session' list' pool' answer' long Call.Step c in
      let size = turns_size 1 _ _ _ session list pool answer r session' list' pool' answer' c in
      let s₂ =
      reading_stands src₂ end₂ session' list' pool' answer₂ r₂ session₂ list₂ pool₂ answer₂' (rw size long₂) Call.Step c₂ in
      rw (← s.reads, ← s.records, ← s.values) s₂
