-- A good session stays good under every step and reading, and list and pool keep their lengths. Assumes nothing.
--   Sound           the session is good, and its marks are not past their tables
--   let_sound       so is every session that the gate lets pass
--   settled_sound   of an outcome that lies within the source and changes the stack well
--   call_sound      of every call
use Prim.Native.Nat.{ℕ, zero, suc, ◌+◌, ◌-◌, ◌/◌, ◌≤◌}
use Rattle.byte.specs.declared.Refusal.{Refusal}
use mathlib.Core.Path.{◌≡◌, refl, sym, subst, ◌∙◌}
use mathlib.Core.Bool.{Bool, true, false, false≢true}
use mathlib.Core.List.{List, [], ◌∷◌}
use native.Mathlib.Omega.{arith}
use lib.Dec.{eqb, leb}
use lib.ListN.{length, get_or, set}
use borrow.Author.Tests.{leb-true, leb-false}
use Rattle.lexer.proofs.Nexts.{shut_cases}
use Rattle.std.specs.Prelude.{Ok}
use Rattle.source.specs.Cursor.{origin}
use Rattle.byte.specs.Refusals.{wait}
use Rattle.source.specs.declared.Span.{Span}
use Rattle.byte.proofs.Tests.{choice, &&-left, &&-both}
use Rattle.byte.proofs.Words.{every_take, every_set}
use Rattle.state.specs.declared.Frame.{Frame}
use Rattle.state.specs.declared.Slot.{Slot}
use Rattle.state.specs.declared.Session.{Session}
use Rattle.state.specs.Bounds.{is_bottom, no_slot, is_slot, is_stack, is_within, is_good}
use Rattle.state.specs.Calls.{span_of, moved}
use Rattle.state.specs.Gates.{lent_refusal}
use Rattle.state.proofs.Kept.{good_numbers, good_bottom, good_slots, moved_good, entered_good, left_good}
use Rattle.state.proofs.Longer.{top_good}
use Rattle.outcome.specs.declared.Call.{Call}
use Rattle.outcome.specs.declared.Change.{Change}
use Rattle.outcome.specs.Outcomes.{Piece, Outcome, values}
use Rattle.outcome.specs.Insides.{Inside}
use Rattle.outcome.specs.Steps.{top_frame, call_outcome}
use Rattle.outcome.proofs.Ways.{Welcome, ChangeGood, Changes}
use Rattle.outcome.proofs.StepWays.{TopGood, Room, Limited, limited_room, call_ways}
use Rattle.commit.specs.Records.{span_at}
use Rattle.commit.proofs.Putting.{room_facts, put_length}
use Rattle.lexer.specs.Turns.{After, frames_after, depth_after, changed, mark_of, refusing, settled}
use Rattle.lexer.specs.Calls.{called}
use Rattle.lexer.proofs.Nexts.{room, written, settled_cases}
use Rattle.lexer.proofs.Calls.{lent_opened}

-- with a list of so many numbers and a pool of so many bytes
pub record Sound (src : List ℕ) (list pool : ℕ) (s : Session) : Type 0 where
  pub good : is_good src s ≡ true
  pub tokens : s.tokens ≤ list / 8
  pub bytes : s.bytes ≤ pool

pub let_sound : (src : List ℕ) (s : Session) (list pool : ℕ) → lent_refusal src list pool s ≡ Ok tt → Sound src list pool s
let_sound src s list pool e =
    let opened = lent_opened src s list pool e in
    record { good = opened.good; tokens = opened.tokens; bytes = opened.bytes }

-- the session is sound, and list and pool have kept their lengths
pub record StaysSound (src : List ℕ) (l q : List ℕ) (a : After) : Type 0 where
  pub sound : Sound src (length l) (length q) a.turn.session
  pub list : length a.list ≡ length l
  pub pool : length a.pool ≡ length q

-- ---- the mode stack

module _ (src : List ℕ) (s : Session) (e : is_good src s ≡ true) where
  -- the session with another frame on top
  abbrev swapped : Frame → Session
  swapped f = record {
    position = s.position;
    line = s.line;
    column = s.column;
    depth = s.depth;
    tokens = s.tokens;
    bytes = s.bytes;
    frames = set s.frames (s.depth - 1) (record { frame = f });
    choices = s.choices;
  }

  bottom_set : (frames : List Slot) (i : ℕ) (f : Frame) → is_bottom f ≡ true → is_bottom (get_or frames 0 no_slot).frame ≡ true
      → is_bottom (get_or (set frames i (record { frame = f })) 0 no_slot).frame ≡ true
  unfolding is_bottom
  bottom_set [] i f h k = k
  bottom_set (a ∷ frames) zero f h k = h
  bottom_set (a ∷ frames) (suc i) f h k = k

  swapped_good : (top f : Frame) → Welcome src top f → is_good src (swapped f) ≡ true
  unfolding is_good is_stack is_within
  swapped_good top f w =
      let deep : s.depth - 1 + 1 ≡ s.depth = omega (arith, (good_numbers src s e).depth_low) in
      let below = every_take (is_slot src) s.frames (s.depth - 1) s.depth (omega arith) (good_slots src s e) in
      let slots = every_set (is_slot src) s.frames (s.depth - 1) (record { frame = f }) below w.good in
      &&-both _ _ (&&-left (is_within (length src) s) (is_stack src s) e)
      (&&-both _ _ (bottom_set s.frames (s.depth - 1) f w.bottom (good_bottom src s e)) (rw deep at slots))

module _ (src : List ℕ) (s : Session) (e : is_good src s ≡ true) where
  module _ (after tokens bytes : ℕ) (low : s.position ≤ after) (high : after ≤ length src) where
    abbrev there : Session
    there = moved s (span_at src (span_of s) after)

    there_good : is_good src there ≡ true
    there_good = moved_good src s e (after - s.position) (omega arith)

    changed_good : (change : Change) → ChangeGood src (top_frame s) s.depth change → Room s.depth change
        → is_good src (changed s (span_at src (span_of s) after) tokens bytes change) ≡ true
    unfolding is_good is_stack is_within frames_after depth_after
    changed_good Change.Keep c r = there_good
    changed_good (Change.Swap f) c r = swapped_good src there there_good (top_frame s) f c
    changed_good (Change.Enter f) c r = entered_good src there there_good f c r
    changed_good Change.Leave c r = left_good src there there_good c

-- ---- a call

module _ (src : List ℕ) (s : Session) (l q : List ℕ) (h : Sound src (length l) (length q) s) where
  same_sound : (refusal : Refusal) (span : Span) → StaysSound src l q (refusing refusal span s l q)
  same_sound refusal span = record { sound = h; list = refl; pool = refl }

  written_sound : (pieces : List Piece) (after : ℕ) (change : Change) (finished : Bool) → s.position ≤ after
      → after ≤ length src → ChangeGood src (top_frame s) s.depth change → Room s.depth change
      → room src s l q pieces ≡ Ok tt
      → StaysSound src l q (written src s l q pieces after change finished)
  written_sound pieces after change finished low high c r e =
      let fits = room_facts (length l) (length q) s.tokens s.bytes (length pieces) (length (values pieces)) e in
      let size = put_length src after pieces (mark_of s) (record { list = l; pool = q }) fits.0 fits.1 in
      record {
        sound =
            record {
              good = changed_good src s h.good after _ _ low high change c r;
              tokens = fits.0;
              bytes = fits.1;
            };
        list = size.0;
        pool = size.1;
      }

  pub settled_sound : (o : Outcome) → Inside s.position (length src) o → Changes src (top_frame s) s.depth o
      → Limited s.depth o → StaysSound src l q (settled src s l q o)
  settled_sound =
      settled_cases src s l q
      (λ o a.
      Inside s.position (length src) o → Changes src (top_frame s) s.depth o → Limited s.depth o
      → StaysSound src l q a)
      (λ pieces after change finished e i c r. written_sound pieces after change finished i.order i.inside c r e)
      (λ pieces after change finished refusal e i c r. same_sound refusal (span_of s)) (λ refusal place i c r. same_sound refusal _)
      (λ i c r. same_sound wait (span_of s))

  pub position_inside : s.position ≤ length src
  position_inside = (good_numbers src s h.good).position

  -- a frame that is left by its own routine is not the bottom one
  pub top_sound : TopGood src (top_frame s) s.depth
  top_sound = record { frame = top_good src s h.good; deep = go (leb 2 s.depth) refl }
    where
      go : (t : Bool) → leb 2 s.depth ≡ t → is_bottom (top_frame s) ≡ false → 2 ≤ s.depth
      go true e k = leb-true 2 s.depth e
      go false e k =
          let one : s.depth - 1 ≡ 0 = omega (arith, leb-false 2 s.depth e) in
          let bottom = subst (λ (i : ℕ). is_bottom (get_or s.frames i no_slot).frame ≡ false) one k in
          absurd (false≢true (sym bottom ∙ good_bottom src s h.good))

  pub call_sound : (call : Call) (end : Bool) → StaysSound src l q (called call src end s l q)
  unfolding called call_outcome
  call_sound call end =
      let w = call_ways call src end s position_inside in
      shut_cases (StaysSound src l q) (lent_refusal src (length l) (length q) s) s l q _
      (λ e.
      settled_sound (call_outcome call src end s) w.lies (w.stack top_sound) (limited_room s.depth s.position _))
      (λ refusal e. same_sound refusal origin)
