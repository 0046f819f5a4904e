-- What the host's calls keep: a refusal gives back the session, and a good session stays good. Assumes nothing.
--   Kept, skip_kept, push_kept, pop_kept       a refused call gives back the session that was passed (demand 1)
--   Stays, skip_stays, push_stays, pop_stays   what a call makes of a good session is good, its marks and choices
--                                              are the same, and the cursor does not go back
--   good_numbers, good_bottom, good_slots      what a good session is, fact by fact
--   moved_good, entered_good, left_good        a good session at another place, with a frame more, with a frame less
--   fresh_good                                 a fresh session is good, for every source
use Prim.Native.Nat.{ℕ, ◌+◌, ◌-◌, ◌≤◌, ◌<◌}
use mathlib.Core.Path.{◌≡◌, refl}
use mathlib.Core.Bool.{true}
use mathlib.Core.List.{List}
use native.Mathlib.Omega.{arith}
use lib.Dec.{leb, ltb, eqb}
use lib.ListN.{length, get_or, set, take, drop, length-take, length-drop}
use lib.Seq.{get_or-set_other}
use borrow.Author.Tests.{leb-true, ltb-true, le-leb}
use Rattle.std.specs.Prelude.{Result, Ok, Err}
use Rattle.byte.specs.declared.Refusal.{Refusal}
use Rattle.byte.specs.Refusals.{stack_full, out_of_place}
use Rattle.byte.specs.Words.{every}
use Rattle.source.specs.Cursor.{origin, passed}
use Rattle.source.specs.declared.Span.{Span}
use Rattle.byte.proofs.Tests.{&&-left, &&-right, &&-both, choice}
use Rattle.byte.proofs.Words.{every_take, every_set}
use Rattle.source.proofs.Cursor.{passed_position, passed_placed}
use Rattle.state.specs.declared.Frame.{Frame}
use Rattle.state.specs.declared.Choices.{Choices}
use Rattle.state.specs.declared.Session.{Session}
use Rattle.state.specs.declared.Answer.{Answer}
use Rattle.state.specs.declared.Turn.{Turn}
use Rattle.state.specs.Bounds.{is_frame, is_bottom, no_slot, is_slot, is_stack, is_within, is_good}
use Rattle.state.specs.Gates.{gate_refusal}
use Rattle.state.specs.Calls.{span_of, refused, done, gated, moved, entered, left, fresh_session, skipped, pushed, popped}
use Rattle.state.proofs.Bounds.{Within, is_within_facts, within_is_within, within_deep}

-- where the turn's answer is a refusal, its session is s
pub record Kept (s : Session) (t : Turn Refusal) : Type 0 where
  pub back : (refusal : Refusal) (span : Span) → t.answer ≡ Answer.Refused refusal span → t.session ≡ s

refused_kept : (refusal : Refusal) (span : Span) (s : Session) → Kept s (refused refusal span s)
refused_kept refusal span s = record { back = λ n p e. refl }

done_kept : (s t : Session) → Kept s (done t)
done_kept s t = record { back = λ n p e. cc }

gated_kept : (shut : Result (Unit {0}) Refusal) (s : Session) (t : Turn Refusal) → Kept s t → Kept s (gated shut s t)
gated_kept (Ok passes) s t k = k
gated_kept (Err refusal) s t k = refused_kept refusal origin s

module _ (src : List ℕ) (s : Session) where
  pub skip_kept : (count : ℕ) → Kept s (skipped src s count)
  unfolding skipped
  skip_kept count = gated_kept (gate_refusal src s) s _ (choice (Kept s) (leb (s.position + count) (length src)) _ _ (λ e. done_kept s _) (λ e. refused_kept out_of_place (span_of s) s))

  pub push_kept : (f : Frame) → Kept s (pushed src s f)
  unfolding pushed
  push_kept f = gated_kept (gate_refusal src s) s _ (choice (Kept s) (is_frame src f) _ _ (λ e. choice (Kept s) (ltb s.depth 64) _ _ (λ g. done_kept s _) (λ g. refused_kept stack_full (span_of s) s)) (λ e. refused_kept out_of_place (span_of s) s))

  pub pop_kept : Kept s (popped src s)
  unfolding popped
  pop_kept = gated_kept (gate_refusal src s) s _ (choice (Kept s) (ltb 1 s.depth) _ _ (λ e. done_kept s _) (λ e. refused_kept out_of_place (span_of s) s))

-- what a turn makes of a session: a good one stays good, the marks and the choices are the same, and the cursor does
-- not go back
pub record Stays (src : List ℕ) (s : Session) (t : Turn Refusal) : Type 0 where
  pub good : is_good src s ≡ true → is_good src t.session ≡ true
  pub tokens : t.session.tokens ≡ s.tokens
  pub bytes : t.session.bytes ≡ s.bytes
  pub choices : t.session.choices ≡ s.choices
  pub onward : s.position ≤ t.session.position

same_stays : (src : List ℕ) (s : Session) (answer : Answer Refusal) → Stays src s (record { answer = answer; session = s })
same_stays src s answer = record { good = λ e. e; tokens = refl; bytes = refl; choices = refl; onward = omega arith }

gated_stays : (src : List ℕ) (shut : Result (Unit {0}) Refusal) (s : Session) (t : Turn Refusal) → Stays src s t → Stays src s (gated shut s t)
gated_stays src (Ok passes) s t k = k
gated_stays src (Err refusal) s t k = same_stays src s _

-- a session is good where its numbers and its frames are
module _ (src : List ℕ) (s : Session) (e : is_good src s ≡ true) where
  pub good_numbers : Within (length src) s
  unfolding is_good
  good_numbers = is_within_facts (length src) s (&&-left (is_within (length src) s) (is_stack src s) e)

  pub good_frames : is_stack src s ≡ true
  unfolding is_good
  good_frames = &&-right (is_within (length src) s) (is_stack src s) e

  pub good_bottom : is_bottom (get_or s.frames 0 no_slot).frame ≡ true
  unfolding is_stack
  good_bottom = &&-left (is_bottom (get_or s.frames 0 no_slot).frame) (every (is_slot src) (take s.depth s.frames)) good_frames

  pub good_slots : every (is_slot src) (take s.depth s.frames) ≡ true
  unfolding is_stack
  good_slots = &&-right (is_bottom (get_or s.frames 0 no_slot).frame) (every (is_slot src) (take s.depth s.frames)) good_frames

  pub moved_good : (count : ℕ) → s.position + count ≤ length src → is_good src (moved s (passed (span_of s) (take count (drop s.position src)))) ≡ true
  unfolding is_good is_stack
  moved_good count h =
      let w = good_numbers in
      let part = take count (drop s.position src) in
      let n : length part ≡ count = simp (length-take, length-drop) (omega arith) in
      let p = passed_position (span_of s) part in
      let q = passed_placed (span_of s) part (record { line_low = w.line_low; line_high = w.line_high; column_low = w.column_low; column_high = w.column_high }) in
      &&-both _ _
      (within_is_within (length src) (moved s (passed (span_of s) part))
      (record {
        position = omega (arith, p, n);
        depth_low = w.depth_low;
        depth_high = w.depth_high;
        line_low = q.line_low;
        line_high = q.line_high;
        column_low = q.column_low;
        column_high = q.column_high;
      }))
      good_frames

  pub entered_good : (f : Frame) → is_frame src f ≡ true → s.depth < 64 → is_good src (entered s f) ≡ true
  unfolding is_good is_stack
  entered_good f g h =
      let same : get_or (set s.frames s.depth (record { frame = f })) 0 no_slot ≡ get_or s.frames 0 no_slot = get_or-set_other s.frames s.depth 0 _ no_slot (λ (z : 0 ≡ s.depth). omega (arith, good_numbers.depth_low)) in
      let bottom : is_bottom (get_or (set s.frames s.depth (record { frame = f })) 0 no_slot).frame ≡ true = rw same good_bottom in
      &&-both _ _ (within_is_within (length src) (entered s f) (within_deep (length src) s (entered s f) good_numbers refl refl refl (omega arith) (omega arith)))
      (&&-both _ _ bottom (every_set (is_slot src) s.frames s.depth (record { frame = f }) good_slots g))

  pub left_good : 1 < s.depth → is_good src (left s) ≡ true
  unfolding is_good is_stack
  left_good h =
      &&-both _ _ (within_is_within (length src) (left s) (within_deep (length src) s (left s) good_numbers refl refl refl (omega arith) (omega (arith, good_numbers.depth_high))))
      (&&-both _ _ good_bottom (every_take (is_slot src) s.frames (s.depth - 1) s.depth (omega arith) good_slots))

module _ (src : List ℕ) (s : Session) where
  pub skip_stays : (count : ℕ) → Stays src s (skipped src s count)
  unfolding skipped
  skip_stays count =
      gated_stays src (gate_refusal src s) s _
      (choice (Stays src s) (leb (s.position + count) (length src)) _ _
      (λ e.
      record {
        good = λ g. moved_good src s g count (leb-true _ _ e);
        tokens = refl;
        bytes = refl;
        choices = refl;
        onward = omega (arith, passed_position (span_of s) (take count (drop s.position src)));
      })
      (λ e. same_stays src s _))

  pub push_stays : (f : Frame) → Stays src s (pushed src s f)
  unfolding pushed
  push_stays f =
      gated_stays src (gate_refusal src s) s _
      (choice (Stays src s) (is_frame src f) _ _
      (λ e.
      choice (Stays src s) (ltb s.depth 64) _ _
      (λ h.
      record {
        good = λ g. entered_good src s g f e (ltb-true _ _ h);
        tokens = refl;
        bytes = refl;
        choices = refl;
        onward = omega arith;
      })
      (λ h. same_stays src s _))
      (λ e. same_stays src s _))

  pub pop_stays : Stays src s (popped src s)
  unfolding popped
  pop_stays =
      gated_stays src (gate_refusal src s) s _
      (choice (Stays src s) (ltb 1 s.depth) _ _
      (λ e.
      record {
        good = λ g. left_good src s g (ltb-true _ _ e);
        tokens = refl;
        bytes = refl;
        choices = refl;
        onward = omega arith;
      })
      (λ e. same_stays src s _))

pub fresh_good : (src : List ℕ) (choices : Choices) → is_good src (fresh_session choices) ≡ true
unfolding is_good is_within is_stack is_bottom is_frame every
fresh_good src choices = rw (le-leb 0 (length src) (omega arith))
