-- Two outcomes that differ make different answers, in tables with room for both: nothing that a call comes to is lost
-- on its way to the host. Assumes nothing.
--   Shows            a change that can be seen: a swap brings another frame than the one on top, and a frame that is
--                    entered has a slot
--   handed_apart     outcomes that differ hand different tokens, answers or sessions
--   outcomes_apart   so they make different sessions, answers or tables
--   call_shows       every change of a call can be seen
--   calls_apart      so calls that give the same come to the same
use Prim.Native.Nat.{ℕ, ◌+◌, ◌-◌, ◌≤◌, ◌<◌}
use mathlib.Core.Path.{◌≡◌, refl, sym, ap, ◌∙◌}
use mathlib.Core.Bool.{Bool, true, false, not, false≢true}
use mathlib.Core.List.{List, [], ◌∷◌}
use native.Mathlib.Omega.{arith}
use lib.ListN.{length, get_or, drop, set}
use lib.Seq.{get_or-set_same}
use Rattle.byte.proofs.Refusals.{same_here}
use Rattle.byte.specs.Refusals.{wait}
use Rattle.byte.specs.declared.Refusal.{Refusal}
use Rattle.source.specs.declared.Span.{Span}
use Rattle.state.specs.declared.Frame.{Frame}
use Rattle.state.specs.declared.Session.{Session}
use Rattle.state.specs.declared.Slot.{Slot}
use Rattle.state.specs.Bounds.{no_slot, is_scripting}
use Rattle.state.specs.Calls.{span_of}
use Rattle.state.specs.Gates.{tables_fit}
use Rattle.state.proofs.Kept.{good_numbers}
use Rattle.outcome.specs.declared.Call.{Call}
use Rattle.outcome.specs.declared.Change.{Change}
use Rattle.outcome.specs.Outcomes.{Piece, Outcome}
use Rattle.outcome.specs.Insides.{AllInside, Inside}
use Rattle.outcome.specs.Steps.{top_frame, call_outcome}
use Rattle.outcome.proofs.Ways.{Changes}
use Rattle.outcome.proofs.StepWays.{Limited, limited_room, call_ways, call_inside}
use Rattle.commit.specs.Records.{span_at, answer_of}
use Rattle.lexer.specs.Turns.{frames_after, depth_after, settled}
use Rattle.lexer.specs.Calls.{called}
use Rattle.demands.specs.Emptied.{Taken, takens, emptied, lacks_room, Handed, taking}
use Rattle.demands.proofs.Kept.{answer_told}
use Rattle.demands.proofs.Good.{Sound, position_inside, top_sound}
use Rattle.demands.proofs.Rising.{span_place}
use Rattle.demands.proofs.Taken.{handed_of, settled_hands, hands_taking}
use Rattle.demands.proofs.Emptied.{opened}

-- ---- pieces

-- places that bear one span are one
place_apart : (src : List ℕ) (p : Span) (place place' : ℕ) → p.position ≤ place → place ≤ length src
    → p.position ≤ place' → place' ≤ length src → span_at src p place ≡ span_at src p place' → place ≡ place'
place_apart src p place place' low high low' high' e =
    sym (span_place src p place low high) ∙ ap (λ (x : Span). x.position) e ∙ span_place src p place' low' high'

nil_apart : {A : Type 0} (x : A) (xs : List A) → [] ≡ x ∷ xs → ⊥
nil_apart x xs e = let z : ◌≡◌ {A = ℕ} 0 (1 + length xs) = ap length e ∙ omega arith in omega (arith, z)

head_same : {A : Type 0} (x y : A) (xs ys : List A) → x ∷ xs ≡ y ∷ ys → x ≡ y
head_same x y xs ys e = ap (λ l. get_or l 0 x) e

tail_same : {A : Type 0} (x y : A) (xs ys : List A) → x ∷ xs ≡ y ∷ ys → xs ≡ ys
tail_same x y xs ys e = ap (λ l. drop 1 l) e

module _ (src : List ℕ) (p : Span) where
  pieces_apart : (n after n' after' : ℕ) (pieces pieces' : List Piece) → p.position ≤ n → after ≤ length src
      → AllInside n after pieces → p.position ≤ n' → after' ≤ length src → AllInside n' after' pieces'
      → takens src after p pieces ≡ takens src after' p pieces' → pieces ≡ pieces'
  unfolding takens
  pieces_apart n after n' after' [] [] low high i low' high' i' e = refl
  pieces_apart n after n' after' [] (x ∷ xs) low high i low' high' i' e = absurd (nil_apart _ _ e)
  pieces_apart n after n' after' (x ∷ xs) [] low high i low' high' i' e = absurd (nil_apart _ _ (sym e))
  pieces_apart n after n' after' (x ∷ xs) (y ∷ ys) low high i low' high' i' e =
      let first = head_same _ _ _ _ e in
      let place = place_apart src p x.place y.place (omega (arith, i.0.low)) (omega (arith, i.0.high))
      (omega (arith, i'.0.low)) (omega (arith, i'.0.high)) (ap (λ (t : Taken). t.span) first) in
      let kind : x.kind ≡ y.kind = ap (λ (t : Taken). t.kind) first in
      let detail : x.detail ≡ y.detail = ap (λ (t : Taken). t.detail) first in
      let value : x.value ≡ y.value = ap (λ (t : Taken). t.value) first in
      let same : x ≡ y = λ j. record { kind = kind j; detail = detail j; place = place j; value = value j } in
      rw (
        same,
        pieces_apart x.place after y.place after' xs ys (omega (arith, i.0.low)) high i.1
            (omega (arith, i'.0.low)) high' i'.1 (tail_same _ _ _ _ e),
      )

-- ---- changes

-- in a session with this frame on top
abbrev pub Shows : Session → Change → Type 0
Shows s Change.Keep = Unit {0}
Shows s (Change.Swap f) = f ≡ top_frame s → ⊥
Shows s (Change.Enter f) = s.depth < length s.frames
Shows s Change.Leave = Unit {0}

abbrev pub ShowsAll : Session → Outcome → Type 0
ShowsAll s (Outcome.Told pieces after change finished) = Shows s change
ShowsAll s (Outcome.Refused refusal place) = Unit {0}
ShowsAll s Outcome.Wait = Unit {0}

-- the slot at i, which is there, holds f
slot_set : (frames : List Slot) (i : ℕ) (f : Frame) → i < length frames
    → (get_or (set frames i (record { frame = f })) i no_slot).frame ≡ f
slot_set frames i f h = ap (λ (x : Slot). x.frame) (get_or-set_same frames i (record { frame = f }) no_slot h)

slot_apart : (frames : List Slot) (i : ℕ) (f g : Frame) → i < length frames
    → set frames i (record { frame = f }) ≡ set frames i (record { frame = g }) → f ≡ g
slot_apart frames i f g h e =
    sym (slot_set frames i f h) ∙ ap (λ (l : List Slot). (get_or l i no_slot).frame) e ∙ slot_set frames i g h

module _ (s : Session) (some : 1 ≤ s.depth) (slots : s.depth ≤ length s.frames) where
  -- a swap that brings the frame on top
  idle : (f : Frame) → s.frames ≡ set s.frames (s.depth - 1) (record { frame = f }) → f ≡ top_frame s
  idle f e =
      sym (slot_set s.frames (s.depth - 1) f (omega arith))
      ∙ ap (λ (l : List Slot). (get_or l (s.depth - 1) no_slot).frame) (sym e)

  changes_apart : (c d : Change) → Shows s c → Shows s d → depth_after c s.depth ≡ depth_after d s.depth
      → frames_after c s.depth s.frames ≡ frames_after d s.depth s.frames → c ≡ d
  unfolding depth_after frames_after
  changes_apart Change.Keep Change.Keep x y k e = refl
  changes_apart Change.Keep (Change.Swap g) x y k e = absurd (y (idle g e))
  changes_apart Change.Keep (Change.Enter g) x y k e = absurd (omega (arith, k))
  changes_apart Change.Keep Change.Leave x y k e = absurd (omega (arith, k, some))
  changes_apart (Change.Swap f) Change.Keep x y k e = absurd (x (idle f (sym e)))
  changes_apart (Change.Swap f) (Change.Swap g) x y k e =
      ap Change.Swap (slot_apart s.frames (s.depth - 1) f g (omega (arith, some, slots)) e)
  changes_apart (Change.Swap f) (Change.Enter g) x y k e = absurd (omega (arith, k))
  changes_apart (Change.Swap f) Change.Leave x y k e = absurd (omega (arith, k, some))
  changes_apart (Change.Enter f) Change.Keep x y k e = absurd (omega (arith, k))
  changes_apart (Change.Enter f) (Change.Swap g) x y k e = absurd (omega (arith, k))
  changes_apart (Change.Enter f) (Change.Enter g) x y k e = ap Change.Enter (slot_apart s.frames s.depth f g x e)
  changes_apart (Change.Enter f) Change.Leave x y k e = absurd (omega (arith, k))
  changes_apart Change.Leave Change.Keep x y k e = absurd (omega (arith, k, some))
  changes_apart Change.Leave (Change.Swap g) x y k e = absurd (omega (arith, k, some))
  changes_apart Change.Leave (Change.Enter g) x y k e = absurd (omega (arith, k))
  changes_apart Change.Leave Change.Leave x y k e = refl

-- ---- outcomes

answers_apart : (x y : Bool) → answer_of {R = Refusal} x ≡ answer_of y → x ≡ y
answers_apart true true e = refl
answers_apart true false e = absurd (let z : ◌≡◌ {A = ℕ} 0 1 = cc in omega arith)
answers_apart false true e = absurd (let z : ◌≡◌ {A = ℕ} 0 1 = cc in omega arith)
answers_apart false false e = refl

module _ (src : List ℕ) (s : Session) (some : 1 ≤ s.depth) (slots : s.depth ≤ length s.frames) where
  abbrev In : Outcome → Type 0
  In o = Inside s.position (length src) o × ShowsAll s o

  handed_apart : (o o' : Outcome) → In o → In o' → handed_of src (emptied s) o ≡ handed_of src (emptied s) o' → o ≡ o'
  handed_apart (Outcome.Told pieces after change finished) (Outcome.Told pieces' after' change' finished') i i' e =
      let session = ap (λ (h : Handed). h.session) e in
      let there = ap (λ (x : Session). x.position) session in
      let place : after ≡ after' =
      sym (span_place src (span_of s) after i.0.order i.0.inside)
      ∙ there
      ∙ span_place src (span_of s) after' i'.0.order i'.0.inside in
      let all =
      pieces_apart src (span_of s) s.position after s.position after' pieces pieces' (omega arith) i.0.inside
      i.0.all (omega arith) i'.0.inside i'.0.all (ap (λ (h : Handed). h.tokens) e) in
      let same =
      changes_apart s some slots change change' i.1 i'.1 (ap (λ (x : Session). x.depth) session)
      (ap (λ (x : Session). x.frames) session) in
      let over = answers_apart finished finished' (ap (λ (h : Handed). h.answer) e) in
      rw (all, place, same, over)
  handed_apart (Outcome.Told pieces after change finished) (Outcome.Refused refusal place) i i' e =
      absurd (answer_told finished refusal _ (ap (λ (h : Handed). h.answer) e))
  handed_apart (Outcome.Told pieces after change finished) Outcome.Wait i i' e =
      absurd (answer_told finished wait _ (ap (λ (h : Handed). h.answer) e))
  handed_apart (Outcome.Refused refusal place) (Outcome.Told pieces after change finished) i i' e =
      absurd (answer_told finished refusal _ (sym (ap (λ (h : Handed). h.answer) e)))
  handed_apart (Outcome.Refused refusal place) (Outcome.Refused refusal' place') i i' e =
      let answer = ap (λ (h : Handed). h.answer) e in
      let one : refusal ≡ refusal' = cc in
      let span : span_at src (span_of s) place ≡ span_at src (span_of s) place' = cc in
      rw (one, place_apart src (span_of s) place place' i.0.low i.0.high i'.0.low i'.0.high span)
  handed_apart (Outcome.Refused refusal place) Outcome.Wait i i' e =
      let answer = ap (λ (h : Handed). h.answer) e in
      let one : refusal ≡ wait = cc in
      absurd (false≢true (sym i.0.told ∙ same_here refusal wait one))
  handed_apart Outcome.Wait (Outcome.Told pieces after change finished) i i' e =
      absurd (answer_told finished wait _ (sym (ap (λ (h : Handed). h.answer) e)))
  handed_apart Outcome.Wait (Outcome.Refused refusal place) i i' e =
      let answer = ap (λ (h : Handed). h.answer) e in
      let one : refusal ≡ wait = cc in
      absurd (false≢true (sym i'.0.told ∙ same_here refusal wait one))
  handed_apart Outcome.Wait Outcome.Wait i i' e = refl

  pub outcomes_apart : (l q : List ℕ) (o o' : Outcome) → Inside s.position (length src) o
      → Inside s.position (length src) o' → ShowsAll s o → ShowsAll s o'
      → lacks_room (settled src s l q o).turn.answer ≡ false → lacks_room (settled src s l q o').turn.answer ≡ false
      → settled src s l q o ≡ settled src s l q o' → o ≡ o'
  outcomes_apart l q o o' i i' x x' r r' e =
      handed_apart o o' (i, x) (i', x')
      (sym (hands_taking (settled_hands src s l q o r))
      ∙ ap (taking s) e
      ∙ hands_taking (settled_hands src s l q o' r'))

-- ---- calls

not_own : (b : Bool) → b ≡ not b → ⊥
not_own true e = false≢true (sym e)
not_own false e = false≢true e

module _ (src : List ℕ) (s : Session) (size : length s.frames ≡ 64) where
  shows : (o : Outcome) → Changes src (top_frame s) s.depth o → Limited s.depth o → ShowsAll s o
  shows (Outcome.Told pieces after Change.Keep finished) c r = tt
  shows (Outcome.Told pieces after (Change.Swap f) finished) c r =
      λ e. not_own (is_scripting f) (c.other ∙ ap (λ (g : Frame). not (is_scripting g)) (sym e))
  shows (Outcome.Told pieces after (Change.Enter f) finished) c r = omega (arith, r, size)
  shows (Outcome.Told pieces after Change.Leave finished) c r = tt
  shows (Outcome.Refused refusal place) c r = tt
  shows Outcome.Wait c r = tt

  module _ (l q : List ℕ) (h : Sound src (length l) (length q) s) where
    pub call_shows : (call : Call) (end : Bool) → ShowsAll s (call_outcome call src end s)
    unfolding call_outcome
    call_shows call end =
        shows (call_outcome call src end s)
        ((call_ways call src end s (position_inside src s l q h)).stack (top_sound src s l q h))
        (limited_room s.depth s.position _)

    pub calls_apart : length src ≤ 65536 → tables_fit (length l) (length q) ≡ true
        → (call call' : Call) (end end' : Bool)
        → lacks_room (called call src end s l q).turn.answer ≡ false
        → lacks_room (called call' src end' s l q).turn.answer ≡ false
        → called call src end s l q ≡ called call' src end' s l q
        → call_outcome call src end s ≡ call_outcome call' src end' s
    calls_apart short fit call call' end end' r r' e =
        let depth = good_numbers src s h.good in
        let one = opened call src end s l q short fit h in
        let two = opened call' src end' s l q short fit h in
        let place = position_inside src s l q h in
        outcomes_apart src s depth.depth_low (omega (arith, depth.depth_high, size)) l q
        (call_outcome call src end s) (call_outcome call' src end' s) (call_inside call src end s place)
        (call_inside call' src end' s place) (call_shows call end) (call_shows call' end') (rw one at r) (rw two at r') (sym one ∙ e ∙ two)
