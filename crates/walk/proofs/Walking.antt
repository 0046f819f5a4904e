-- A walk on its way: what is left of it gives what the whole gives. Assumes nothing.
--   Walking      the walk from the beginning is the walk from here on, of the calls that are left, and each call before
--                it is done; the gate is open here; whether the first call is made; and what was written to the numbers
--   walking-..   where it begins, where it goes on, and where it ends
use Prim.Native.Nat.{ℕ, ◌+◌, ◌*◌, ◌-◌, ◌≤◌, ◌<◌}
use mathlib.Core.Path.{◌≡◌, refl, sym, ap, subst, ◌∙◌}
use mathlib.Core.Bool.{Bool, true, false, not, ◌||◌, false≢true}
use mathlib.Core.List.{List}
use native.Mathlib.Omega.{arith}
use lib.Dec.{eqb, ltb}
use lib.ListN.{length, get_or, drop, set}
use lib.Seq.{get_or-set_same}
use borrow.Author.Tests.{ltb-true, ltb-false, eqb-true, eq-eqb, not-true, not-false}
use Rattle.std.specs.Prelude.{Ok}
use Rattle.byte.specs.Laid.{laid}
use Rattle.byte.specs.declared.Refusal.{Refusal}
use Rattle.state.specs.declared.Answer.{Answer}
use Rattle.state.specs.declared.Frame.{Frame}
use Rattle.state.specs.declared.Choices.{Choices}
use Rattle.state.specs.declared.Slot.{Slot}
use Rattle.state.specs.declared.Session.{Session}
use Rattle.state.specs.declared.Turn.{Turn}
use Rattle.state.specs.Bounds.{is_frame, no_slot}
use Rattle.state.specs.Calls.{done}
use Rattle.state.specs.Gates.{lent_refusal}
use Rattle.layout.specs.Sessions.{slot_numbers, frames_in, are_choices, choices_in, depth_in, session_in}
use Rattle.layout.specs.Answers.{is_unrefused}
use Rattle.layout.specs.Lent.{Rewritten}
use Rattle.layout.proofs.Sessions.{length_frames_in}
use Rattle.layout.proofs.Again.{is_held, depth_some}
use Rattle.layout.proofs.Rewriting.{Slotted, slotted_first, slotted_on, frames_in_laid, is_frame_held, rewritten}
use Rattle.outcome.specs.declared.Call.{Call}
use Rattle.outcome.specs.declared.Change.{Change}
use Rattle.outcome.specs.Steps.{top_frame, call_outcome}
use Rattle.commit.specs.declared.Mark.{Mark}
use Rattle.commit.specs.declared.Next.{Next}
use Rattle.commit.specs.Code.{Committed}
use Rattle.lexer.specs.declared.Place.{Place}
use Rattle.lexer.specs.Turns.{After, Gives, depth_after, frames_after, mark_of, turn_of}
use Rattle.lexer.specs.Calls.{called}
use Rattle.lexer.specs.Code.{session_at, outcome_at, Standing}
use Rattle.lexer.proofs.Calls.{lent_opened, open_depth, open_standing, open_free}
use Rattle.demands.specs.Walks.{called_on, calls_done, is_done}
use Rattle.walk.specs.Walks.{is_written, Walks}
use Rattle.walk.specs.Code.{top_in, frame_after, numbers_after, placed_at, ended_at, Deep, Opened, Changes, Changed}
use Rattle.walk.proofs.Places.{place_still, place_gives, list_kept, pool_kept, place_next}
use Rattle.walk.proofs.Walks.{called_on_on, called_on_over, calls_done_on, calls_done_over, done_unrefused, is_written_some}
use Rattle.walk.proofs.Writes.{changed_place}

abbrev place : Mark → ℕ → Place
place mark depth = record { mark = mark; depth = depth }

-- the session that a place, numbers and choices stand for
abbrev pub standing : Mark → ℕ → List ℕ → Choices → Session
standing mark depth n choices = session_at (place mark depth) (frames_in 64 (drop 7 n)) choices

pub record Walking (first : Call) (most : ℕ) (src : List ℕ) (end : Bool) (n₀ l₀ q₀ : List ℕ) (left : ℕ) (call : Call)
    (mark : Mark) (depth : ℕ) (f : Frame) (choices : Choices) (n l q : List ℕ) : Type 0 where
  pub same : called_on first most src end (session_in n₀) l₀ q₀ ≡ called_on call left src end (standing mark depth n choices) l q
  pub count : calls_done first most src end (session_in n₀) l₀ q₀ + left
      ≡ most + calls_done call left src end (standing mark depth n choices) l q
  pub gate : lent_refusal src (length l) (length q) (standing mark depth n choices) ≡ Ok tt
  pub top : f ≡ top_in n depth
  pub low : 1 ≤ depth
  pub high : depth ≤ 64
  pub list : length l ≡ length l₀
  pub pool : length q ≡ length q₀
  pub size : length n ≡ length n₀
  pub long : 199 ≤ length n
  pub some : 0 < most
  pub least : left ≤ most
  pub fresh : left ≡ most
      → called first src end (session_in n₀) l₀ q₀ ≡ called call src end (standing mark depth n choices) l q
  pub still : left ≡ most → n ≡ n₀
  pub begun : (left ≡ most → ⊥) → is_done (called first src end (session_in n₀) l₀ q₀).turn.answer ≡ true
  pub chosen : choices ≡ choices_in (get_or n₀ 6 0)
  pub flags : are_choices (get_or n₀ 6 0) ≡ true
  pub slots : Slotted n₀ n

-- the depth is the fourth number: the choices are choices
module _ (most : ℕ) (src n₀ l₀ q₀ : List ℕ) (o : Opened most src n₀ (length l₀) (length q₀)) where
  deep : (1 ≤ depth_in (get_or n₀ 3 0) (get_or n₀ 6 0)) × (depth_in (get_or n₀ 3 0) (get_or n₀ 6 0) ≤ 64)
  deep = open_depth Call.Step src true (session_in n₀) l₀ q₀ o.gate

  depth-first : (are_choices (get_or n₀ 6 0) ≡ true) × (depth_in (get_or n₀ 3 0) (get_or n₀ 6 0) ≡ get_or n₀ 3 0)
  depth-first = depth_some (get_or n₀ 3 0) (get_or n₀ 6 0) deep.0

  walking_low : 1 ≤ get_or n₀ 3 0
  walking_low = rw (← depth-first.1) deep.0

  walking_high : get_or n₀ 3 0 ≤ 64
  walking_high = rw (← depth-first.1) deep.1

  pub walking_deep : Deep n₀ (get_or n₀ 3 0)
  walking_deep = record { long = o.long; low = walking_low; high = walking_high }

module _ (first : Call) (most : ℕ) (src : List ℕ) (end : Bool) (n₀ l₀ q₀ : List ℕ) where
  module _ (o : Opened most src n₀ (length l₀) (length q₀)) where
    pub walking_first : (m₀ : Mark) (choices : Choices) (f : Frame) → m₀ ≡ mark_of (session_in n₀)
        → choices ≡ choices_in (get_or n₀ 6 0)
        → f ≡ top_in n₀ (get_or n₀ 3 0)
        → Walking first most src end n₀ l₀ q₀ most first m₀ (get_or n₀ 3 0) f choices n₀ l₀ q₀
    walking_first m₀ choices f m c t =
        let begin : standing m₀ (get_or n₀ 3 0) n₀ choices ≡ session_in n₀ =
        rw (m, c, (depth-first most src n₀ l₀ q₀ o).1) in
        record {
          same = ap (λ (s : Session). called_on first most src end s l₀ q₀) (sym begin);
          count = rw begin (omega arith);
          gate = rw begin o.gate;
          top = t;
          low = walking_low most src n₀ l₀ q₀ o;
          high = walking_high most src n₀ l₀ q₀ o;
          list = refl;
          pool = refl;
          size = refl;
          long = o.long;
          some = o.some;
          least = omega arith;
          fresh = λ e. ap (λ (s : Session). called first src end s l₀ q₀) (sym begin);
          still = λ e. refl;
          begun = λ n. absurd (n refl);
          chosen = c;
          flags = (depth-first most src n₀ l₀ q₀ o).0;
          slots = slotted_first n₀;
        }

  module _ (left : ℕ) (call : Call) (mark : Mark) (depth : ℕ) (f : Frame) (choices : Choices) (n l q : List ℕ)
      (w : Walking first most src end n₀ l₀ q₀ left call mark depth f choices n l q) where
    abbrev here : Session
    here = standing mark depth n choices

    -- the first call, and all
    abbrev one : After
    one = called first src end (session_in n₀) l₀ q₀

    abbrev all : After
    all = called_on first most src end (session_in n₀) l₀ q₀

    pub walking_standing : Standing src f mark (length l) (length q)
    walking_standing = rw w.top (open_standing call src end here l q w.gate)

    -- numbers with a place written over them
    placed_so : (m : Mark) (n' : List ℕ) → n' ≡ placed_at m depth n → Rewritten n₀ (standing m depth n choices) n'
    placed_so m n' e =
        rw w.chosen
        (rewritten n₀ n w.slots (rw (← w.size) w.long) w.flags m.span depth m.tokens m.bytes n' e)

    pub walking_end : (n' : List ℕ) → left ≤ 0 → n' ≡ placed_at mark depth n
        → Walks first most src end n₀ l₀ q₀ (record { answer = Answer.Done; done = most }) n' l q
    unfolding called_on calls_done
    walking_end n' h e =
        let none : left ≡ 0 = omega (arith, h) in
        let zero : calls_done call left src end here l q ≡ 0 = rw none in
        let over : all ≡ record { turn = done here; list = l; pool = q } = w.same ∙ rw (none, w.gate) in
        let done_so = w.begun (λ z. omega (arith, z, none, w.some)) in
        let first_so : is_written most one ≡ true =
        is_written_some most one w.some ∙ rw (done_unrefused one.turn.answer done_so) in
        record {
          answer = rw over;
          done = omega (arith, w.count, none, zero);
          list = rw over;
          pool = rw over;
          stays = λ z. absurd (false≢true (sym z ∙ first_so));
          holds = λ z. rw over (placed_so mark n' e);
        }

    -- the call has made x
    module _ (h : 0 < left) (x : Next Refusal) (l' q' : List ℕ)
        (c : Committed src mark l q (outcome_at call src end f choices (place mark depth)) x l' q') where
      made_so : Committed src (mark_of here) l q (call_outcome call src end here) x l' q'
      unfolding call_outcome
      made_so = subst (λ (g : Frame). Committed src mark l q (outcome_at call src end g choices (place mark depth)) x l' q') w.top c

      made : Gives (called call src end here l q) (turn_of here x) l' q'
      made = place_gives call src end here l q w.gate x l' q' made_so

      answer_same : (called call src end here l q).turn.answer ≡ x.answer
      answer_same = ap (λ (t : Turn Refusal). t.answer) (sym made.turn)

      pub walking_list : length l' ≡ length l₀
      walking_list = list_kept call src end here l q w.gate x l' q' made_so ∙ w.list

      pub walking_pool : length q' ≡ length q₀
      walking_pool = pool_kept call src end here l q w.gate x l' q' made_so ∙ w.pool

      -- whether the numbers are written where x is the last
      written_so : is_written most one ≡ (ltb left most || is_unrefused x.answer)
      written_so = is_written_some most one w.some ∙ go (ltb left most) refl
        where
          go : (t : Bool) → ltb left most ≡ t
              → is_unrefused one.turn.answer ≡ (t || is_unrefused x.answer)
          go true e =
              rw (done_unrefused one.turn.answer (w.begun (λ z. omega (arith, z, ltb-true left most e))))
          go false e =
              let whole : left ≡ most = omega (arith, w.least, ltb-false left most e) in
              ap (λ (a : After). is_unrefused a.turn.answer) (w.fresh whole)
              ∙ ap (λ (a : Answer Refusal). is_unrefused a) answer_same

      module _ (flag : Bool) (d : flag ≡ is_done x.answer) where
        -- it is the last: the frame stays
        pub walking_over : (n' : List ℕ) → not flag ≡ true → n' ≡ ended_at (ltb left most) x.answer x.mark depth n
            → Walks first most src end n₀ l₀ q₀ (record { answer = x.answer; done = most - left }) n' l' q'
        unfolding frames_after depth_after
        walking_over n' t e =
            let over : is_done x.answer ≡ false = sym d ∙ not-true flag t in
            let keep = place_still call src end here l q w.gate x l' q' made_so over in
            let last : all ≡ called call src end here l q =
            w.same ∙ called_on_over call src end here l q left h (ap is_done answer_same ∙ over) in
            let moved : (turn_of here x).session ≡ all.turn.session =
            rw last (ap (λ (t : Turn Refusal). t.session) made.turn) in
            let ends : standing x.mark depth n choices ≡ all.turn.session = rw keep at moved in
            let none = calls_done_over call src end here l q left (ap is_done answer_same ∙ over) in
            record {
              answer = rw last (sym answer_same);
              done = omega (arith, w.count, w.least, none);
              list = rw last made.list;
              pool = rw last made.pool;
              stays = λ z. untouched (sym written_so ∙ z);
              holds = λ z. subst (λ (s : Session). Rewritten n₀ s n') ends (placed_so x.mark n' (e ∙ rw (sym written_so ∙ z)));
            }
          where
            untouched : (ltb left most || is_unrefused x.answer) ≡ false → n' ≡ n₀
            untouched z = e ∙ rw z (go (ltb left most) refl z)
              where
                go : (b : Bool) → ltb left most ≡ b → (b || is_unrefused x.answer) ≡ false → n ≡ n₀
                go true k y = absurd (false≢true (sym y))
                go false k y = w.still (omega (arith, w.least, ltb-false left most k))

        pub walking_changes : Changes n depth x.change
        walking_changes = record {
          stack = record { long = w.long; low = w.low; high = w.high };
          free = open_free call src end here l q w.gate x l' q' made_so;
        }

        -- it is done, and the change of frame is made
        module _ (t : not flag ≡ false) (r : ℕ) (n' : List ℕ) (k : Changed n depth x.change r n') where
          abbrev turned : Session
          turned = (turn_of here x).session

          done_so : is_done x.answer ≡ true
          done_so = sym d ∙ not-false flag t

          gate_next : lent_refusal src (length l') (length q') turned ≡ Ok tt
          gate_next = place_next call src end here l q w.gate x l' q' made_so

          deep_next : (1 ≤ turned.depth) × (turned.depth ≤ 64)
          deep_next = open_depth Call.Step src end turned l' q' gate_next

          -- a frame that a change puts on top
          module _ (g : Frame) (i : ℕ) (inside : i < 64) (e : turned.frames ≡ set (frames_in 64 (drop 7 n)) i
              (record { frame = g }))
              (p : turned.depth - 1 ≡ i) where
            on_top : top_frame turned ≡ g
            on_top =
                let z : i < length (frames_in 64 (drop 7 n)) = rw (length_frames_in 64 (drop 7 n)) inside in
                ap (λ (y : List Slot). (get_or y (turned.depth - 1) no_slot).frame) e
                ∙ ap (λ (j : ℕ). (get_or (set (frames_in 64 (drop 7 n)) i (record { frame = g })) j no_slot).frame) p
                ∙ ap (λ (y : Slot). y.frame) (get_or-set_same (frames_in 64 (drop 7 n)) i (record { frame = g }) no_slot z)

            held : is_held (record { frame = g }) ≡ true
            held =
                is_frame_held src g (lent_opened src here (length l) (length q) w.gate).source
                (subst (λ (y : Frame). is_frame src y ≡ true) on_top (open_standing Call.Step src end turned l' q' gate_next).top)

            slot_written : (frames_in 64 (drop 7 (laid n (7 + i * 3) (slot_numbers (record { frame = g }))))
                ≡ set (frames_in 64 (drop 7 n)) i (record { frame = g }))
                × Slotted n₀ (laid n (7 + i * 3) (slot_numbers (record { frame = g })))
            slot_written = (
              frames_in_laid n i (record { frame = g }) w.long inside held,
              slotted_on n₀ n w.slots (rw (← w.size) w.long) i inside (record { frame = g }) held,
            )

          enters : (g : Frame) → x.change ≡ Change.Enter g → depth < 64
          enters g e = changed_place n depth x.change g walking_changes e

          -- the numbers after the change, and the frame on top of them
          written : (change : Change) → x.change ≡ change
              → (frames_in 64 (drop 7 (numbers_after change depth n)) ≡ frames_after change depth (frames_in 64 (drop 7 n)))
              × Slotted n₀ (numbers_after change depth n)
          unfolding numbers_after frames_after depth_after
          written Change.Keep e = (refl, w.slots)
          written (Change.Swap g) e = slot_written g (depth - 1) (omega (arith, w.low, w.high)) (rw e) (rw e)
          written (Change.Enter g) e = slot_written g depth (enters g e) (rw e) (rw e (omega arith))
          written Change.Leave e = (refl, w.slots)

          frames_next : frames_in 64 (drop 7 n') ≡ turned.frames
          frames_next = ap (λ (y : List ℕ). frames_in 64 (drop 7 y)) k.holds ∙ (written x.change refl).0

          slots_next : Slotted n₀ n'
          slots_next = rw k.holds (written x.change refl).1

          top_next : top_in n' r ≡ top_frame turned
          top_next =
              ap (λ (y : List Slot). (get_or y (r - 1) no_slot).frame) frames_next
              ∙ ap (λ (j : ℕ). (get_or turned.frames (j - 1) no_slot).frame) k.deep

          topped : (change : Change) → x.change ≡ change → frame_after f change (top_in n' r) ≡ top_in n' r
          unfolding frame_after frames_after depth_after
          topped Change.Keep e = w.top ∙ sym (top_next ∙ rw e)
          topped (Change.Swap g) e = sym (top_next ∙ on_top g (depth - 1) (omega (arith, w.low, w.high)) (rw e) (rw e))
          topped (Change.Enter g) e = sym (top_next ∙ on_top g depth (enters g e) (rw e) (rw e (omega arith)))
          topped Change.Leave e = refl

          pub walking_size : length n' ≡ length n₀
          walking_size = slots_next.size

          pub walking_next : Deep n' r
          walking_next = record {
            long = rw (slots_next.size, ← w.size) w.long;
            low = rw k.deep deep_next.0;
            high = rw k.deep deep_next.1;
          }

          begun_so : is_done one.turn.answer ≡ true
          begun_so = go (eqb left most) refl
            where
              go : (b : Bool) → eqb left most ≡ b → is_done one.turn.answer ≡ true
              go true e =
                  ap (λ (a : After). is_done a.turn.answer) (w.fresh (eqb-true left most e))
                  ∙ ap is_done answer_same ∙ done_so
              go false e = w.begun (λ z. false≢true (sym e ∙ eq-eqb left most z))

          pub walking_on : (f' : Frame) → f' ≡ frame_after f x.change (top_in n' r)
              → Walking first most src end n₀ l₀ q₀ (left - 1) Call.Step x.mark r f' choices n' l' q'
          walking_on f' e =
              let same-so : standing x.mark r n' choices ≡ turned =
              ap (λ (j : ℕ). session_at (place x.mark j) (frames_in 64 (drop 7 n')) choices) k.deep
              ∙ ap (λ (y : List Slot). session_at (place x.mark turned.depth) y choices) frames_next in
              let after = called_on_on call src end here l q left h (ap is_done answer_same ∙ done_so) in
              let more = calls_done_on call src end here l q left h (ap is_done answer_same ∙ done_so) in
              record {
                same = rw (same-so, made.list, made.pool) (w.same ∙ (rw (← made.turn) at after));
                count = rw (same-so, made.list, made.pool) (omega (arith, w.count, h, rw (← made.turn) at more));
                gate = rw same-so gate_next;
                top = e ∙ topped x.change refl;
                low = walking_next.low;
                high = walking_next.high;
                list = walking_list;
                pool = walking_pool;
                size = walking_size;
                long = walking_next.long;
                some = w.some;
                least = omega (arith, w.least);
                fresh = λ z. absurd (omega (arith, z, h, w.least));
                still = λ z. absurd (omega (arith, z, h, w.least));
                begun = λ z. begun_so;
                chosen = w.chosen;
                flags = w.flags;
                slots = slots_next;
              }
