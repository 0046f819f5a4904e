-- Steps in a row. Assumes nothing.
--   call_open                    after an open gate every call leaves it open
--   done_open                    a call that is done has found it open
--   walked_sum                   a walk that is done, and a walk from where it stands, are one walk
--   WalkEnds, walk_last          a walk that ends: done steps, and the step after them is its last
--   walk_refused                 a refused walk: done steps, and one refused step that changed nothing
--   steps-done, steps_finished   how many steps are done where the walk is done, and where it is finished
--   steps_one                    only one number of done steps is followed by a step that is not done
--   calls_done_steps             of a step and the steps after it as many are done as of a walk
use Prim.Native.Nat.{ℕ, zero, suc, ◌+◌, ◌-◌, ◌<◌}
use Rattle.byte.specs.declared.Refusal.{Refusal}
use mathlib.Core.Path.{◌≡◌, refl, sym, ap, subst, ◌∙◌}
use mathlib.Core.Bool.{Bool, true, false, false≢true}
use mathlib.Core.List.{List}
use native.Mathlib.Omega.{arith}
use native.Mathlib.Nat.{zero-add, suc-add}
use lib.Dec.{eqb}
use lib.ListN.{length}
use borrow.Author.Tests.{eqb-true, le-leb}
use Rattle.std.specs.Prelude.{Ok}
use Rattle.std.specs.Prelude.{Err}
use Rattle.std.specs.Prelude.{Result}
use Rattle.byte.proofs.Tests.{&&-both}
use Rattle.source.specs.declared.Span.{Span}
use Rattle.state.specs.declared.Answer.{Answer}
use Rattle.state.specs.declared.Session.{Session}
use Rattle.state.specs.Gates.{lent_refusal, tables_fit}
use Rattle.outcome.specs.declared.Call.{Call}
use Rattle.lexer.specs.Turns.{After}
use Rattle.lexer.specs.Calls.{called, stepped}
use Rattle.lexer.proofs.Calls.{lent_opened}
use Rattle.demands.specs.Walks.{walked, counted, steps_done, calls_done, is_done}
use Rattle.demands.proofs.Kept.{call_kept}
use Rattle.demands.proofs.Good.{Sound, call_sound}
use Rattle.demands.proofs.Longer.{gate_open}
use Rattle.demands.proofs.Cuts.{Ended, walk_more, walked_on, walked_last}

-- ---- the gate

-- the gate is open after it
abbrev pub Open : List ℕ → After → Type 0
Open src a = lent_refusal src (length a.list) (length a.pool) a.turn.session ≡ Ok tt

module _ (call : Call) (src : List ℕ) (end : Bool) (s : Session) (l q : List ℕ) where
  pub call_open : lent_refusal src (length l) (length q) s ≡ Ok tt → Open src (called call src end s l q)
  unfolding tables_fit
  call_open gate =
      let opened = lent_opened src s (length l) (length q) gate in
      let before : Sound src (length l) (length q) s =
      record { good = opened.good; tokens = opened.tokens; bytes = opened.bytes } in
      let sound = call_sound src s l q before call end in
      rw (sound.list, sound.pool)
      (gate_open src (length l) (length q) _ sound.sound opened.source
      (&&-both _ _ (le-leb _ _ opened.room) (le-leb _ _ opened.places)))

  pub done_open : is_done (called call src end s l q).turn.answer ≡ true → lent_refusal src (length l) (length q) s ≡ Ok tt
  unfolding called is_done
  done_open d = go (lent_refusal src (length l) (length q) s) refl
    where
      go : (told : Result (Unit {0}) Refusal) → lent_refusal src (length l) (length q) s ≡ told
          → lent_refusal src (length l) (length q) s ≡ Ok tt
      go (Ok tt) e = e
      go (Err refusal) e = absurd (false≢true (rw e at d))

-- ---- walks

-- the step from where a walk stands
abbrev pub next : List ℕ → Bool → After → After
next src end a = stepped src end a.turn.session a.list a.pool

ended_undone : (a : Answer Refusal) → Ended a → a ≡ Answer.Done → ⊥
ended_undone a h e = subst Ended e h

-- a walk after its first step: it goes on, or the step is the last
module _ (src : List ℕ) (end : Bool) (s : Session) (l q : List ℕ) where
  abbrev now : After
  now = stepped src end s l q

  stepped_ways : (P : Type 0) → (now.turn.answer ≡ Answer.Done → P)
      → ((a : Answer Refusal) → now.turn.answer ≡ a → Ended a → P) → P
  stepped_ways P on over = go now.turn.answer refl
    where
      go : (a : Answer Refusal) → now.turn.answer ≡ a → P
      go Answer.Done e = on e
      go Answer.Finished e = over Answer.Finished e tt
      go (Answer.Refused refusal span) e = over (Answer.Refused refusal span) e tt

  one : walked 1 src end s l q ≡ now
  unfolding walked
  one =
      stepped_ways _ (λ e. walked_on 0 src end s l q e ∙ rw (← e)) (λ a e h. walked_last 0 src end s l q a e h)

module _ (src : List ℕ) (end : Bool) where
  pub walked_sum : (m k : ℕ) (s : Session) (l q : List ℕ) → (walked m src end s l q).turn.answer ≡ Answer.Done
      → walked (m + k) src end s l q
      ≡ walked k src end (walked m src end s l q).turn.session (walked m src end s l q).list
      (walked m src end s l q).pool
  unfolding walked
  walked_sum zero k s l q d = rw (zero-add k)
  walked_sum (suc m) k s l q d =
      rw (suc-add m k)
      (stepped_ways src end s l q _
      (λ e.
      let on = walked_on m src end s l q e in
      walked_on (m + k) src end s l q e
      ∙ walked_sum m k _ _ _ (ap (λ (x : After). x.turn.answer) (sym on) ∙ d)
      ∙ ap (λ (x : After). walked k src end x.turn.session x.list x.pool) (sym on))
      (λ a e h.
      let last = walked_last m src end s l q a e h in
      absurd (ended_undone a h (sym e ∙ ap (λ (x : After). x.turn.answer) (sym last) ∙ d))))

  -- one more step
  pub walked_next : (m : ℕ) (s : Session) (l q : List ℕ) → (walked m src end s l q).turn.answer ≡ Answer.Done
      → walked (m + 1) src end s l q ≡ next src end (walked m src end s l q)
  walked_next m s l q d = walked_sum m 1 s l q d ∙ one src end _ _ _

module _ (src : List ℕ) (end : Bool) where
  -- it ends: m steps are done, and the step after them is its last
  pub record WalkEnds (n m : ℕ) (s : Session) (l q : List ℕ) : Type 0 where
    pub fewer : m < n
    pub before : (walked m src end s l q).turn.answer ≡ Answer.Done
    pub last : walked n src end s l q ≡ next src end (walked m src end s l q)

  ends_on : (n m : ℕ) (s : Session) (l q : List ℕ) → (now src end s l q).turn.answer ≡ Answer.Done
      → WalkEnds n m (now src end s l q).turn.session (now src end s l q).list (now src end s l q).pool
      → WalkEnds (suc n) (suc m) s l q
  ends_on n m s l q e w =
      let on = walked_on m src end s l q e in
      record {
        fewer = omega (arith, w.fewer);
        before = ap (λ (x : After). x.turn.answer) on ∙ w.before;
        last = walked_on n src end s l q e ∙ w.last ∙ ap (next src end) (sym on);
      }

  pub walk_last : (n : ℕ) (s : Session) (l q : List ℕ) → Ended (walked n src end s l q).turn.answer
      → WalkEnds n (steps_done n src end s l q) s l q
  unfolding walked steps_done counted
  walk_last zero s l q h = absurd h
  walk_last (suc n) s l q h =
      stepped_ways src end s l q _
      (λ e.
      let on = walked_on n src end s l q e in
      rw e
      (ends_on n _ s l q e
      (walk_last n _ _ _ (subst (λ (x : After). Ended x.turn.answer) on h))))
      (λ a e k. over a e k)
    where
      over : (a : Answer Refusal) → (now src end s l q).turn.answer ≡ a → Ended a
          → WalkEnds (suc n) (steps_done (suc n) src end s l q) s l q
      over Answer.Done e k = absurd k
      over Answer.Finished e k =
          rw e (record { fewer = omega arith; before = refl; last = walked_last n src end s l q _ e tt })
      over (Answer.Refused refusal span) e k =
          rw e (record { fewer = omega arith; before = refl; last = walked_last n src end s l q _ e tt })

  -- ---- by the answer

  -- m steps are done, and one more is refused: it changed nothing
  pub record WalkRefused (refusal : Refusal) (span : Span) (n m : ℕ) (s : Session) (l q : List ℕ) : Type 0 where
    pub fewer : m < n
    pub before : (walked m src end s l q).turn.answer ≡ Answer.Done
    pub session : (walked n src end s l q).turn.session ≡ (walked m src end s l q).turn.session
    pub list : (walked n src end s l q).list ≡ (walked m src end s l q).list
    pub pool : (walked n src end s l q).pool ≡ (walked m src end s l q).pool
    pub step : (next src end (walked m src end s l q)).turn.answer ≡ Answer.Refused refusal span

  module _ (n : ℕ) (s : Session) (l q : List ℕ) where
    pub walk_refused : (refusal : Refusal) (span : Span) → (walked n src end s l q).turn.answer ≡ Answer.Refused refusal span
        → WalkRefused refusal span n (steps_done n src end s l q) s l q
    walk_refused refusal span e =
        let w = walk_last n s l q (rw e tt) in
        let there = walked (steps_done n src end s l q) src end s l q in
        let told : (next src end there).turn.answer ≡ Answer.Refused refusal span =
        ap (λ (x : After). x.turn.answer) (sym w.last) ∙ e in
        let keeps = call_kept src there.turn.session there.list there.pool Call.Step end in
        let kept = keeps.back refusal span told in
        record {
          fewer = w.fewer;
          before = w.before;
          session = ap (λ (x : After). x.turn.session) w.last ∙ kept.0;
          list = ap (λ (x : After). x.list) w.last ∙ kept.1;
          pool = ap (λ (x : After). x.pool) w.last ∙ kept.2;
          step = told;
        }

    -- finished: the step after them is the finished one
    pub steps_finished : (walked n src end s l q).turn.answer ≡ Answer.Finished
        → WalkEnds n (steps_done n src end s l q) s l q
        × ((next src end (walked (steps_done n src end s l q) src end s l q)).turn.answer ≡ Answer.Finished)
    steps_finished e =
        let w = walk_last n s l q (rw e tt) in
        (w, ap (λ (x : After). x.turn.answer) (sym w.last) ∙ e)

  pub steps-done : (n : ℕ) (s : Session) (l q : List ℕ) → (walked n src end s l q).turn.answer ≡ Answer.Done
      → steps_done n src end s l q ≡ n
  unfolding steps_done counted
  steps-done zero s l q d = refl
  steps-done (suc n) s l q d =
      stepped_ways src end s l q _
      (λ e.
      let on = walked_on n src end s l q e in
      rw e (ap suc (steps-done n _ _ _ (ap (λ (x : After). x.turn.answer) (sym on) ∙ d))))
      (λ a e h.
      let last = walked_last n src end s l q a e h in
      absurd (ended_undone a h (sym e ∙ ap (λ (x : After). x.turn.answer) (sym last) ∙ d)))

  -- after fewer it would go on, after more it would be over
  module _ (s : Session) (l q : List ℕ) where
    ends_first : (j m : ℕ) → (walked j src end s l q).turn.answer ≡ Answer.Done
        → Ended (next src end (walked j src end s l q)).turn.answer
        → (walked m src end s l q).turn.answer ≡ Answer.Done → j < m → ⊥
    ends_first j m d h e less =
        let more = walked_next src end j s l q d in
        let ended : Ended (walked (j + 1) src end s l q).turn.answer = rw more h in
        let split : j + 1 + (m - (j + 1)) ≡ m = omega (arith, less) in
        let same = walk_more (j + 1) (m - (j + 1)) src end s l q ended in
        let over : walked m src end s l q ≡ walked (j + 1) src end s l q = rw split at same in
        ended_undone _ ended (ap (λ (x : After). x.turn.answer) (sym over) ∙ e)

    pub steps_one : (n j : ℕ) → Ended (walked n src end s l q).turn.answer
        → (walked j src end s l q).turn.answer ≡ Answer.Done
        → Ended (next src end (walked j src end s l q)).turn.answer
        → j ≡ steps_done n src end s l q
    steps_one n j h d k =
        let w = walk_last n s l q h in
        let m = steps_done n src end s l q in
        let ended : Ended (next src end (walked m src end s l q)).turn.answer =
        subst (λ (x : After). Ended x.turn.answer) w.last h in
        omega (arith, ends_first j m d k w.before, ends_first m j w.before ended d)

-- a walk, told as a call and the steps after it
pub calls_done_steps : (n : ℕ) (src : List ℕ) (end : Bool) (s : Session) (l q : List ℕ)
    → calls_done Call.Step n src end s l q ≡ steps_done n src end s l q
unfolding calls_done steps_done
calls_done_steps zero src end s l q = refl
calls_done_steps (suc n) src end s l q = refl
