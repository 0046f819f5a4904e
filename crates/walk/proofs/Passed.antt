-- Steps in a row that only pass bytes, on the way of a walk. Assumes nothing.
--   passed_one       such a step: the walk goes on from the place after it, in the same frame
--   passed_all       as many as there were
--   walking_asks     what `pass_on` asks
--   goes_along       where `pass_on` ends, the mark is put
--   quick_on_least   no more are left than there were
--   passed-..        the laws of the walk after them
use Prim.Native.Nat.{ℕ, zero, suc, ◌-◌, ◌<◌, ◌≤◌}
use mathlib.Core.Path.{◌≡◌, refl, sym, subst}
use mathlib.Core.Bool.{Bool, true, false, not}
use mathlib.Core.List.{List}
use native.Mathlib.Omega.{arith}
use lib.Dec.{eqb, ltb}
use lib.ListN.{length}
use borrow.Author.Tests.{eqb-false}
use Rattle.byte.proofs.Tests.{choice}
use Rattle.byte.specs.declared.Refusal.{Refusal}
use Rattle.source.specs.declared.Span.{Span}
use Rattle.state.specs.declared.Answer.{Answer}
use Rattle.state.specs.declared.Frame.{Frame}
use Rattle.state.specs.declared.Choices.{Choices}
use Rattle.outcome.specs.declared.Call.{Call}
use Rattle.outcome.specs.declared.Change.{Change}
use Rattle.plan.specs.Code.{Here}
use Rattle.modes.specs.Code.{quick, quick_on, Near}
use Rattle.modes.specs.declared.passing.PassedOn.{PassedOn}
use Rattle.modes.proofs.Passes.{quick_passes}
use Rattle.commit.specs.declared.Mark.{Mark}
use Rattle.commit.specs.declared.Next.{Next}
use Rattle.commit.specs.Code.{Committed}
use Rattle.lexer.specs.declared.Place.{Place}
use Rattle.lexer.specs.Turns.{depth_after}
use Rattle.lexer.specs.Code.{outcome_at, moved_to, Standing}
use Rattle.lexer.proofs.Calls.{step_here, step_near, step_passes}
use Rattle.demands.specs.Walks.{is_done}
use Rattle.walk.specs.Walks.{Walks}
use Rattle.walk.specs.Code.{top_in, frame_after, numbers_after, mark_at, GoesAlong, placed_at, ended_at, Deep, Changes, Changed}
use Rattle.walk.proofs.Walking.{Walking, walking_standing, walking_list, walking_pool, walking_over, walking_changes}
use Rattle.walk.proofs.Walking.{walking_next, walking_on, walking_end}

abbrev place : Mark → ℕ → Place
place mark depth = record { mark = mark; depth = depth }

kept : (n : List ℕ) (depth : ℕ) → Changed n depth Change.Keep depth n
unfolding depth_after numbers_after
kept n depth = record { deep = refl; holds = refl }

module _ (first : Call) (most : ℕ) (src : List ℕ) (end : Bool) (n₀ l₀ q₀ : List ℕ) (call : Call) (depth : ℕ) (f : Frame)
    (choices : Choices) (n l q : List ℕ) where
  passed_one : (left : ℕ) (mark : Mark) → Walking first most src end n₀ l₀ q₀ (suc left) call mark depth f choices n l q
      → ((quick call src f mark.span).position ≡ mark.span.position → ⊥)
      → Walking first most src end n₀ l₀ q₀ left call (mark_at mark (quick call src f mark.span)) depth f choices n l q
  unfolding is_done frame_after
  passed_one left mark w m =
      let p = quick call src f mark.span in
      let x = moved_to mark p in
      let stands = walking_standing first most src end n₀ l₀ q₀ (suc left) call mark depth f choices n l q w in
      let here = step_here call src end f choices (place mark depth) l q stands in
      let o = quick_passes call src f mark.span here.inside in
      let c = step_passes call src end f choices (place mark depth) l q stands p x o m refl in
      let less : suc left - 1 ≡ left = omega arith in
      subst (λ (y : Call). Walking first most src end n₀ l₀ q₀ left y (mark_at mark p) depth f choices n l q)
      (sym (o.step m))
      (rw less at (walking_on first most src end n₀ l₀ q₀ (suc left) call mark depth f choices n l q w (omega arith) x l q c
      true refl refl depth n (kept n depth) f refl))

  passed_all : (left : ℕ) (mark : Mark) → Walking first most src end n₀ l₀ q₀ left call mark depth f choices n l q
      → Walking first most src end n₀ l₀ q₀ (quick_on call src f mark.span left).left call
      (mark_at mark (quick_on call src f mark.span left).span) depth f choices n l q
  unfolding quick_on
  passed_all zero mark w = w
  passed_all (suc left) mark w =
      let next = quick call src f mark.span in
      choice
      (λ (r : PassedOn). Walking first most src end n₀ l₀ q₀ r.left call (mark_at mark r.span) depth f choices n l q)
      (eqb next.position mark.span.position) _ _ (λ e. w)
      (λ e. passed_all left (mark_at mark next) (passed_one left mark w (eqb-false _ _ e)))

  module _ (left : ℕ) (mark : Mark) (w : Walking first most src end n₀ l₀ q₀ left call mark depth f choices n l q) where
    pub walking_asks : Here src mark.span.position × Near mark.span
    walking_asks =
        let stands = walking_standing first most src end n₀ l₀ q₀ left call mark depth f choices n l q w in
        (step_here call src end f choices (place mark depth) l q stands, step_near call src end f choices (place mark depth) l q stands)

-- the mark is put where they end
pub goes_along : (call : Call) (src : List ℕ) (f : Frame) (mark : Mark) (left : ℕ) (r : PassedOn)
    → r ≡ quick_on call src f mark.span left → GoesAlong call src f mark left (mark_at mark r.span) r.left
goes_along call src f mark left r e = record { mark = rw e; left = rw e }

quick_on_least : (call : Call) (src : List ℕ) (f : Frame) (p : Span) (most : ℕ) → (quick_on call src f p most).left ≤ most
unfolding quick_on
quick_on_least call src f p zero = omega arith
quick_on_least call src f p (suc most) =
    let next = quick call src f p in
    choice (λ (r : PassedOn). r.left ≤ suc most) (eqb next.position p.position) _ _ (λ e. omega arith)
    (λ e. omega (arith, quick_on_least call src f next most))

-- ---- after them

module _ (first : Call) (most : ℕ) (src : List ℕ) (end : Bool) (n₀ l₀ q₀ : List ℕ) (left : ℕ) (call : Call) (mark : Mark) (depth : ℕ)
    (f : Frame) (choices : Choices) (n l q : List ℕ)
    (mark' : Mark) (left' : ℕ) (o : GoesAlong call src f mark left mark' left')
    (w : Walking first most src end n₀ l₀ q₀ left call mark depth f choices n l q) where
  there : Walking first most src end n₀ l₀ q₀ left' call mark' depth f choices n l q
  there =
      rw (o.mark, o.left) (passed_all first most src end n₀ l₀ q₀ call depth f choices n l q left mark w)

  -- no step is left
  pub passed_end : (n' : List ℕ) → left' ≡ 0 → n' ≡ placed_at mark' depth n
      → Walks first most src end n₀ l₀ q₀ (record { answer = Answer.Done; done = most }) n' l q
  passed_end n' z k =
      walking_end first most src end n₀ l₀ q₀ left' call mark' depth f choices n l q there n' (omega (arith, z)) k

  pub passed_standing : Standing src f mark' (length l) (length q)
  passed_standing = walking_standing first most src end n₀ l₀ q₀ left' call mark' depth f choices n l q there

  pub passed_least : left' ≤ most
  passed_least = there.least

  module _ (z : left' ≡ 0 → ⊥) where
    some : 0 < left'
    some = omega (arith, z)

    pub passed_less : left' - 1 < left
    passed_less = omega (arith, z, o.left, quick_on_least call src f mark.span left)

    module _ (x : Next Refusal) (l' q' : List ℕ)
        (c : Committed src mark' l q (outcome_at call src end f choices (place mark' depth)) x l' q') where
      pub passed_list : length l' ≡ length l₀
      passed_list = walking_list first most src end n₀ l₀ q₀ left' call mark' depth f choices n l q there some x l' q' c

      pub passed_pool : length q' ≡ length q₀
      passed_pool = walking_pool first most src end n₀ l₀ q₀ left' call mark' depth f choices n l q there some x l' q' c

      module _ (flag : Bool) (d : flag ≡ is_done x.answer) where
        pub passed_over : (n' : List ℕ) → not flag ≡ true → n' ≡ ended_at (ltb left' most) x.answer x.mark depth n
            → Walks first most src end n₀ l₀ q₀ (record { answer = x.answer; done = most - left' }) n' l' q'
        passed_over n' t k =
            walking_over first most src end n₀ l₀ q₀ left' call mark' depth f choices n l q there some x l' q' c flag d n' t k

        pub passed_changes : Changes n depth x.change
        passed_changes =
            walking_changes first most src end n₀ l₀ q₀ left' call mark' depth f choices n l q there some x l' q' c flag d

        module _ (t : not flag ≡ false) (deep : ℕ) (n' : List ℕ) (k : Changed n depth x.change deep n') where
          pub passed_next : Deep n' deep
          passed_next =
              walking_next first most src end n₀ l₀ q₀ left' call mark' depth f choices n l q there some x l' q' c flag d t deep n' k

          pub passed_on : (f' : Frame) → f' ≡ frame_after f x.change (top_in n' deep)
              → Walking first most src end n₀ l₀ q₀ (left' - 1) Call.Step x.mark deep f' choices n' l' q'
          passed_on =
              walking_on first most src end n₀ l₀ q₀ left' call mark' depth f choices n l q there some x l' q' c flag d t deep n' k
