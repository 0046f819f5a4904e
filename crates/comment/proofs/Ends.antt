-- The search for a comment's end, run by run: the loop of `comment_end` keeps `Searching`. Assumes nothing.
use Rattle.std.specs.Prelude.{if◌then◌else◌}
use Prim.Native.Nat.{ℕ, suc, ◌+◌, ◌-◌, ◌<◌, ◌≤◌}
use mathlib.Core.Path.{◌≡◌, refl, sym, ap, ◌∙◌}
use mathlib.Core.Bool.{Bool, true, false, not, ◌&&◌, ◌||◌}
use mathlib.Core.List.{List, [], ◌∷◌}
use native.Mathlib.Omega.{arith}
use native.Mathlib.Nat.{add-zero, le_refl}
use lib.Dec.{eqb}
use lib.ListN.{length, get_or, drop, drop_of_length-le}
use lib.Seq.{drop-drop}
use Rattle.byte.specs.Bytes.{is_none_of}
use Rattle.byte.specs.Words.{run}
use Rattle.source.specs.Code.{RunEnd, Passing, is_not}
use Rattle.byte.proofs.Tests.{choice, none_of}
use Rattle.byte.proofs.Words.{drop-one}
use Rattle.outcome.specs.declared.CommentEnd.{CommentEnd}
use Rattle.outcome.specs.declared.CommentKind.{CommentKind}
use Rattle.outcome.specs.Comments.{is_next, ends, comment_end}
use Rattle.comment.specs.Code.{is_inner}

-- ---- at a place

module _ (src : List ℕ) (at c : ℕ) where
  pub is_next_past : length src ≤ at → false ≡ is_next c (drop at src)
  unfolding is_next
  is_next_past h = rw (drop_of_length-le src h)

  pub is_next_here : at < length src → eqb (get_or src at 0) c ≡ is_next c (drop at src)
  unfolding is_next
  is_next_here h = rw (drop-one src at h)

pub ruleset nexts = (is_next_past, is_next_here)

module _ (kind : CommentKind) (b : ℕ) (rest : List ℕ) (next : Bool) where
  pub ends_single : kind ≡ CommentKind.SingleLine → next ≡ is_next 62 rest → (eqb b 10 || (eqb b 63 && next)) ≡ ends kind b rest
  unfolding ends
  ends_single e f = rw (e, f)

  pub ends_multi : kind ≡ CommentKind.MultiLine → next ≡ is_next 47 rest → (eqb b 42 && next) ≡ ends kind b rest
  unfolding ends
  ends_multi e f = rw (e, f)

pub ruleset endings = (ends_single, ends_multi)

-- ---- runs of bytes that are no end

pub inner_arm : (kind arm : CommentKind) (src : List ℕ) (at r : ℕ) → kind ≡ arm → RunEnd (is_inner arm) src at r
    → RunEnd (is_inner kind) src at r
inner_arm kind arm src at r e h = rw e h

-- a byte that is no `*`, as the search by blocks asks it
run_no_star : (xs : List ℕ) → run (is_not 42) xs ≡ run (is_none_of 42 42 42 42) xs
unfolding run is_none_of
run_no_star [] = refl
run_no_star (b ∷ rest) = go (eqb b 42) (run_no_star rest)
  where
    go : (t : Bool) → run (is_not 42) rest ≡ run (is_none_of 42 42 42 42) rest
        → (if not t then suc (run (is_not 42) rest) else 0)
        ≡ (if not t && not t && not t && not t then suc (run (is_none_of 42 42 42 42) rest) else 0)
    go true e = refl
    go false e = rw e

-- where the run after the blocks ends, the whole run does
pub inner_blocks : (kind : CommentKind) (src : List ℕ) (at i r : ℕ) → kind ≡ CommentKind.MultiLine → Passing (is_not 42) src at i
    → RunEnd (is_none_of 42 42 42 42) src i r → RunEnd (is_inner kind) src at r
unfolding is_inner
inner_blocks kind src at i r e p h =
    let same : at + run (is_none_of 42 42 42 42) (drop at src) ≡ i + run (is_none_of 42 42 42 42) (drop i src) =
    rw (← run_no_star (drop at src), ← run_no_star (drop i src)) p.same in
    rw e (record { place = h.place ∙ sym same; inside = h.inside })

pub ruleset inners = (inner_arm, inner_blocks)

inner_ends : (kind : CommentKind) (b : ℕ) (rest : List ℕ) → is_inner kind b ≡ true → ends kind b rest ≡ false
unfolding is_inner ends
inner_ends CommentKind.SingleLine b rest e =
    let h = none_of b 10 63 10 63 e in
    rw (h.first, h.second)
inner_ends CommentKind.MultiLine b rest e =
    let h = none_of b 42 42 42 42 e in
    rw h.first

module _ (kind : CommentKind) (end : Bool) where
  comment_end_inner : (k b : ℕ) (rest : List ℕ) → is_inner kind b ≡ true → comment_end kind end k (b ∷ rest) ≡ comment_end kind end (suc k) rest
  unfolding comment_end
  comment_end_inner k b rest e = rw (inner_ends kind b rest e)

  comment_end_run : (k : ℕ) (xs : List ℕ)
      → comment_end kind end k xs ≡ comment_end kind end (k + run (is_inner kind) xs) (drop (run (is_inner kind) xs) xs)
  unfolding run
  comment_end_run k [] = rw (add-zero k)
  comment_end_run k (b ∷ rest) =
      choice Passed (is_inner kind b) (suc (run (is_inner kind) rest)) 0 (λ e. passed e (comment_end_run (suc k) rest)) (λ e. rw (add-zero k))
    where
      Passed : ℕ → Type 0
      Passed j = comment_end kind end k (b ∷ rest) ≡ comment_end kind end (k + j) (drop j (b ∷ rest))

      passed : is_inner kind b ≡ true
          → comment_end kind end (suc k) rest ≡ comment_end kind end (suc k + run (is_inner kind) rest) (drop (run (is_inner kind) rest) rest)
          → Passed (suc (run (is_inner kind) rest))
      passed e later =
          let j = run (is_inner kind) rest in
          let p : suc k + j ≡ k + suc j = omega arith in
          comment_end_inner k b rest e ∙ later ∙ ap (λ (i : ℕ). comment_end kind end i (drop j rest)) p

-- ---- the search

-- the loop of `comment_end`: no end stands before i
pub record Searching (kind : CommentKind) (end : Bool) (src : List ℕ) (at k i : ℕ) : Type 0 where
  pub order : at + k ≤ i
  pub inside : i ≤ length src
  pub same : comment_end kind end k (drop (at + k) src) ≡ comment_end kind end (i - at) (drop i src)

module _ (kind : CommentKind) (end : Bool) (src : List ℕ) (at k : ℕ) where
  ran : (i : ℕ) → Searching kind end src at k i → (n : ℕ) → RunEnd (is_inner kind) src i n → Searching kind end src at k n
  ran i s n p =
      let size : run (is_inner kind) (drop i src) ≡ n - i = omega (arith, p.place) in
      let place : i + (n - i) ≡ n = omega (arith, p.place) in
      let count : i - at + (n - i) ≡ n - at = omega (arith, p.place, s.order) in
      record {
        order = omega (arith, p.place, s.order);
        inside = p.inside;
        same = s.same ∙ comment_end_run kind end (i - at) (drop i src) ∙ rw (size, drop-drop (n - i) i src, place, count);
      }

  pub searching_first : at + k ≤ length src → Searching kind end src at k (at + k)
  searching_first h =
      let z : at + k - at ≡ k = omega arith in
      record { order = omega arith; inside = h; same = rw z }

  module _ (i : ℕ) (s : Searching kind end src at k i) where
    module _ (p : RunEnd (is_inner kind) src i (length src)) where
      past : drop (length src) src ≡ []
      past = drop_of_length-le src (le_refl (length src))

      pub searching_over : end ≡ true → CommentEnd.Over ≡ comment_end kind end k (drop (at + k) src)
      unfolding comment_end
      searching_over e = sym ((ran i s (length src) p).same ∙ rw (past, e))

      pub searching_cut : end ≡ false → CommentEnd.Undecided ≡ comment_end kind end k (drop (at + k) src)
      unfolding comment_end
      searching_cut e = sym ((ran i s (length src) p).same ∙ rw (past, e))

    module _ (n : ℕ) (p : RunEnd (is_inner kind) src i n) where
      there : Searching kind end src at k n
      there = ran i s n p

      pub searching_order : at ≤ n
      searching_order = omega (arith, there.order)

      pub searching_less : i ≤ n
      searching_less = omega (arith, p.place)

      module _ (h : n < length src) (flag : Bool) (f : flag ≡ ends kind (get_or src n 0) (drop (n + 1) src)) where
        pub searching_found : flag ≡ true → CommentEnd.At (n - at) ≡ comment_end kind end k (drop (at + k) src)
        unfolding comment_end
        searching_found t = sym (there.same ∙ rw (drop-one src n h, ← f, t))

        pub searching_on : flag ≡ false → Searching kind end src at k (n + 1)
        unfolding comment_end
        searching_on t =
            let count : suc (n - at) ≡ n + 1 - at = omega (arith, there.order) in
            record {
              order = omega (arith, there.order);
              inside = omega arith;
              same = there.same ∙ rw (drop-one src n h, ← f, t, count);
            }

pub ruleset searching = (searching_first, searching_over, searching_cut, searching_order, searching_less, searching_found, searching_on)

-- where no byte may begin an end, the run goes up to the text's end
pub mark_none : (test : ℕ → Bool) (src : List ℕ) (at n : ℕ) → RunEnd test src at n → length src ≤ n → RunEnd test src at (length src)
mark_none test src at n p h = let e : length src ≡ n = omega (arith, p.inside) in rw e p
