-- The plans of comments, on each way through the functions that make them. Assumes nothing.
use Prim.Native.Nat.{ℕ, ◌+◌, ◌-◌, ◌^◌, ◌<◌, ◌≤◌}
use mathlib.Core.Path.{◌≡◌, sym, ◌∙◌}
use mathlib.Core.Bool.{Bool, true, false}
use mathlib.Core.List.{List}
use native.Mathlib.Omega.{arith}
use lib.ListN.{length, get_or, drop, length-drop, drop_of_length-le}
use borrow.Author.Tests.{ne_eqb}
use Rattle.byte.specs.Refusals.{unexpected_end_of_file}
use Rattle.byte.proofs.Words.{drop-one}
use Rattle.token.specs.declared.Kind.{Kind}
use Rattle.token.specs.Kinds.{kind_number}
use Rattle.outcome.specs.declared.Change.{Change}
use Rattle.outcome.specs.declared.CommentEnd.{CommentEnd}
use Rattle.outcome.specs.declared.CommentKind.{CommentKind}
use Rattle.outcome.specs.Comments.{is_next, end_taken, comment_end, endless, commented, comment_at, slash, hash}
use Rattle.outcome.proofs.Comments.{comment_end_inside}
use Rattle.byte.specs.declared.Refusal.{Refusal}
use Rattle.plan.specs.declared.Plan.{Plan}
use Rattle.plan.specs.Code.{Plans, copied_draft, goes_plan, one_plan, ending_plan}
use Rattle.plan.proofs.Plans.{token_plans, refused_plans, wait_plans, sign_plans, last_sign_plans}

-- ---- a comment

pub taken_arm : (kind arm : CommentKind) (r : ℕ) → kind ≡ arm → r ≡ end_taken arm → r ≡ end_taken kind
taken_arm kind arm r e h = rw e h

module _ (kind : CommentKind) (src : List ℕ) (at : ℕ) (end : Bool) (h : at ≤ length src) where
  pub endless_single : (r : Plan Refusal) (number : ℕ) → kind ≡ CommentKind.SingleLine
      → r ≡ one_plan (copied_draft number 0 at at (at + (length src - at))) (at + (length src - at)) Change.Keep
      → number ≡ kind_number Kind.Comment
      → Plans src end (endless kind at (drop at src)) r
  unfolding endless
  endless_single r number e p n = rw (e, p, n, length-drop at src) (token_plans src end (kind_number Kind.Comment) at (length src - at) Change.Keep (omega arith))

  pub endless_multi : kind ≡ CommentKind.MultiLine
      → Plans src end (endless kind at (drop at src)) (Plan.Refused unexpected_end_of_file (length src))
  unfolding endless
  endless_multi e =
      let z : at + length (drop at src) ≡ length src = omega (arith, length-drop at src) in
      rw (e, z) (refused_plans src end unexpected_end_of_file (length src))

pub ruleset endlesses = (endless_single, endless_multi)

module _ (kind : CommentKind) (k : ℕ) (src : List ℕ) (at : ℕ) (end : Bool) (found : CommentEnd)
    (f : found ≡ comment_end kind end k (drop (at + k) src)) where
  module _ (h : at + k ≤ length src) (j taken : ℕ) (e : found ≡ CommentEnd.At j) (t : taken ≡ end_taken kind) where
    taken_inside : at + (j + taken) ≤ length src
    taken_inside =
        let all : k + length (drop (at + k) src) ≤ length src - at = omega (arith, length-drop (at + k) src) in
        let x = rw (sym f ∙ e) at (comment_end_inside kind end k (length src - at) (drop (at + k) src) all) in
        omega (arith, x.1)

    pub taken_short : length src ≤ 65536 → at + (j + taken) ≤ 65536
    taken_short s = omega (arith, taken_inside)

    pub taken_small : length src ≤ 65536 → j + taken < 2 ^ 64
    taken_small s = omega (arith, taken_inside)

    pub comment_token : (r : Plan Refusal) (number : ℕ)
        → r ≡ one_plan (copied_draft number 0 at at (at + (j + taken))) (at + (j + taken)) Change.Keep
        → number ≡ kind_number Kind.Comment
        → Plans src end (comment_at kind k end at (drop at src) (drop (at + k) src)) r
    unfolding commented
    comment_token r number p n = rw (← f, e, p, n, ← t) (token_plans src end (kind_number Kind.Comment) at (j + taken) Change.Keep taken_inside)

  pub comment_endless : (r : Plan Refusal) → found ≡ CommentEnd.Over → Plans src end (endless kind at (drop at src)) r
      → Plans src end (comment_at kind k end at (drop at src) (drop (at + k) src)) r
  unfolding commented
  comment_endless r e p = rw (← f, e) p

  pub comment_waits : found ≡ CommentEnd.Undecided → Plans src end (comment_at kind k end at (drop at src) (drop (at + k) src)) Plan.Wait
  unfolding commented
  comment_waits e = rw (← f, e) (wait_plans src end)

pub ruleset commenting = (taken_short, taken_small, comment_token, comment_endless, comment_waits)

-- ---- `/` and `#`

module _ (src : List ℕ) (end : Bool) (at : ℕ) where
  pub slash_past : length src ≤ at + 1 → (p r : Plan Refusal) → p ≡ goes_plan (at + 1) Change.Keep → r ≡ ending_plan end p
      → Plans src end (slash end at (drop at src) (drop (at + 1) src)) r
  unfolding slash
  slash_past past p r e f = rw (drop_of_length-le src past) (last_sign_plans src end at r p e f)

  module _ (h : at + 1 < length src) (r : Plan Refusal) where
    two : at + 1 + 1 ≡ at + 2
    two = omega arith

    pub slash_single : get_or src (at + 1) 0 ≡ 47
        → Plans src end (comment_at CommentKind.SingleLine 2 end at (drop at src) (drop (at + 2) src)) r
        → Plans src end (slash end at (drop at src) (drop (at + 1) src)) r
    unfolding slash
    slash_single b p = rw (drop-one src (at + 1) h, b, two) p

    pub slash_multi : get_or src (at + 1) 0 ≡ 42
        → Plans src end (comment_at CommentKind.MultiLine 2 end at (drop at src) (drop (at + 2) src)) r
        → Plans src end (slash end at (drop at src) (drop (at + 1) src)) r
    unfolding slash
    slash_multi b p = rw (drop-one src (at + 1) h, b, two) p

    pub slash_other : (get_or src (at + 1) 0 ≡ 47 → ⊥) → (get_or src (at + 1) 0 ≡ 42 → ⊥) → r ≡ goes_plan (at + 1) Change.Keep
        → Plans src end (slash end at (drop at src) (drop (at + 1) src)) r
    unfolding slash
    slash_other b c e =
        rw (drop-one src (at + 1) h, ne_eqb (get_or src (at + 1) 0) 47 b, ne_eqb (get_or src (at + 1) 0) 42 c) (sign_plans src end at r e)

  module _ (flag : Bool) (f : flag ≡ is_next 91 (drop (at + 1) src)) (r : Plan Refusal) where
    pub hash_goes : flag ≡ true → r ≡ goes_plan (at + 1) Change.Keep → Plans src end (hash end at (drop at src) (drop (at + 1) src)) r
    unfolding hash
    hash_goes t e = rw (← f, t) (sign_plans src end at r e)

    pub hash_comment : flag ≡ false → Plans src end (comment_at CommentKind.SingleLine 1 end at (drop at src) (drop (at + 1) src)) r
        → Plans src end (hash end at (drop at src) (drop (at + 1) src)) r
    unfolding hash
    hash_comment t p = rw (← f, t) p

pub ruleset slashes = (slash_past, slash_single, slash_multi, slash_other)

pub ruleset hashes = (hash_goes, hash_comment)
