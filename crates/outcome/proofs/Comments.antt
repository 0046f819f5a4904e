-- Where a comment's end lies: not before what was passed, and what is taken of it is within the text. Assumes nothing.
--   comment_end_inside   where it lies
--   comment_end_taken    a comment that is cut out has its end where it had it, or is over
use Rattle.std.specs.Prelude.{if◌then◌else◌}
use Prim.Native.Nat.{ℕ, zero, suc, ◌+◌, ◌-◌, ◌≤◌}
use Prim.Native.Char.{code}
use mathlib.Core.Path.{◌≡◌, refl}
use mathlib.Core.Bool.{Bool, true, false, ◌&&◌, false≢true}
use mathlib.Core.List.{List, [], ◌∷◌}
use native.Mathlib.Omega.{arith}
use lib.ListN.{length, take}
use Rattle.byte.specs.Words.{◌is◌}
use Rattle.byte.proofs.Tests.{choice, &&-right, ||-neither}
use Rattle.unit.proofs.Stays.{clash}
use Rattle.outcome.specs.declared.CommentEnd.{CommentEnd}
use Rattle.outcome.specs.declared.CommentKind.{CommentKind}
use Rattle.outcome.specs.Comments.{is_next, ends, end_taken, comment_end}

-- an end is taken within the text
ends_taken : (kind : CommentKind) (b : ℕ) (rest : List ℕ) → ends kind b rest ≡ true → end_taken kind ≤ suc (length rest)
unfolding ends end_taken is_next
ends_taken CommentKind.SingleLine b rest e = omega arith
ends_taken CommentKind.MultiLine b [] e = absurd (false≢true (&&-right (b is "*") false e))
ends_taken CommentKind.MultiLine b (c ∷ rest) e = omega arith

-- k bytes were passed, and there are hi of them; only what is all there can be over
abbrev pub CommentInside : CommentKind → Bool → ℕ → ℕ → CommentEnd → Type 0
CommentInside kind end k hi (CommentEnd.At j) = (k ≤ j) × (j + end_taken kind ≤ hi)
CommentInside kind end k hi CommentEnd.Over = end ≡ true
CommentInside kind end k hi CommentEnd.Undecided = Unit {0}

module _ (kind : CommentKind) (end : Bool) where
  pub comment_end_inside : (k hi : ℕ) (rest : List ℕ) → k + length rest ≤ hi
      → CommentInside kind end k hi (comment_end kind end k rest)
  unfolding comment_end
  comment_end_inside k hi [] h = choice (CommentInside kind end k hi) end _ _ (λ e. e) (λ e. tt)
  comment_end_inside k hi (b ∷ rest) h =
      choice (CommentInside kind end k hi) (ends kind b rest) _ _
      (λ e. (omega arith, omega (arith, ends_taken kind b rest e)))
      (λ e. go (comment_end kind end (suc k) rest) (comment_end_inside (suc k) hi rest (omega arith)))
    where
      go : (r : CommentEnd) → CommentInside kind end (suc k) hi r → CommentInside kind end k hi r
      go (CommentEnd.At j) x = (omega (arith, x.0), x.1)
      go CommentEnd.Over x = x
      go CommentEnd.Undecided x = tt

-- ---- a comment that is cut out, with what it takes of its end

-- what is not next in a text is not next in a cut
pub is_next_take : (c i : ℕ) (rest : List ℕ) → is_next c rest ≡ false → is_next c (take i rest) ≡ false
unfolding is_next
is_next_take c zero rest e = refl
is_next_take c (suc i) [] e = refl
is_next_take c (suc i) (b ∷ rest) e = e

next_take : (t : Bool) (c i : ℕ) (rest : List ℕ) → (t && is_next c rest) ≡ false → (t && is_next c (take i rest)) ≡ false
next_take true c i rest e = is_next_take c i rest e
next_take false c i rest e = refl

ends_take : (kind : CommentKind) (b i : ℕ) (rest : List ℕ) → ends kind b rest ≡ false
    → ends kind b (take i rest) ≡ false
unfolding ends
ends_take CommentKind.SingleLine b i rest e =
    let (line, tag) = ||-neither (b is "\n") (b is "?" && is_next (code ">") rest) e in
    rw line (next_take (b is "?") (code ">") i rest tag)
ends_take CommentKind.MultiLine b i rest e = next_take (b is "*") (code "/") i rest e

-- the end of a comment at j in its cut
abbrev pub cut_end : CommentKind → ℕ → CommentEnd
cut_end CommentKind.SingleLine j = CommentEnd.Over
cut_end CommentKind.MultiLine j = CommentEnd.At j

ends_cut : (kind : CommentKind) (k b : ℕ) (rest : List ℕ) → ends kind b rest ≡ true
    → comment_end kind true k (take (end_taken kind) (b ∷ rest)) ≡ cut_end kind k
unfolding ends end_taken is_next comment_end
ends_cut CommentKind.SingleLine k b rest e = refl
ends_cut CommentKind.MultiLine k b [] e = absurd (false≢true (&&-right (b is "*") false e))
ends_cut CommentKind.MultiLine k b (c ∷ rest) e = rw e

pub comment_end_taken : (kind : CommentKind) (end : Bool) (k j : ℕ) (rest : List ℕ)
    → comment_end kind end k rest ≡ CommentEnd.At j
    → comment_end kind true k (take (j + end_taken kind - k) rest) ≡ cut_end kind j
unfolding comment_end
comment_end_taken kind end k j [] e = go end e
  where
    go : (end : Bool) → (if end then CommentEnd.Over else CommentEnd.Undecided) ≡ CommentEnd.At j
        → comment_end kind true k (take (j + end_taken kind - k) []) ≡ cut_end kind j
    go true z = clash cc
    go false z = clash cc
comment_end_taken kind end k j (b ∷ rest) e = go (ends kind b rest) refl e (comment_end_taken kind end (suc k) j rest)
  where
    go : (t : Bool) → ends kind b rest ≡ t
        → (if t then CommentEnd.At k else comment_end kind end (suc k) rest) ≡ CommentEnd.At j
        → (comment_end kind end (suc k) rest ≡ CommentEnd.At j
        → comment_end kind true (suc k) (take (j + end_taken kind - suc k) rest) ≡ cut_end kind j)
        → comment_end kind true k (take (j + end_taken kind - k) (b ∷ rest)) ≡ cut_end kind j
    go true h z later =
        let here : k ≡ j = cc in
        let size : j + end_taken kind - k ≡ end_taken kind = omega arith in
        rw (size, ← here) (ends_cut kind k b rest h)
    go false h z later =
        let inside : (suc k ≤ j) × (j + end_taken kind ≤ suc k + length rest) =
        rw z at (comment_end_inside kind end (suc k) (suc k + length rest) rest (omega arith)) in
        let size : j + end_taken kind - k ≡ suc (j + end_taken kind - suc k) = omega (arith, inside.0) in
        rw (size, ends_take kind b (j + end_taken kind - suc k) rest h) (later z)
