-- Demand 3 for comments: `slash_answers`, `hash_answers`, from any position on. Assumes nothing.
-- A wait's two continuations: of a line's comment the end and one byte more, which it takes; of an open `/*` the end, where it is
-- refused, and `*/`; after a lone `/` the end and another; after a lone `#` the end and `[`.
use Rattle.std.specs.Prelude.{if◌then◌else◌}
use mathlib.Core.Path.{◌≡◌, refl, sym, ap, ◌∙◌}
use mathlib.Core.Bool.{Bool, true, false, ◌&&◌, ◌||◌, false≢true}
use mathlib.Core.List.{List, [], ◌∷◌, ◌++◌}
use Prim.Native.Nat.{ℕ, suc, ◌+◌, ◌≤◌}
use Prim.Native.Char.{code}
use native.Mathlib.Omega.{arith}
use lib.ListN.{length, length-append}
use lib.Seq.{take-append-le}
use Rattle.byte.specs.Words.{◌is◌, every, bytes}
use Rattle.byte.specs.Refusals.{unexpected_end_of_file}
use Rattle.byte.proofs.Tests.{choice, &&-right}
use Rattle.token.specs.Kinds.{comment}
use Rattle.unit.proofs.Stays.{Stays, clash, if_stays}
use Rattle.unit.proofs.Openings.{one_more}
use Rattle.outcome.specs.declared.Change.{Change}
use Rattle.outcome.specs.declared.CommentEnd.{CommentEnd}
use Rattle.outcome.specs.declared.CommentKind.{CommentKind}
use Rattle.outcome.specs.Outcomes.{Outcome, goes, limited}
use Rattle.outcome.specs.Lookings.{token}
use Rattle.outcome.specs.Comments.{is_next, ends, end_taken, comment_end, endless, commented, comment_at, slash, hash}
use Rattle.outcome.proofs.Comments.{CommentInside, comment_end_inside}
use Rattle.outcome.proofs.Demand.{Splits, splits, Answers, if_answers, settled, unseen}
use Rattle.outcome.proofs.Demand.{told_waits, refused_waits, after_apart, pieces_apart, refused_apart}

-- ---- ends

at_told : {A : Type 0} {k : ℕ} → CommentEnd.At k ≡ CommentEnd.Undecided → A
at_told e = clash cc

over_told : {A : Type 0} → CommentEnd.Over ≡ CommentEnd.Undecided → A
over_told e = clash cc

-- an end looks at the next byte alone
ends_next : (kind : CommentKind) (b next : ℕ) (rest more : List ℕ) → ends kind b (next ∷ (rest ++ more)) ≡ ends kind b (next ∷ rest)
unfolding ends is_next
ends_next CommentKind.SingleLine b next rest more = refl
ends_next CommentKind.MultiLine b next rest more = refl

-- an LF is an end whatever follows it
ends_last : (kind : CommentKind) (b : ℕ) (more : List ℕ) → ends kind b [] ≡ true → ends kind b more ≡ true
unfolding ends is_next
ends_last CommentKind.SingleLine b more e = go (b is "\n") e
  where
    go : (t : Bool) → (t || (b is "?" && false)) ≡ true → (t || (b is "?" && is_next (code ">") more)) ≡ true
    go true z = refl
    go false z = absurd (false≢true (&&-right (b is "?") false z))
ends_last CommentKind.MultiLine b more e = absurd (false≢true (&&-right (b is "*") false e))

comment_end_stays : (kind : CommentKind) (k : ℕ) (rest more : List ℕ)
    → Stays CommentEnd.Undecided (comment_end kind false k rest) (comment_end kind true k (rest ++ more))
unfolding comment_end
comment_end_stays kind k [] more h = absurd (h refl)
comment_end_stays kind k (b ∷ []) more h = go (ends kind b []) refl h
  where
    go : (t : Bool) → ends kind b [] ≡ t
        → Stays CommentEnd.Undecided (if t then CommentEnd.At k else CommentEnd.Undecided)
        (if ends kind b more then CommentEnd.At k else comment_end kind true (suc k) more)
    go true e z = rw (ends_last kind b more e)
    go false e z = absurd (z refl)
comment_end_stays kind k (b ∷ next ∷ rest) more h =
    rw (ends_next kind b next rest more)
    (if_stays (ends kind b (next ∷ rest)) (λ z. refl) (comment_end_stays kind (suc k) (next ∷ rest) more) h)

-- after a part that has no end, bytes that make none of its last one
module _ (kind : CommentKind) (more : List ℕ) (apart : (b : ℕ) → ends kind b more ≡ ends kind b []) where
  ends_seam : (b : ℕ) (rest : List ℕ) → ends kind b (rest ++ more) ≡ ends kind b rest
  ends_seam b [] = apart b
  ends_seam b (next ∷ rest) = ends_next kind b next rest more

  comment_end_cut : (k : ℕ) (rest : List ℕ) → comment_end kind false k rest ≡ CommentEnd.Undecided
      → comment_end kind true k (rest ++ more) ≡ comment_end kind true (k + length rest) more
  unfolding comment_end
  comment_end_cut k [] h = ap (λ i. comment_end kind true i more) (omega arith)
  comment_end_cut k (b ∷ rest) h = rw (ends_seam b rest) (go (ends kind b rest) (comment_end_cut (suc k) rest) h)
    where
      go : (t : Bool)
          → (comment_end kind false (suc k) rest ≡ CommentEnd.Undecided
          → comment_end kind true (suc k) (rest ++ more) ≡ comment_end kind true (suc k + length rest) more)
          → (if t then CommentEnd.At k else comment_end kind false (suc k) rest) ≡ CommentEnd.Undecided
          → (if t then CommentEnd.At k else comment_end kind true (suc k) (rest ++ more)) ≡ comment_end kind true (k + suc (length rest)) more
      go true later z = at_told z
      go false later z =
          let e : suc k + length rest ≡ k + suc (length rest) = omega arith in
          later z ∙ ap (λ i. comment_end kind true i more) e

comment_end_told : (kind : CommentKind) (k : ℕ) (rest : List ℕ) → comment_end kind true k rest ≡ CommentEnd.Undecided → ⊥
unfolding comment_end
comment_end_told kind k [] e = over_told e
comment_end_told kind k (b ∷ rest) e =
    choice (λ r. r ≡ CommentEnd.Undecided → ⊥) (ends kind b rest) _ _ (λ t. at_told) (λ t. comment_end_told kind (suc k) rest) e

-- ---- outcomes

module _ (n : ℕ) where
  endless_told : (kind : CommentKind) (xs : List ℕ) → endless kind n xs ≡ Outcome.Wait → ⊥
  unfolding endless
  endless_told CommentKind.SingleLine xs e = told_waits e
  endless_told CommentKind.MultiLine xs e = refused_waits e

  commented_wait : (kind : CommentKind) (xs : List ℕ) (r : CommentEnd) → commented kind n xs r ≡ Outcome.Wait → r ≡ CommentEnd.Undecided
  unfolding commented
  commented_wait kind xs (CommentEnd.At k) e = told_waits e
  commented_wait kind xs CommentEnd.Over e = absurd (endless_told kind xs e)
  commented_wait kind xs CommentEnd.Undecided e = refl

  commented_append : (kind : CommentKind) (k : ℕ) (part more : List ℕ) (r : CommentEnd) → CommentInside kind false k (length part) r
      → commented kind n (part ++ more) r ≡ commented kind n part r
  unfolding commented
  commented_append kind k part more (CommentEnd.At j) x = rw (take-append-le (j + end_taken kind) part more x.1)
  commented_append kind k part more CommentEnd.Over x = absurd (false≢true x)
  commented_append kind k part more CommentEnd.Undecided x = refl

module _ (n p : ℕ) where
  -- with the end, or with what comes after the part
  abbrev Comment : CommentKind → ℕ → List ℕ → List ℕ → List ℕ → Outcome
  Comment kind k xs rest more = comment_at kind k true n (xs ++ more) (rest ++ more)

  comment_splits : (kind : CommentKind) (k : ℕ) (xs rest : List ℕ) → comment_end kind false k rest ≡ CommentEnd.Undecided
      → Splits p (Comment kind k xs rest)
  unfolding commented endless comment_end ends is_next limited every bytes
  comment_splits CommentKind.SingleLine k xs rest h =
      splits p (Comment CommentKind.SingleLine k xs rest) one_more (token comment n (xs ++ []) (length (xs ++ [])) Change.Keep)
      (token comment n (xs ++ one_more) (length (xs ++ one_more)) Change.Keep)
      refl
      (rw (comment_end_cut CommentKind.SingleLine [] (λ b. refl) k rest h))
      (rw (comment_end_cut CommentKind.SingleLine one_more (λ b. refl) k rest h))
      (after_apart
      (λ (z : n + length (xs ++ []) ≡ n + length (xs ++ one_more)). omega (arith, length-append xs [], length-append xs one_more)))
  comment_splits CommentKind.MultiLine k xs rest h =
      splits p (Comment CommentKind.MultiLine k xs rest) (bytes "*/") (Outcome.Refused unexpected_end_of_file (n + length (xs ++ [])))
      (token comment n (xs ++ bytes "*/") (k + length rest + end_taken CommentKind.MultiLine) Change.Keep)
      refl
      (rw (comment_end_cut CommentKind.MultiLine [] (λ b. refl) k rest h))
      (rw (comment_end_cut CommentKind.MultiLine (bytes "*/") (λ b. refl) k rest h))
      refused_apart

  comment_answers : (kind : CommentKind) (k : ℕ) (xs rest : List ℕ) → k + length rest ≤ length xs
      → Answers p (comment_at kind k false n xs rest) (Comment kind k xs rest)
  unfolding commented
  comment_answers kind k xs rest h =
      record {
        stays = λ more z.
            ap (commented kind n (xs ++ more)) (comment_end_stays kind k rest more (λ u. z (ap (commented kind n xs) u)))
            ∙ commented_append n kind k xs more (comment_end kind false k rest) (comment_end_inside kind false k (length xs) rest h);
        splits = λ e. comment_splits kind k xs rest (commented_wait n kind xs (comment_end kind false k rest) e);
        told = λ e. comment_end_told kind k (rest ++ []) (commented_wait n kind (xs ++ []) _ e);
      }

  module _ (xs : List ℕ) where
    pub slash_answers : (rest : List ℕ) → 1 + length rest ≤ length xs
        → Answers p (slash false n xs rest) (λ c. slash true n (xs ++ c) (rest ++ c))
    unfolding slash commented comment_end endless limited every bytes
    slash_answers [] h =
        unseen p (λ c. slash true n (xs ++ c) c)
        (splits p (λ c. slash true n (xs ++ c) c) (bytes "/") (goes (suc n) Change.Keep) _ refl refl refl pieces_apart)
        told_waits
    slash_answers (b ∷ rest) h =
        if_answers p (b is "/") (comment_answers CommentKind.SingleLine 2 xs rest (omega arith))
        (if_answers p (b is "*") (comment_answers CommentKind.MultiLine 2 xs rest (omega arith)) (settled p (goes (suc n) Change.Keep) told_waits))

    pub hash_answers : (rest : List ℕ) → 1 + length rest ≤ length xs
        → Answers p (hash false n xs rest) (λ c. hash true n (xs ++ c) (rest ++ c))
    unfolding hash is_next commented comment_end endless limited every bytes
    hash_answers [] h =
        unseen p (λ c. hash true n (xs ++ c) c)
        (splits p (λ c. hash true n (xs ++ c) c) (bytes "[") (token comment n (xs ++ []) (length (xs ++ [])) Change.Keep)
        (goes (suc n) Change.Keep) refl refl refl (λ e. pieces_apart (sym e)))
        told_waits
    hash_answers (b ∷ rest) h =
        if_answers p (b is "[") (settled p (goes (suc n) Change.Keep) told_waits)
        (comment_answers CommentKind.SingleLine 1 xs (b ∷ rest) h)
