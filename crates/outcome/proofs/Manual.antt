-- Comments at Scripting are the PHP manual's, on a text that is all there. Assumes nothing.
--   comment_whole     a `/` or a `#` comes to the comment that the manual's words tell, a CR being no end of a line
--   comment_manual    where a line's comment has no CR, or a block is opened, PHP's comment is the same one
--   comment_returns   PHP's comment of a line is the same up to its first CR
use Rattle.std.specs.Prelude.{if◌then◌else◌}
use Prim.Native.Nat.{ℕ, suc, ◌+◌, ◌≤◌}
use Prim.Native.Char.{code}
use mathlib.Core.Path.{◌≡◌, refl, ap, ◌∙◌}
use mathlib.Core.Bool.{Bool, true, false, ◌&&◌, ◌||◌}
use mathlib.Core.List.{List, [], ◌∷◌}
use native.Mathlib.Omega.{arith}
use lib.ListN.{length, take, length-take}
use borrow.Author.Tests.{eqb-true}
use Rattle.byte.specs.declared.Octal.{Octal}
use Rattle.byte.specs.Words.{◌is◌, every, run}
use Rattle.byte.specs.Bytes.{is_digit, is_start, is_letter}
use Rattle.byte.proofs.Tests.{choice, &&-left, &&-right, if_both}
use Rattle.byte.proofs.Words.{every_run}
use Rattle.unit.proofs.Stays.{clash}
use Rattle.outcome.specs.declared.CommentKind.{CommentKind}
use Rattle.outcome.specs.Comments.{is_next, ends, end_taken, comment_end, endless, commented, slash, hash}
use Rattle.outcome.specs.Scripts.{scripting}
use Rattle.outcome.specs.Manual.{ends_line, line_length, Comment, Takes, Unclosed, None, longer, closed_length}
use Rattle.outcome.specs.Manual.{comment_of, outcome_of, is_no_return, opens_block}

-- ---- the ends

ends-line : (b : ℕ) (rest : List ℕ) → ends CommentKind.SingleLine b rest ≡ ends_line false b rest
unfolding ends ends_line
ends-line b rest = go (b is "\n") (b is "?" && is_next (code ">") rest)
  where
    go : (t q : Bool) → (t || q) ≡ ((t || false) || q)
    go true q = refl
    go false q = refl

longer_one : (k : ℕ) (c : Comment) → longer (suc k) c ≡ longer k (longer 1 c)
unfolding longer
longer_one k (Takes n) = ap Takes (omega arith)
longer_one k Unclosed = refl
longer_one k None = refl

-- k bytes of xs were passed, and `rest` is after them
module _ (n : ℕ) (xs : List ℕ) where
  line_whole : (k : ℕ) (rest : List ℕ) → length xs ≡ k + length rest
      → commented CommentKind.SingleLine n xs (comment_end CommentKind.SingleLine true k rest)
      ≡ outcome_of n xs (Takes (k + line_length false rest))
  unfolding commented comment_end endless end_taken outcome_of line_length
  line_whole k [] h = rw h
  line_whole k (b ∷ rest) h =
      let z : suc k + line_length false rest ≡ k + suc (line_length false rest) = omega arith in
      rw (ends-line b rest)
      (if_both (λ r j. commented CommentKind.SingleLine n xs r ≡ outcome_of n xs (Takes (k + j))) (ends_line false b rest)
      (λ e. refl)
      (λ e. line_whole (suc k) rest (omega arith) ∙ ap (λ j. outcome_of n xs (Takes j)) z))

  closed_whole : (k : ℕ) (rest : List ℕ)
      → commented CommentKind.MultiLine n xs (comment_end CommentKind.MultiLine true k rest)
      ≡ outcome_of n xs (longer k (closed_length rest))
  unfolding commented comment_end ends endless end_taken outcome_of closed_length longer
  closed_whole k [] = refl
  closed_whole k (b ∷ rest) =
      if_both (λ r c. commented CommentKind.MultiLine n xs r ≡ outcome_of n xs (longer k c))
      (b is "*" && is_next (code "/") rest)
      (λ e. refl)
      (λ e. closed_whole (suc k) rest ∙ ap (outcome_of n xs) (longer_one k (closed_length rest)))

-- ---- the step

slash_whole : (n : ℕ) (rest : List ℕ)
    → slash true n (code "/" ∷ rest) rest ≡ outcome_of n (code "/" ∷ rest) (comment_of false (code "/" ∷ rest))
unfolding slash comment_of outcome_of
slash_whole n [] = refl
slash_whole n (c ∷ rest) =
    if_both (λ o k. o ≡ outcome_of n (code "/" ∷ c ∷ rest) k) (c is "/")
    (λ e. line_whole n (code "/" ∷ c ∷ rest) 2 rest (omega arith))
    (λ e. if_both (λ o k. o ≡ outcome_of n (code "/" ∷ c ∷ rest) k) (c is "*")
    (λ f. closed_whole n (code "/" ∷ c ∷ rest) 2 rest)
    (λ f. refl))

hash_whole : (n : ℕ) (rest : List ℕ)
    → hash true n (code "#" ∷ rest) rest ≡ outcome_of n (code "#" ∷ rest) (comment_of false (code "#" ∷ rest))
unfolding hash is_next commented comment_end endless comment_of outcome_of
hash_whole n [] = refl
hash_whole n (c ∷ rest) =
    if_both (λ o k. o ≡ outcome_of n (code "#" ∷ c ∷ rest) k) (c is "[")
    (λ e. refl)
    (λ e. line_whole n (code "#" ∷ c ∷ rest) 1 (c ∷ rest) (omega arith))

pub comment_whole : (octals : Octal) (depth n : ℕ) (xs : List ℕ) → (is_next (code "/") xs || is_next (code "#") xs) ≡ true
    → scripting octals depth true n xs ≡ outcome_of n xs (comment_of false xs)
unfolding is_next scripting is_digit is_start is_letter
comment_whole octals depth n [] h = clash cc
comment_whole octals depth n (b ∷ rest) h = go (b is "/") (b is "#") (eqb-true b (code "/")) (eqb-true b (code "#")) h
  where
    go : (t s : Bool) → (t ≡ true → b ≡ code "/") → (s ≡ true → b ≡ code "#") → (t || s) ≡ true
        → scripting octals depth true n (b ∷ rest) ≡ outcome_of n (b ∷ rest) (comment_of false (b ∷ rest))
    go true s f g h = rw (f refl) (slash_whole n rest)
    go false true f g h = rw (g refl) (hash_whole n rest)
    go false false f g h = clash cc

-- ---- a CR

-- with a CR for an end, a line is over at its first CR
line_returns : (xs : List ℕ) → line_length true xs ≡ run is_no_return (take (line_length false xs) xs)
unfolding line_length ends_line run is_no_return
line_returns [] = refl
line_returns (b ∷ rest) = go (b is "\n") (b is "\r") (b is "?" && is_next (code ">") rest) refl (line_returns rest)
  where
    go : (t r q : Bool) → b is "\r" ≡ r → line_length true rest ≡ run is_no_return (take (line_length false rest) rest)
        → (if (t || r) || q then 0 else suc (line_length true rest))
        ≡ run is_no_return (take (if (t || false) || q then 0 else suc (line_length false rest)) (b ∷ rest))
    go true r q e ih = refl
    go false true true e ih = refl
    go false true false e ih = rw e
    go false false true e ih = refl
    go false false false e ih = rw e (ap suc ih)

line_inside : (xs : List ℕ) → line_length false xs ≤ length xs
unfolding line_length
line_inside [] = omega arith
line_inside (b ∷ rest) =
    choice (λ k. k ≤ suc (length rest)) (ends_line false b rest) _ _
    (λ e. omega arith)
    (λ e. omega (arith, line_inside rest))

line_manual : (xs : List ℕ) → every is_no_return (take (line_length false xs) xs) ≡ true
    → line_length true xs ≡ line_length false xs
line_manual xs h =
    let e = eqb-true _ _ (every_run is_no_return (take (line_length false xs) xs) ∙ h) in
    line_returns xs ∙ e ∙ length-take (line_length false xs) xs ∙ omega (arith, line_inside xs)

pub comment_manual : (xs : List ℕ) → (opens_block xs || every is_no_return (take (line_length false xs) xs)) ≡ true
    → comment_of true xs ≡ comment_of false xs
unfolding comment_of opens_block is_next line_length ends_line is_no_return every
comment_manual [] h = refl
comment_manual (b ∷ []) h = refl
comment_manual (b ∷ c ∷ rest) h =
    if_both (λ k l. k ≡ l) (b is "#")
    (λ e.
    let z : b ≡ code "#" = eqb-true b (code "#") e in
    ap (λ k. if c is "[" then None else Takes (1 + k)) (line_manual (c ∷ rest) (rw z at h)))
    (λ e. if_both (λ k l. k ≡ l) (b is "/" && c is "/")
    (λ f.
    let y : b ≡ code "/" = eqb-true b (code "/") (&&-left (b is "/") (c is "/") f) in
    let z : c ≡ code "/" = eqb-true c (code "/") (&&-right (b is "/") (c is "/") f) in
    ap (λ k. Takes (2 + k)) (line_manual rest (rw (y, z) at h)))
    (λ f. refl))

-- k bytes are as many as so many after a few
takes_more : (k few more : ℕ) → Takes (few + more) ≡ Takes k → k ≡ few + more
takes_more k few more e = cc

pub comment_returns : (xs : List ℕ) (k : ℕ) → opens_block xs ≡ false → comment_of false xs ≡ Takes k
    → comment_of true xs ≡ Takes (run is_no_return (take k xs))
unfolding comment_of opens_block is_next run is_no_return
comment_returns [] k o h = clash cc
comment_returns (b ∷ []) k o h =
    choice (λ l. l ≡ Takes k → l ≡ Takes (run is_no_return (take k (b ∷ [])))) (b is "#") _ _
    (λ e h.
    let z : b ≡ code "#" = eqb-true b (code "#") e in
    let y : k ≡ 1 = cc in
    rw (z, y))
    (λ e h. clash cc)
    h
comment_returns (b ∷ c ∷ rest) k o h =
    if_both Cut (b is "#")
    (λ e. if_both Cut (c is "[") (λ f z. clash cc) (λ f. hash_cut (eqb-true b (code "#") e)))
    (λ e. if_both Cut (b is "/" && c is "/")
    (λ f. slash_cut (eqb-true b (code "/") (&&-left (b is "/") _ f)) (eqb-true c (code "/") (&&-right (b is "/") _ f)))
    (λ f. rw o (λ z. clash cc)))
    h
  where
    Cut : Comment → Comment → Type 0
    Cut l m = m ≡ Takes k → l ≡ Takes (run is_no_return (take k (b ∷ c ∷ rest)))

    hash_cut : b ≡ code "#" → Cut (Takes (1 + line_length true (c ∷ rest))) (Takes (1 + line_length false (c ∷ rest)))
    hash_cut e h =
        let y : k ≡ suc (line_length false (c ∷ rest)) = omega (arith, takes_more k 1 (line_length false (c ∷ rest)) h) in
        rw (e, y) (ap Takes (omega (arith, line_returns (c ∷ rest))))

    slash_cut : b ≡ code "/" → c ≡ code "/" → Cut (Takes (2 + line_length true rest)) (Takes (2 + line_length false rest))
    slash_cut e f h =
        let y : k ≡ suc (suc (line_length false rest)) = omega (arith, takes_more k 2 (line_length false rest) h) in
        rw (e, f, y) (ap Takes (omega (arith, line_returns rest)))
