-- The closer of a text block: where the label stands, where the blanks before it end, and what a line is by the two.
-- Assumes nothing.
use Rattle.std.proofs.Common.{◌≡◌, ℕ, suc, ◌+◌, ◌-◌, ◌<◌, ◌≤◌, Bool, true, false, ◌&&◌, List, [], ◌∷◌, length, take, drop, refl, sym, ap, ◌∙◌, eqb, if◌then◌else◌, arith}
use Rattle.std.proofs.Common.{add-zero}
use Rattle.std.specs.List.{fold, slice_range, starts_with}
use Rattle.std.proofs.lemmas.List.{take_all, length-drop}
use borrow.Author.Tests.{eqb-true, eq-eqb}
use lib.Seq.{drop-drop}
use Rattle.byte.specs.Bytes.{is_blank}
use Rattle.byte.specs.Words.{run}
use Rattle.source.specs.Code.{RunEnd}
use Rattle.unit.specs.declared.Indentation.{Indentation}
use Rattle.unit.specs.declared.Match.{Match}
use Rattle.unit.specs.declared.TextUnit.{TextUnit}
use Rattle.unit.specs.Closers.{matched, indented, closer, judged, line}

-- what is left from n on, as the code cuts it
pub rest_from : (n : ℕ) (xs : List ℕ) → take (length xs - n) (drop n xs) ≡ drop n xs
rest_from n xs = take_all _ _ (omega (arith, length-drop n xs))

-- as many bytes as the label has, as the code cuts them
pub first_part : (n : ℕ) (xs : List ℕ) → slice_range xs 0 n ≡ take n xs
first_part n xs =
    let size : n - 0 ≡ n = omega arith in
    ap (λ (k : ℕ). take k xs) size

-- ---- the label

pub matched_whole : (label xs : List ℕ) → true ≡ starts_with eqb xs label → Match.Whole ≡ matched label xs
unfolding matched
matched_whole [] xs e = refl
matched_whole (a ∷ label) [] e = cc
matched_whole (a ∷ label) (b ∷ xs) e = go (eqb a b) (matched_whole label xs) e
  where
    go : (t : Bool) → (true ≡ starts_with eqb xs label → Match.Whole ≡ matched label xs)
        → true ≡ (t && starts_with eqb xs label)
        → Match.Whole ≡ (if t then matched label xs else Match.Other)
    go true f h = f h
    go false f h = cc

pub matched_other : (label xs : List ℕ) → length label ≤ length xs → false ≡ starts_with eqb xs label
    → Match.Other ≡ matched label xs
unfolding matched
matched_other [] xs h e = cc
matched_other (a ∷ label) [] h e = absurd (omega (arith, h))
matched_other (a ∷ label) (b ∷ xs) h e = go (eqb a b) (matched_other label xs (omega (arith, h))) e
  where
    go : (t : Bool) → (false ≡ starts_with eqb xs label → Match.Other ≡ matched label xs)
        → false ≡ (t && starts_with eqb xs label)
        → Match.Other ≡ (if t then matched label xs else Match.Other)
    go true f k = f k
    go false f k = refl

-- the text is shorter than the label
pub matched_cut : (label xs : List ℕ) → length xs < length label → true ≡ starts_with eqb label xs
    → Match.Undecided ≡ matched label xs
unfolding matched
matched_cut [] xs h e = absurd (omega (arith, h))
matched_cut (a ∷ label) [] h e = refl
matched_cut (a ∷ label) (b ∷ xs) h e = go (eqb b a) refl (matched_cut label xs (omega (arith, h))) e
  where
    go : (t : Bool) → eqb b a ≡ t → (true ≡ starts_with eqb label xs → Match.Undecided ≡ matched label xs)
        → true ≡ (t && starts_with eqb label xs)
        → Match.Undecided ≡ (if eqb a b then matched label xs else Match.Other)
    go true k f g =
        let same : eqb a b ≡ true = eq-eqb a b (sym (eqb-true b a k)) in
        rw same (f g)
    go false k f g = cc

pub matched_short : (label xs : List ℕ) → length xs < length label → false ≡ starts_with eqb label xs
    → Match.Other ≡ matched label xs
unfolding matched
matched_short [] xs h e = absurd (omega (arith, h))
matched_short (a ∷ label) [] h e = cc
matched_short (a ∷ label) (b ∷ xs) h e = go (eqb a b) refl (matched_short label xs (omega (arith, h))) e
  where
    go : (t : Bool) → eqb a b ≡ t → (false ≡ starts_with eqb label xs → Match.Other ≡ matched label xs)
        → false ≡ (eqb b a && starts_with eqb label xs)
        → Match.Other ≡ (if t then matched label xs else Match.Other)
    go true k f g =
        let same : eqb b a ≡ true = eq-eqb b a (sym (eqb-true a b k)) in
        f (rw same at g)
    go false k f g = refl

-- ---- the blanks, and the line

-- so many blanks are passed, and the label decides
line_run : (label : List ℕ) (end : Bool) (n : ℕ) (ind : Indentation) (amount : ℕ) (xs : List ℕ)
    → line label end n ind amount xs
    ≡ judged (matched label (drop (run is_blank xs) xs)) end n
    (closer (length label) (fold indented ind (take (run is_blank xs) xs)) (amount + run is_blank xs)
    (suc n + (amount + run is_blank xs)))
unfolding line run
line_run label end n ind amount [] = rw (add-zero amount)
line_run label end n ind amount (b ∷ rest) = go (is_blank b) (line_run label end n (indented ind b) (suc amount) rest)
  where
    go : (t : Bool)
        → line label end n (indented ind b) (suc amount) rest
        ≡ judged (matched label (drop (run is_blank rest) rest)) end n
        (closer (length label) (fold indented (indented ind b) (take (run is_blank rest) rest))
        (suc amount + run is_blank rest) (suc n + (suc amount + run is_blank rest)))
        → (if t then line label end n (indented ind b) (suc amount) rest
        else judged (matched label (b ∷ rest)) end n (closer (length label) ind amount (suc n + amount)))
        ≡ judged (matched label (drop (if t then suc (run is_blank rest) else 0) (b ∷ rest))) end n
        (closer (length label) (fold indented ind (take (if t then suc (run is_blank rest) else 0) (b ∷ rest)))
        (amount + (if t then suc (run is_blank rest) else 0)) (suc n + (amount + (if t then suc (run is_blank rest) else 0))))
    go true e =
        let m : amount + suc (run is_blank rest) ≡ suc amount + run is_blank rest = omega arith in
        rw m e
    go false e = rw (add-zero amount)

-- what a line is, by how the label stands at i, after the blanks
pub line_told : (label src : List ℕ) (end : Bool) (n i : ℕ) (m : Match) (r : TextUnit)
    → RunEnd is_blank src (n + 1) i
    → m ≡ matched label (drop i src)
    → r ≡ judged m end n
    (closer (length label) (fold indented Indentation.None (take (i - (n + 1)) (drop (n + 1) src))) (i - (n + 1)) i)
    → r ≡ line label end n Indentation.None 0 (drop (n + 1) src)
line_told label src end n i m r e f g =
    let k = run is_blank (drop (n + 1) src) in
    let amount : i - (n + 1) ≡ k = omega (arith, e.place) in
    let place : drop k (drop (n + 1) src) ≡ drop i src = drop-drop k (n + 1) src ∙ rw e.place in
    let stop : suc n + (0 + k) ≡ i = omega (arith, e.place) in
    let none : 0 + k ≡ k = omega arith in
    g ∙ sym (line_run label end n Indentation.None 0 (drop (n + 1) src) ∙ rw (place, stop, none, amount, f))
