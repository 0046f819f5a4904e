-- Copying a part by blocks of eight, of which the last lies over the one before. Assumes nothing.
use Prim.Native.Nat.{ℕ, suc, ◌+◌, ◌-◌, ◌≤◌, ◌<◌}
use mathlib.Core.Path.{◌≡◌, refl, sym, ap, ◌∙◌}
use mathlib.Core.List.{List, [], ◌∷◌, ◌++◌}
use native.Mathlib.Omega.{arith}
use native.Mathlib.Nat.{zero-add}
use lib.ListN.{length, get_or, take, drop, set, length-drop}
use lib.Seq.{sets-eq, length-take-le, drop-drop, drop-append-add, take-add, take-length, take-take, take-append-le}
use Rattle.byte.specs.Laid.{laid}
use Rattle.byte.proofs.Words.{drop-one}
use Rattle.byte.proofs.Laid.{length_laid, set_laid, Writing, writing_first}
use Rattle.source.proofs.Blocks.{eight_bytes}

-- stores in one place after another are one write
eight_laid : (l : List ℕ) (at v0 v1 v2 v3 v4 v5 v6 v7 : ℕ) → at + 8 ≤ length l
    → set (set (set (set (set (set (set (set l at v0) (at + 1) v1) (at + 2) v2) (at + 3) v3) (at + 4) v4) (at + 5) v5) (at + 6) v6) (at + 7) v7
    ≡ laid l at (v0 ∷ v1 ∷ v2 ∷ v3 ∷ v4 ∷ v5 ∷ v6 ∷ v7 ∷ [])
unfolding laid
eight_laid l at v0 v1 v2 v3 v4 v5 v6 v7 h =
    let e1 : at + 1 ≡ suc at = omega arith in
    let e2 : at + 2 ≡ suc (suc at) = omega arith in
    let e3 : at + 3 ≡ suc (suc (suc at)) = omega arith in
    let e4 : at + 4 ≡ suc (suc (suc (suc at))) = omega arith in
    let e5 : at + 5 ≡ suc (suc (suc (suc (suc at)))) = omega arith in
    let e6 : at + 6 ≡ suc (suc (suc (suc (suc (suc at))))) = omega arith in
    let e7 : at + 7 ≡ suc (suc (suc (suc (suc (suc (suc at)))))) = omega arith in
    rw (e1, e2, e3, e4, e5, e6, e7) (sets-eq (v0 ∷ v1 ∷ v2 ∷ v3 ∷ v4 ∷ v5 ∷ v6 ∷ v7 ∷ []) l at h)

-- eight bytes of a part, stored one after another
pub eight_copied : (part l : List ℕ) (from to : ℕ) → (from + 8 ≤ length part) × (to + 8 ≤ length l)
    → set (set (set (set (set (set (set (set l to (get_or part from 0)) (to + 1) (get_or part (from + 1) 0))
    (to + 2) (get_or part (from + 2) 0)) (to + 3) (get_or part (from + 3) 0)) (to + 4) (get_or part (from + 4) 0))
    (to + 5) (get_or part (from + 5) 0)) (to + 6) (get_or part (from + 6) 0)) (to + 7) (get_or part (from + 7) 0)
    ≡ laid l to (take 8 (drop from part))
eight_copied part l from to h = rw (eight_bytes part from h.0) (eight_laid l to _ _ _ _ _ _ _ _ h.1)

drop_over : (xs l : List ℕ) (i j : ℕ) → length xs ≡ i → i ≤ j → drop j (xs ++ drop i l) ≡ drop j l
drop_over xs l i j e h =
    let f : j ≡ length xs + (j - i) = omega (arith, e, h) in
    let g : i + (j - i) ≡ j = omega (arith, h) in
    ap (λ (n : ℕ). drop n (xs ++ drop i l)) f ∙ drop-append-add xs (drop i l) (j - i) ∙ drop-drop (j - i) i l
    ∙ ap (λ (n : ℕ). drop n l) g

-- the first i bytes of p at the start of l
laid_first : (l p : List ℕ) (i : ℕ) → i ≤ length p → laid l 0 (take i p) ≡ take i p ++ drop i l
unfolding laid
laid_first l p i h =
    let m : 0 + length (take i p) ≡ i = zero-add (length (take i p)) ∙ length-take-le i p h in
    rw m

laid_on : (l p : List ℕ) (i k n : ℕ) → k ≤ i → i ≤ k + n → k + n ≤ length p
    → laid (take i p ++ drop i l) k (take n (drop k p)) ≡ take (k + n) p ++ drop (k + n) l
unfolding laid
laid_on l p i k n a b c =
    let q : length (take n (drop k p)) ≡ n = length-take-le n (drop k p) (rw (length-drop k p) (omega (arith, c))) in
    let m : length (take i p) ≡ i = length-take-le i p (omega (arith, b, c)) in
    rw (
      q,
      take-append-le k (take i p) (drop i l) (rw m a),
      take-take k i p a,
      drop_over (take i p) l i (k + n) m b,
      take-add k n p,
    )

-- n bytes of p from k on, written over or right after its first i
laid_over : (l p : List ℕ) (i k n : ℕ) → k ≤ i → i ≤ k + n → k + n ≤ length p
    → laid (laid l 0 (take i p)) k (take n (drop k p)) ≡ laid l 0 (take (k + n) p)
laid_over l p i k n a b c = rw (laid_first l p i (omega arith), laid_first l p (k + n) c) (laid_on l p i k n a b c)

-- the loops of `copy_few` and `copy`: i bytes of the part are written
abbrev pub Copying : List ℕ → List ℕ → List ℕ → ℕ → Type 0
Copying part old rest i = Writing (λ (k : ℕ). take k part) (length part) old rest i

module _ (part old : List ℕ) (fits : length part ≤ length old) where
  pub copying_first : Copying part old old 0
  copying_first = writing_first (λ (k : ℕ). take k part) (length part) old refl

  module _ (rest : List ℕ) (i : ℕ) (c : Copying part old rest i) where
    -- n bytes more, from k on
    more : (k n : ℕ) (after : List ℕ) → k ≤ i → i ≤ k + n → k + n ≤ length part
        → after ≡ laid rest k (take n (drop k part)) → Copying part old after (k + n)
    more k n after a b d e =
        let m : length (take (k + n) part) ≡ k + n = length-take-le (k + n) part d in
        let w : rest ≡ laid old 0 (take i part) = c.written in
        let done : after ≡ laid old 0 (take (k + n) part) = e ∙ rw w (laid_over old part i k n a b d) in
        let kept : length after ≡ length old = ap length done ∙ length_laid old 0 (take (k + n) part) (omega arith) in
        record { inside = d; size = kept; written = done }

    pub copying_byte : i < length part → Copying part old (set rest i (get_or part i 0)) (i + 1)
    copying_byte h =
        let one : take 1 (drop i part) ≡ get_or part i 0 ∷ [] = rw (drop-one part i h) in
        more i 1 (set rest i (get_or part i 0)) (omega arith) (omega arith) (omega arith)
        (rw one (set_laid rest i (get_or part i 0) (omega (arith, c.size))))

    pub copying_block : (after : List ℕ) → i < length part - 8 → after ≡ laid rest i (take 8 (drop i part))
        → Copying part old after (i + 8)
    copying_block after h e = more i 8 after (omega arith) (omega arith) (omega arith) e

    pub copying_last : (after : List ℕ) → 8 ≤ length part → length part - 8 ≤ i
        → after ≡ laid rest (length part - 8) (take 8 (drop (length part - 8) part)) → after ≡ laid old 0 part
    copying_last after q h e =
        let whole : length part - 8 + 8 ≡ length part = omega arith in
        (more (length part - 8) 8 after h (omega (arith, c.inside)) (omega arith) e).written
        ∙ rw (whole, take-length part)
