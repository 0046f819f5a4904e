-- Parts of lists: what is left of a part, and the first bytes of two texts. Assumes nothing.
use Prim.Native.Nat.{ℕ, zero, suc, ◌+◌, ◌-◌, ◌<◌, ◌≤◌, min}
use mathlib.Core.Path.{◌≡◌, refl, sym, ap, ◌∙◌}
use mathlib.Core.Bool.{Bool, true, false}
use mathlib.Core.List.{List, [], ◌∷◌, ◌++◌, append-nil}
use native.Mathlib.Omega.{arith}
use lib.Dec.{leb}
use lib.ListN.{length, take, drop}
use lib.Seq.{take-append-le, take-append-add, take-length, take-nil}
use borrow.Author.Tests.{leb-true, leb-false}

pub drop-take : (k m : ℕ) (xs : List ℕ) → drop k (take m xs) ≡ take (m - k) (drop k xs)
drop-take zero m xs = let e : m ≡ m - 0 = omega arith in ap (λ (n : ℕ). take n xs) e
drop-take (suc k) zero xs = let e : 0 ≡ 0 - suc k = omega arith in ap (λ (n : ℕ). take n (drop (suc k) xs)) e
drop-take (suc k) (suc m) [] = sym (take-nil (suc m - suc k))
drop-take (suc k) (suc m) (b ∷ xs) =
    let e : m - k ≡ suc m - suc k = omega arith in
    drop-take k m xs ∙ ap (λ (n : ℕ). take n (drop k xs)) e

-- the first n bytes of two texts: as many of the first as there are, then of the second
pub take_lesser : (n m : ℕ) (xs ys : List ℕ) → m ≡ min (length xs) n → take n (xs ++ ys) ≡ take m xs ++ take (n - m) ys
take_lesser n m xs ys lesser = go (leb n (length xs)) refl
  where
    go : (t : Bool) → leb n (length xs) ≡ t → take n (xs ++ ys) ≡ take m xs ++ take (n - m) ys
    go true e =
        let h : n ≤ length xs = leb-true n (length xs) e in
        let p : m ≡ n = omega arith in
        let z : n - n ≡ 0 = omega arith in
        take-append-le n xs ys h ∙ rw (p, z) (sym (append-nil (take n xs)))
    go false e =
        let h : length xs < n = leb-false n (length xs) e in
        let p : m ≡ length xs = omega arith in
        let q : n ≡ length xs + (n - length xs) = omega arith in
        ap (λ (k : ℕ). take k (xs ++ ys)) q ∙ take-append-add xs ys (n - length xs) ∙ rw (p, take-length xs)

pub take_some : (n : ℕ) (xs : List ℕ) → 0 < length (take n xs) → 0 < length xs
take_some n [] h = absurd (omega (arith, ap length (take-nil {A = ℕ} n)))
take_some n (b ∷ rest) h = omega arith
