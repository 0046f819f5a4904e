-- Laws of blocks: the bytes of a block of eight, and runs that are passed by parts and by whole blocks. Assumes nothing.
use Rattle.std.specs.Prelude.{if◌then◌else◌}
use mathlib.Core.Path.{◌≡◌, refl, sym, ap, ◌∙◌}
use mathlib.Core.Bool.{Bool, true, false, not, ◌&&◌}
use mathlib.Core.List.{List, [], ◌∷◌}
use Prim.Native.Nat.{ℕ, zero, suc, ◌+◌, ◌-◌, ◌<◌, ◌≤◌}
use native.Mathlib.Omega.{arith}
use lib.ListN.{length, get_or, take, drop, length-drop}
use lib.Seq.{drop-drop, length-take-le}
use borrow.Author.Tests.{not-false}
use Rattle.byte.specs.Words.{run, every}
use Rattle.source.specs.Code.{Passing, RunEnd}
use Rattle.byte.proofs.Tests.{&&-left, &&-right}
use Rattle.byte.proofs.Words.{drop-one}

-- a block of eight, byte by byte
pub eight_bytes : (src : List ℕ) (at : ℕ) → at + 8 ≤ length src
    → take 8 (drop at src)
    ≡ get_or src at 0 ∷ get_or src (at + 1) 0 ∷ get_or src (at + 2) 0 ∷ get_or src (at + 3) 0
    ∷ get_or src (at + 4) 0 ∷ get_or src (at + 5) 0 ∷ get_or src (at + 6) 0 ∷ get_or src (at + 7) 0 ∷ []
eight_bytes src at h =
    let p₁ : at + 1 + 1 ≡ at + 2 = omega arith in
    let p₂ : at + 2 + 1 ≡ at + 3 = omega arith in
    let p₃ : at + 3 + 1 ≡ at + 4 = omega arith in
    let p₄ : at + 4 + 1 ≡ at + 5 = omega arith in
    let p₅ : at + 5 + 1 ≡ at + 6 = omega arith in
    let p₆ : at + 6 + 1 ≡ at + 7 = omega arith in
    rw (
      one at 7 (omega arith),
      one (at + 1) 6 (omega arith),
      p₁,
      one (at + 2) 5 (omega arith),
      p₂,
      one (at + 3) 4 (omega arith),
      p₃,
      one (at + 4) 3 (omega arith),
      p₄,
      one (at + 5) 2 (omega arith),
      p₅,
      one (at + 6) 1 (omega arith),
      p₆,
      one (at + 7) 0 (omega arith),
    )
  where
    one : (i n : ℕ) → i < length src → take (suc n) (drop i src) ≡ get_or src i 0 ∷ take n (drop (i + 1) src)
    one i n h = rw (drop-one src i h)

-- what is left of a run after k bytes of it
run_drop : (test : ℕ → Bool) (xs : List ℕ) (k : ℕ) → k ≤ run test xs → run test xs ≡ k + run test (drop k xs)
unfolding run
run_drop test xs zero h = omega arith
run_drop test [] (suc k) h = absurd (omega (arith, h))
run_drop test (b ∷ rest) (suc k) h = go (test b) h (run_drop test rest k)
  where
    go : (t : Bool) → suc k ≤ (if t then suc (run test rest) else 0)
        → (k ≤ run test rest → run test rest ≡ k + run test (drop k rest))
        → (if t then suc (run test rest) else 0) ≡ suc k + run test (drop k rest)
    go true h ih = omega (arith, ih (omega (arith, h)))
    go false h ih = absurd (omega (arith, h))

-- a run is no shorter than that of the first n
pub run_take : (test : ℕ → Bool) (xs : List ℕ) (n : ℕ) → run test (take n xs) ≤ run test xs
unfolding run
run_take test xs zero = omega arith
run_take test [] (suc n) = omega arith
run_take test (b ∷ rest) (suc n) = go (test b) (run_take test rest n)
  where
    go : (t : Bool) → run test (take n rest) ≤ run test rest
        → (if t then suc (run test (take n rest)) else 0) ≤ (if t then suc (run test rest) else 0)
    go true h = omega (arith, h)
    go false h = omega arith

-- where the first n pass, a run has n bytes at least
run_every : (test : ℕ → Bool) (xs : List ℕ) (n : ℕ) → n ≤ length xs → every test (take n xs) ≡ true → n ≤ run test xs
unfolding run every
run_every test xs zero h e = omega arith
run_every test [] (suc n) h e = absurd (omega arith)
run_every test (b ∷ rest) (suc n) h e =
    let first : test b ≡ true = &&-left (test b) (every test (take n rest)) e in
    rw first (omega (arith, run_every test rest n (omega arith) (&&-right (test b) (every test (take n rest)) e)))

-- k bytes of the run are passed at once; so is a block of n bytes that pass
module _ (test : ℕ → Bool) (src : List ℕ) (at i : ℕ) (p : Passing test src at i) where
  pub passing_part : (k : ℕ) → k ≤ length src - i → k ≤ run test (drop i src) → Passing test src at (i + k)
  passing_part k h l =
      let part : run test (drop i src) ≡ k + run test (drop (i + k) src) =
      rw (← drop-drop k i src) (run_drop test (drop i src) k l) in
      record { inside = omega (arith, p.inside); same = omega (arith, p.same) }

  pub passing_block : (n : ℕ) (hit : Bool) → n ≤ length src - i → hit ≡ not (every test (take n (drop i src)))
      → hit ≡ false → Passing test src at (i + n)
  passing_block n hit h e f =
      let all : every test (take n (drop i src)) ≡ true = not-false (every test (take n (drop i src))) (sym e ∙ f) in
      passing_part n h (run_every test (drop i src) n (rw (length-drop i src) h) all)

-- where not all of the first n pass, a run is over among them
run_cut : (test : ℕ → Bool) (n : ℕ) (xs : List ℕ) → every test (take n xs) ≡ false → run test (take n xs) ≡ run test xs
unfolding run every
run_cut test zero xs e = cc
run_cut test (suc n) [] e = cc
run_cut test (suc n) (b ∷ rest) e = go (test b) (run_cut test n rest) e
  where
    go : (t : Bool) → (every test (take n rest) ≡ false → run test (take n rest) ≡ run test rest)
        → (t && every test (take n rest)) ≡ false
        → (if t then suc (run test (take n rest)) else 0) ≡ (if t then suc (run test rest) else 0)
    go true ih f = ap suc (ih f)
    go false ih f = refl

-- a run goes on up to a place of the block in which it ends
pub run_end_block : (test : ℕ → Bool) (src block : List ℕ) (at i n r : ℕ) → Passing test src at i
    → every test (take n (drop i src)) ≡ false → block ≡ take n (drop i src) → n ≤ length src - i
    → RunEnd test block 0 r → RunEnd test src at (i + r)
run_end_block test src block at i n r p cut e h f =
    let same : run test block ≡ run test (drop i src) = rw e (run_cut test n (drop i src) cut) in
    let told : r ≡ run test (drop i src) = omega (arith, f.place, same) in
    let size : length block ≡ n = rw e (length-take-le n (drop i src) (rw (length-drop i src) h)) in
    record { place = omega (arith, told, p.same); inside = omega (arith, f.inside, size, h, p.inside) }
