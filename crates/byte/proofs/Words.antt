-- Laws of `run` and of `every`: one byte more, the end, the loop that asks each, and lists put together. Assumes nothing.
use Rattle.std.specs.Prelude.{if◌then◌else◌}
use mathlib.Core.Path.{◌≡◌, refl, sym, ◌∙◌}
use mathlib.Core.Bool.{Bool, true, false, not, ◌&&◌, and_assoc, false≢true}
use mathlib.Core.List.{List, [], ◌∷◌, ◌++◌}
use Prim.Native.Nat.{ℕ, zero, suc, ◌+◌, ◌<◌, ◌≤◌}
use native.Mathlib.Omega.{arith}
use native.Mathlib.Numerals.{add-one}
use lib.Dec.{ltb, eqb, eqb-suc-suc, eqb-zero-suc}
use lib.ListN.{length, get_or, set, take, drop, length-take, drop_of_length-le, get_or-eq_default}
use lib.Seq.{drop-cons, get_or-take, take-nil, take_all, take-suc-set, set_out}
use borrow.Author.Tests.{not-true, not-false, ltb-true, ltb-false}
use Rattle.byte.specs.Words.{run, every}
use Rattle.byte.proofs.Tests.{&&-left, &&-right, &&-both}

-- the list from i on, by its byte at i
pub drop-one : (src : List ℕ) (i : ℕ) → i < length src → drop i src ≡ get_or src i 0 ∷ drop (i + 1) src
drop-one src i h = rw (add-one i, drop-cons src i 0 h)

-- all pass exactly if the run of those that do is the whole list
pub every_run : (test : ℕ → Bool) (xs : List ℕ) → eqb (run test xs) (length xs) ≡ every test xs
unfolding run every
every_run test [] = refl
every_run test (b ∷ rest) = go (test b) (every_run test rest)
  where
    go : (t : Bool) → eqb (run test rest) (length rest) ≡ every test rest → eqb (if t then suc (run test rest) else 0) (suc (length rest)) ≡ (t && every test rest)
    go true e = eqb-suc-suc (run test rest) (length rest) ∙ e
    go false e = eqb-zero-suc (length rest)

-- the first n of a list pass a test exactly if those from i on do. Past the list's end stands `none`, which passes
pub record Holding {A : Type 0} (test : A → Bool) (xs : List A) (n i : ℕ) : Type 0 where
  pub inside : i ≤ n
  pub same : every test (take n xs) ≡ every test (drop i (take n xs))

module _ {A : Type 0} (none : A) (test : A → Bool) (xs : List A) (n : ℕ) where
  pub holding_first : Holding test xs n 0
  holding_first = record { inside = omega arith; same = refl }

  module _ (i : ℕ) (p : Holding test xs n i) where
    pub holding_end : n ≤ i → true ≡ every test (take n xs)
    unfolding every
    holding_end h =
        let k : length (take n xs) ≤ i = rw (length-take n xs) (omega arith) in
        sym (p.same ∙ rw (drop_of_length-le (take n xs) k))

    module _ (flag : Bool) (h : i < n) (f : flag ≡ test (get_or xs i none)) (fine : test none ≡ true) where
      pub holding_stop : not flag ≡ true → false ≡ every test (take n xs)
      unfolding every
      holding_stop t = go (ltb i (length xs)) refl
        where
          go : (q : Bool) → ltb i (length xs) ≡ q → false ≡ every test (take n xs)
          go true e =
              let k : i < length (take n xs) = rw (length-take n xs) (omega (arith, ltb-true i (length xs) e)) in
              sym (p.same ∙ rw (drop-cons (take n xs) i none k, get_or-take n xs i none h, ← f, not-true flag t))
          go false e =
              let z : flag ≡ true = f ∙ rw (get_or-eq_default xs none (ltb-false i (length xs) e)) fine in
              absurd (false≢true (sym (not-true flag t) ∙ z))

      pub holding_on : not flag ≡ false → Holding test xs n (i + 1)
      unfolding every
      holding_on t = record { inside = omega arith; same = p.same ∙ go (ltb i (length xs)) refl }
        where
          go : (q : Bool) → ltb i (length xs) ≡ q → every test (drop i (take n xs)) ≡ every test (drop (i + 1) (take n xs))
          go true e =
              let k : i < length (take n xs) = rw (length-take n xs) (omega (arith, ltb-true i (length xs) e)) in
              rw (drop-cons (take n xs) i none k, get_or-take n xs i none h, ← f, not-false flag t, add-one i)
          go false e =
              let k : length (take n xs) ≤ i = rw (length-take n xs) (omega (arith, ltb-false i (length xs) e)) in
              let m : length (take n xs) ≤ i + 1 = omega arith in
              rw (drop_of_length-le (take n xs) k, drop_of_length-le (take n xs) m)

-- the first m of a list pass where the first n do
pub every_take : {A : Type 0} (test : A → Bool) (xs : List A) (m n : ℕ) → m ≤ n → every test (take n xs) ≡ true → every test (take m xs) ≡ true
unfolding every
every_take test [] m n h e = rw (take-nil m)
every_take test (a ∷ rest) zero n h e = refl
every_take test (a ∷ rest) (suc m) zero h e = absurd (omega arith)
every_take test (a ∷ rest) (suc m) (suc n) h e = &&-both (test a) (every test (take m rest)) (&&-left (test a) (every test (take n rest)) e) (every_take test rest m n (omega arith) (&&-right (test a) (every test (take n rest)) e))

-- where all pass, each does
pub every_get_d : (test : ℕ → Bool) (xs : List ℕ) (i : ℕ) → every test xs ≡ true → i < length xs → test (get_or xs i 0) ≡ true
unfolding every
every_get_d test [] i e h = absurd (omega arith)
every_get_d test (b ∷ xs) zero e h = &&-left (test b) (every test xs) e
every_get_d test (b ∷ xs) (suc i) e h = every_get_d test xs i (&&-right (test b) (every test xs) e) (omega arith)

-- all of two lists pass exactly if all of each do
pub every_append : {A : Type 0} (test : A → Bool) (xs ys : List A) → every test (xs ++ ys) ≡ (every test xs && every test ys)
unfolding every
every_append test [] ys = refl
every_append test (a ∷ rest) ys = rw (every_append test rest ys) (sym (and_assoc (test a) (every test rest) (every test ys)))

-- and one more does where it is stored after them
pub every_set : {A : Type 0} (test : A → Bool) (xs : List A) (n : ℕ) (a : A) → every test (take n xs) ≡ true → test a ≡ true → every test (take (n + 1) (set xs n a)) ≡ true
unfolding every
every_set test xs n a e f = rw (add-one n) (go (ltb n (length xs)) refl)
  where
    go : (q : Bool) → ltb n (length xs) ≡ q → every test (take (suc n) (set xs n a)) ≡ true
    go true h = rw (take-suc-set xs n a (ltb-true n (length xs) h)) (rw (every_append test (take n xs) (a ∷ []), e, f))
    go false h =
        let k : length xs ≤ n = ltb-false n (length xs) h in
        let m : length xs ≤ suc n = omega arith in
        rw (set_out xs n a k, take_all (suc n) xs m) (rw (take_all n xs k) at e)
