-- Laws of `laid`, for every write to a list, a pool or a file. Assumes nothing.
use Prim.Native.Nat.{ℕ, ◌+◌, ◌-◌, ◌≤◌, ◌<◌}
use mathlib.Core.Path.{◌≡◌, refl, sym, ap, ◌∙◌}
use mathlib.Core.List.{List, [], ◌∷◌, ◌++◌, append_assoc, append-nil}
use native.Mathlib.Omega.{arith}
use native.Mathlib.Nat.{add-zero, zero-add}
use lib.ListN.{length, take, drop, set, length-append, length-drop, take-append-drop}
use lib.Seq.{sets-eq, length-take-le, take_at, drop-drop, drop-append-add, take-length, drop-length, take-append_seam}
use borrow.Rule.Slice.PartMut.{put_mid}
use Rattle.byte.specs.Laid.{laid}

-- a write of nothing changes nothing
pub laid_nil : (l : List ℕ) (i : ℕ) → laid l i [] ≡ l
unfolding laid
laid_nil l i = simp (add-zero, append-nil, take-append-drop)

pub length_laid : (l : List ℕ) (i : ℕ) (vs : List ℕ) → i + length vs ≤ length l → length (laid l i vs) ≡ length l
unfolding laid
length_laid l i vs h =
    let a : length (take i l) ≡ i = length-take-le i l (omega arith) in
    simp (length-append, length-drop) (omega arith)

-- one write and another right after it are one write of both
pub laid_append : (l : List ℕ) (i j : ℕ) (xs ys : List ℕ) → j ≡ i + length xs → i + length xs + length ys ≤ length l → laid (laid l i xs) j ys ≡ laid l i (xs ++ ys)
unfolding laid
laid_append l i j xs ys e h =
    let a : length (take i l) ≡ i = length-take-le i l (omega arith) in
    let p : length (take i l ++ xs) ≡ j = simp length-append (omega arith) in
    let n : i + length xs + length ys ≡ i + length (xs ++ ys) = simp length-append (omega arith) in
    let d : drop (j + length ys) ((take i l ++ xs) ++ drop (i + length xs) l) ≡ drop (i + length (xs ++ ys)) l =
    rw (← p) (drop-append-add (take i l ++ xs) (drop (i + length xs) l) (length ys) ∙ drop-drop (length ys) (i + length xs) l ∙ ap (λ (k : ℕ). drop k l) n) in
    rw (take_at (take i l ++ xs) (drop (i + length xs) l) j p, d, append_assoc (take i l) xs ys)

-- a store is a write of one
pub set_laid : (l : List ℕ) (i v : ℕ) → i < length l → set l i v ≡ laid l i (v ∷ [])
unfolding laid
set_laid l i v h = sets-eq (v ∷ []) l i (omega arith)

-- what is written at the start of the lent rest is written in the whole from the mark on
pub laid_rest : (l rest : List ℕ) (m : ℕ) (vs : List ℕ) → m + length vs ≤ length l → rest ≡ laid (take (length l - m) (drop m l)) 0 vs → take m l ++ (rest ++ drop (length l - m) (drop m l)) ≡ laid l m vs
unfolding laid
laid_rest l rest m vs h f =
    let n : length l - m ≡ length (drop m l) = simp length-drop (omega arith) in
    rw (f, n, take-length (drop m l), drop-length (drop m l), zero-add (length vs), append-nil (vs ++ drop (length vs) (drop m l)), drop-drop (length vs) m l, ← append_assoc (take m l) vs (drop (m + length vs) l))

-- what is copied into a part is written in the whole from the part's place on
pub laid_part : (l part : List ℕ) (i k : ℕ) (vs : List ℕ) → part ≡ vs → k ≡ length vs → put_mid i k l part ≡ laid l i vs
unfolding laid
laid_part l part i k vs e n = rw (e, n, drop-drop (length vs) i l, ← append_assoc (take i l) vs (drop (i + length vs) l))

pub laid_front : (l part : List ℕ) (k : ℕ) (vs : List ℕ) → part ≡ vs → k ≡ length vs → part ++ drop k l ≡ laid l 0 vs
unfolding laid
laid_front l part k vs e n = rw (e, n, zero-add (length vs))

-- what was written at the start can be read there
pub take_laid : (l vs : List ℕ) (n : ℕ) → n ≡ length vs → take n (laid l 0 vs) ≡ vs
unfolding laid
take_laid l vs n e = rw e (take-append_seam vs (drop (0 + length vs) l))

-- a loop that writes: i of its n turns are done, and what they wrote, `values i`, stands at the start
pub record Writing (values : ℕ → List ℕ) (n : ℕ) (old now : List ℕ) (i : ℕ) : Type 0 where
  pub inside : i ≤ n
  pub size : length now ≡ length old
  pub written : now ≡ laid old 0 (values i)

module _ (values : ℕ → List ℕ) (n : ℕ) (old : List ℕ) where
  pub writing_first : values 0 ≡ [] → Writing values n old old 0
  writing_first e = record { inside = omega arith; size = refl; written = sym (rw e (laid_nil old 0)) }

  module _ (now : List ℕ) (i : ℕ) (w : Writing values n old now i) where
    -- a turn writes vs after what is there
    pub writing_on : (after : List ℕ) (at : ℕ) (vs : List ℕ) → i < n → at ≡ length (values i) → at + length vs ≤ length old → values (i + 1) ≡ values i ++ vs → after ≡ laid now at vs → Writing values n old after (i + 1)
    writing_on after at vs h place fits more e =
        let m : length (values (i + 1)) ≡ at + length vs = rw more (length-append (values i) vs ∙ rw place) in
        let done : after ≡ laid old 0 (values (i + 1)) = e ∙ rw (w.written, more) (laid_append old 0 at (values i) vs (omega arith) (omega arith)) in
        record { inside = omega arith; size = ap length done ∙ length_laid old 0 (values (i + 1)) (omega arith); written = done }

    pub writing_end : n ≤ i → now ≡ laid old 0 (values n)
    writing_end h =
        let all : i ≡ n = omega (arith, w.inside) in
        w.written ∙ rw all
