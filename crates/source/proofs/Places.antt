-- Where a search of std stops, in the words of this crate: a byte in a part, a run's end, blocks passed either way. Assumes nothing.
use Rattle.std.specs.Prelude.{if◌then◌else◌}
use Rattle.std.specs.Simd.{first_chunks}
use Rattle.std.proofs.Common.{◌≡◌, ℕ, zero, suc, ◌+◌, ◌-◌, ◌*◌, ◌/◌, ◌%◌, ◌<◌, ◌≤◌, Bool, true, false, not, cond, ◌||◌, ◌&&◌, List, [], ◌∷◌, ◌++◌, reverse, length, get_or, take, drop, refl, sym, ◌∙◌, ap, arith, Some, None, Option, unwrap_or}
use Rattle.std.specs.List.{list_any, position, position_or_len}
use Rattle.std.proofs.lemmas.List.{reverse-append, length-reverse}
use Rattle.std.proofs.Math.Nat.{div-mul-le_self, lt-div-mul-add}
use Rattle.std.proofs.lemmas.List.Sums.{prefix_len-le-length}
use lib.Dec.{eqb, ltb}
use lib.ListN.{length-drop}
use lib.Seq.{drop-drop, take-suc, take_all, length-take-le}
use borrow.Author.Tests.{not-true, eqb-true, eqb-false, ltb-false}
use Rattle.byte.specs.Words.{run, every}
use Rattle.byte.specs.Bytes.{is_no_break}
use Rattle.source.specs.Code.{RunEnd, Passing, Unbroken, LineStart, is_not}
use Rattle.source.proofs.Runs.{passing_first}
use Rattle.source.proofs.Blocks.{passing_block}
use Rattle.source.proofs.Counts.{unbroken_first, unbroken_block, unbroken_on, line_start_here, line_start_none}

-- not all of a block pass
abbrev pub fails : (ℕ → Bool) → List ℕ → Bool
fails test block = not (every test block)

-- how many of k blocks of n bytes pass, from the first on
abbrev passes : (ℕ → Bool) → ℕ → ℕ → List ℕ → ℕ
passes test n k bs = position_or_len (fails test) (first_chunks n k bs)

-- how many of k blocks of 8 bytes have no LF, from the last on
abbrev back : ℕ → List ℕ → ℕ
back k bs = position_or_len (fails is_no_break) (reverse (first_chunks 8 k bs))

abbrev pub is_break : ℕ → Bool
is_break b = eqb b 10

-- how many of the first n bytes are no LF, from the last of them on
abbrev others : ℕ → List ℕ → ℕ
others n bs = position_or_len is_break (reverse (take n bs))

-- a byte stands in a part exactly if not each of its bytes is another
pub any_is : (c : ℕ) (bs : List ℕ) → list_any (λ b. eqb b c) bs ≡ not (every (is_not c) bs)
unfolding every
any_is c [] = refl
any_is c (b ∷ bs) = go (eqb b c) (any_is c bs)
  where
    go : (t : Bool) → list_any (λ b. eqb b c) bs ≡ not (every (is_not c) bs) → (t || list_any (λ b. eqb b c) bs) ≡ not (not t && every (is_not c) bs)
    go true e = refl
    go false e = e

-- where `position` stops, or else the end, is how many stand before the first that passes
pub place_or_end : {X : Type 0} (p : X → Bool) (xs : List X) (found : Option ℕ)
    → found ≡ position p xs
    → unwrap_or found (length xs) ≡ position_or_len p xs
place_or_end p xs found e = rw e (go (ltb (position_or_len p xs) (length xs)) refl)
  where
    go : (t : Bool) → ltb (position_or_len p xs) (length xs) ≡ t → unwrap_or (cond t (Some (position_or_len p xs)) None) (length xs) ≡ position_or_len p xs
    go true f = refl
    go false f = omega (arith, ltb-false (position_or_len p xs) (length xs) f, prefix_len-le-length (λ x. not (p x)) xs)

-- a run of bytes that pass is over at the first that fails
pub run_is : (test : ℕ → Bool) (bs : List ℕ) → position_or_len (λ b. not (test b)) bs ≡ run test bs
unfolding run
run_is test [] = refl
run_is test (b ∷ bs) = go (test b) (run_is test bs)
  where
    go : (t : Bool) → position_or_len (λ b. not (test b)) bs ≡ run test bs → cond (not (not t)) (1 + position_or_len (λ b. not (test b)) bs) 0 ≡ (if t then suc (run test bs) else 0)
    go true e = omega (arith, e)
    go false e = refl

-- the first place from `at` on that fails
pub run_found : (test : ℕ → Bool) (src part : List ℕ) (at passed : ℕ) (found : Option ℕ) → at ≤ length src → part ≡ take (length src - at) (drop at src)
    → found ≡ position (λ b. not (test b)) part
    → passed ≡ unwrap_or found (length src - at) → RunEnd test src at (at + passed)
run_found test src part at passed found h w e f =
    let size : length (drop at src) ≡ length src - at = length-drop at src in
    let all : part ≡ drop at src = w ∙ take_all (length src - at) (drop at src) (omega (arith, size)) in
    let place : unwrap_or found (length (drop at src)) ≡ run test (drop at src) = rw all at (place_or_end (λ b. not (test b)) part found e) ∙ run_is test (drop at src) in
    let many : passed ≡ run test (drop at src) = f ∙ rw size at place in
    let few : run test (drop at src) ≤ length (drop at src) = rw (← run_is test (drop at src)) (prefix_len-le-length (λ b. not (not (test b))) (drop at src)) in
    record { place = omega (arith, many); inside = omega (arith, many, few, size) }

-- blocks of n bytes that pass are passed
blocks_passed : (test : ℕ → Bool) (src : List ℕ) (at n k i : ℕ) → Passing test src at i → i + k * n ≤ length src
    → Passing test src at (i + passes test n k (drop i src) * n)
blocks_passed test src at n zero i p h =
    let stay : i + 0 * n ≡ i = omega arith in
    rw stay p
blocks_passed test src at n (suc k) i p h = go (not (every test (take n (drop i src)))) refl (λ q. blocks_passed test src at n k (i + n) q (omega (arith, h)))
  where
    go : (t : Bool) → t ≡ not (every test (take n (drop i src)))
        → (Passing test src at (i + n) → Passing test src at (i + n + passes test n k (drop (i + n) src) * n))
        → Passing test src at (i + cond (not t) (1 + passes test n k (drop n (drop i src))) 0 * n)
    go true e more =
        let stay : i + 0 * n ≡ i = omega arith in
        rw stay p
    go false e more =
        let rest : ℕ = passes test n k (drop (i + n) src) in
        let on : i + (1 + rest) * n ≡ i + n + rest * n = omega arith in
        rw (drop-drop n i src, on) (more (passing_block test src at i p n false (omega arith) e refl))

-- and where that stops, the next block has a byte that fails, or there is none
blocks_stopped : (test : ℕ → Bool) (src : List ℕ) (n k i : ℕ) → i ≤ length src → i + k * n ≤ length src → length src < i + (k + 1) * n
    → n ≤ length src - (i + passes test n k (drop i src) * n)
    → every test (take n (drop (i + passes test n k (drop i src) * n) src)) ≡ false
blocks_stopped test src n zero i h l r m =
    let none : i + 0 * n ≡ i = omega arith in
    let over : length src < i + n = omega arith in
    absurd (omega (arith, over, rw none at m))
blocks_stopped test src n (suc k) i h l r m = go (not (every test (take n (drop i src)))) refl m (blocks_stopped test src n k (i + n) (omega (arith, l)) (omega (arith, l)) (omega (arith, r)))
  where
    go : (t : Bool) → t ≡ not (every test (take n (drop i src)))
        → n ≤ length src - (i + cond (not t) (1 + passes test n k (drop n (drop i src))) 0 * n)
        → (n ≤ length src - (i + n + passes test n k (drop (i + n) src) * n)
        → every test (take n (drop (i + n + passes test n k (drop (i + n) src) * n) src)) ≡ false)
        → every test (take n (drop (i + cond (not t) (1 + passes test n k (drop n (drop i src))) 0 * n) src)) ≡ false
    go true e m more =
        let stay : i + 0 * n ≡ i = omega arith in
        rw stay (not-true (every test (take n (drop i src))) (sym e))
    go false e m more =
        let rest : ℕ = passes test n k (drop (i + n) src) in
        let on : i + (1 + rest) * n ≡ i + n + rest * n = omega arith in
        rw (drop-drop n i src, on) (more (rw (drop-drop n i src, on) at m))

-- what `as_chunks` and `position` tell, put together
module _ (test : ℕ → Bool) (src part : List ℕ) (blocks : List (List ℕ)) (at n passed : ℕ) (found : Option ℕ) (h : at ≤ length src)
    (w : part ≡ take (length src - at) (drop at src)) (b : blocks ≡ first_chunks n (length part / n) part)
    (e : found ≡ position (fails test) blocks)
    (f : passed ≡ unwrap_or found (length blocks)) where
  all : part ≡ drop at src
  all = w ∙ take_all (length src - at) (drop at src) (omega (arith, length-drop at src))

  size : length part ≡ length src - at
  size = ap length all ∙ length-drop at src

  many : passed ≡ passes test n (length part / n) (drop at src)
  many = f ∙ place_or_end (fails test) blocks found e ∙ rw b (ap (λ bytes. passes test n (length part / n) bytes) all)

  room : at + length part / n * n ≤ length src
  room = omega (arith, div-mul-le_self (length part) n, size)

  pub blocks_found : Passing test src at (at + passed * n)
  blocks_found = rw many (blocks_passed test src at n (length part / n) at (passing_first test src at h) room)

  pub block_stops : 0 < n → n ≤ length src - (at + passed * n) → every test (take n (drop (at + passed * n) src)) ≡ false
  block_stops l m =
      let over : length src < at + (length part / n + 1) * n = omega (arith, lt-div-mul-add {a = length part} {b = n} l, size) in
      rw many (blocks_stopped test src n (length part / n) at h room over (rw many at m))

-- a block of n bytes
chunk_at : (n k j : ℕ) (xs : List ℕ) → j < k → get_or (first_chunks n k xs) j [] ≡ take n (drop (j * n) xs)
chunk_at n zero j xs h = absurd (omega arith)
chunk_at n (suc k) zero xs h =
    let z : 0 * n ≡ 0 = omega arith in
    rw z refl
chunk_at n (suc k) (suc j) xs h =
    let place : suc j * n ≡ n + j * n = omega arith in
    rw (place, ← drop-drop (j * n) n xs) (chunk_at n k j (drop n xs) (omega arith))

-- the block at k of those from `at` on
pub block_at : (src part : List ℕ) (blocks : List (List ℕ)) (at k : ℕ) → part ≡ take (length src - at) (drop at src)
    → blocks ≡ first_chunks 8 (length part / 8) part → length blocks ≡ length part / 8 → k < length blocks
    → (get_or blocks k [] ≡ take 8 (drop (at + k * 8) src)) × (8 ≤ length src - (at + k * 8))
block_at src part blocks at k w b n h =
    let size : length (drop at src) ≡ length src - at = length-drop at src in
    let all : part ≡ drop at src = w ∙ take_all (length src - at) (drop at src) (omega (arith, size)) in
    let long : length part ≡ length src - at = ap length all ∙ size in
    let few : k < length part / 8 = omega (arith, n) in
    (rw b (chunk_at 8 (length part / 8) k part few ∙ rw (all, drop-drop (k * 8) at src) refl), omega (arith, long, few))

-- the last block stands behind the others
chunks_last : (n k : ℕ) (xs : List ℕ) → first_chunks n (suc k) xs ≡ first_chunks n k xs ++ (take n (drop (k * n) xs) ∷ [])
chunks_last n zero xs =
    let z : 0 * n ≡ 0 = omega arith in
    rw z refl
chunks_last n (suc k) xs =
    let place : suc k * n ≡ n + k * n = omega arith in
    rw (place, ← drop-drop (k * n) n xs) (ap (λ rest. take n xs ∷ rest) (chunks_last n k (drop n xs)))

chunks_back : (n k : ℕ) (xs : List ℕ) → reverse (first_chunks n (suc k) xs) ≡ take n (drop (k * n) xs) ∷ reverse (first_chunks n k xs)
chunks_back n k xs = rw (chunks_last n k xs, reverse-append (first_chunks n k xs) (take n (drop (k * n) xs) ∷ []))

-- and is the first on the way back
blocks_back : (part : List ℕ) (i k : ℕ) → Unbroken part (i + k * 8)
    → Unbroken part (i + k * 8 - back k (drop i part) * 8)
blocks_back part i zero u =
    let stay : i + 0 * 8 - 0 * 8 ≡ i + 0 * 8 = omega arith in
    rw stay u
blocks_back part i (suc k) u =
    rw (chunks_back 8 k (drop i part), drop-drop (k * 8) i part)
    (go (not (every is_no_break (take 8 (drop (i + k * 8) part)))) refl (blocks_back part i k))
  where
    go : (t : Bool) → t ≡ not (every is_no_break (take 8 (drop (i + k * 8) part)))
        → (Unbroken part (i + k * 8) → Unbroken part (i + k * 8 - back k (drop i part) * 8))
        → Unbroken part (i + suc k * 8 - cond (not t) (1 + back k (drop i part)) 0 * 8)
    go true e more =
        let stay : i + suc k * 8 - 0 * 8 ≡ i + suc k * 8 = omega arith in
        rw stay u
    go false e more =
        let rest : ℕ = back k (drop i part) in
        let on : i + suc k * 8 - (1 + rest) * 8 ≡ i + k * 8 - rest * 8 = omega arith in
        let before : i + suc k * 8 - 8 ≡ i + k * 8 = omega arith in
        let clear : false ≡ not (every is_no_break (take 8 (drop (i + suc k * 8 - 8) part))) = rw before e in
        let one : Unbroken part (i + suc k * 8 - 8) = unbroken_block part (i + suc k * 8) u 8 false (omega arith) clear refl in
        rw on (more (rw before at one))

pub last_block_found : (part : List ℕ) (blocks : List (List ℕ)) (passed : ℕ) (found : Option ℕ)
    → blocks ≡ first_chunks 8 (length part / 8) (drop (length part % 8) part)
    → found ≡ position (fails is_no_break) (reverse blocks)
    → passed ≡ unwrap_or found (length blocks) → Unbroken part (length part - passed * 8)
last_block_found part blocks passed found b e f =
    let size : length blocks ≡ length (reverse blocks) = sym (length-reverse blocks) in
    let many : passed ≡ position_or_len (fails is_no_break) (reverse blocks) =
    f ∙ rw size (place_or_end (fails is_no_break) (reverse blocks) found e) in
    let whole : length part % 8 + length part / 8 * 8 ≡ length part = omega arith in
    let walk = blocks_back part (length part % 8) (length part / 8) (rw whole (unbroken_first part)) in
    rw (many, b) (rw whole at walk)

-- byte by byte back to the last LF
bytes_back : (part : List ℕ) (end : ℕ) → Unbroken part end
    → LineStart part (end - others end part)
bytes_back part zero u = line_start_none part 0 u (omega arith)
bytes_back part (suc end) u =
    let inside : end < length part = omega (arith, u.inside) in
    rw (take-suc part end 0 inside, reverse-append (take end part) (get_or part end 0 ∷ [])) (go (eqb (get_or part end 0) 10) refl (bytes_back part end))
  where
    before : suc end - 1 ≡ end
    before = omega arith

    go : (t : Bool) → eqb (get_or part end 0) 10 ≡ t → (Unbroken part end → LineStart part (end - others end part))
        → LineStart part (suc end - cond (not t) (1 + others end part) 0)
    go true e more =
        let stay : suc end - 0 ≡ suc end = omega arith in
        rw stay (line_start_here part (suc end) u (rw before (eqb-true (get_or part end 0) 10 e)))
    go false e more =
        let rest : ℕ = others end part in
        let on : suc end - (1 + rest) ≡ end - rest = omega arith in
        let one : Unbroken part (suc end - 1) = unbroken_on part (suc end) u (omega arith) (rw before (eqb-false (get_or part end 0) 10 e)) in
        rw on (more (rw before at one))

pub line_start_found : (part bytes : List ℕ) (end passed : ℕ) (found : Option ℕ) → Unbroken part end → bytes ≡ take end part
    → found ≡ position is_break (reverse bytes)
    → passed ≡ unwrap_or found end → LineStart part (end - passed)
line_start_found part bytes end passed found u w e f =
    let size : length (reverse bytes) ≡ end = length-reverse bytes ∙ rw w (length-take-le end part u.inside) in
    let many : passed ≡ position_or_len is_break (reverse bytes) = f ∙ rw size at (place_or_end is_break (reverse bytes) found e) in
    rw (many, w) (bytes_back part end u)
