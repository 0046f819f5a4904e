-- Laws of the cursor by counting: how many LFs a part has, where its last line starts, and that the cursor counted so is the
-- one that passes byte after byte. Assumes nothing.
use Rattle.std.specs.Prelude.{if◌then◌else◌}
use mathlib.Core.Path.{◌≡◌, refl, sym, ap, ◌∙◌}
use mathlib.Core.Bool.{Bool, true, false, not, false≢true}
use mathlib.Core.List.{List, [], ◌∷◌, ◌++◌}
use Prim.Native.Nat.{ℕ, zero, suc, ◌+◌, ◌-◌, ◌*◌, ◌/◌, ◌<◌, ◌≤◌}
use native.Mathlib.Omega.{arith}
use native.Mathlib.Nat.{add-zero, le_refl}
use native.Mathlib.Numerals.{unary_clauses}
use lib.Dec.{eqb, ltb}
use Rattle.std.specs.Int.{from_bool}
use Rattle.std.specs.List.{sum_by}
use Rattle.std.proofs.lemmas.List.Recursion.{is_sum_by}
use Rattle.std.proofs.lemmas.List.Sums.{sum_by-cons}
use Rattle.std.specs.Simd.{first_chunks}
use lib.ListN.{length, get_or, take, drop, length-drop, take-append-drop, length-append, drop_of_length-le}
use lib.Seq.{take-add, drop-drop, take_all, take-suc, length-take-le, get_or-drop}
use borrow.Author.Tests.{ne_eqb, not-true, not-false, eqb-false, ltb-true, ltb-false}
use Rattle.byte.specs.Words.{every}
use Rattle.byte.specs.Bytes.{is_no_break}
use Rattle.source.specs.Cursor.{passed_byte, passed}
use Rattle.source.specs.Code.{Reaches, breaks, Unbroken, LineStart, is_not}
use Rattle.source.specs.declared.Span.{Span}
use Rattle.byte.proofs.Tests.{&&-left, &&-right}
use Rattle.byte.proofs.Words.{drop-one, every_append, every_get_d}
use Rattle.source.proofs.Cursor.{passed_append, passed_position, passed_byte_other}

breaks_append : (xs ys : List ℕ) → breaks (xs ++ ys) ≡ breaks xs + breaks ys
unfolding breaks
breaks_append [] ys = omega arith
breaks_append (b ∷ xs) ys = go (eqb b 10) (breaks_append xs ys)
  where
    go : (t : Bool) → breaks (xs ++ ys) ≡ breaks xs + breaks ys → (if t then suc (breaks (xs ++ ys)) else breaks (xs ++ ys)) ≡ (if t then suc (breaks xs) else breaks xs) + breaks ys
    go true e = omega arith
    go false e = e

breaks_take : (n : ℕ) (xs : List ℕ) → breaks (take n xs) ≤ n
unfolding breaks
breaks_take zero xs = omega arith
breaks_take (suc n) [] = omega arith
breaks_take (suc n) (b ∷ xs) = go (eqb b 10) (breaks_take n xs)
  where
    go : (t : Bool) → breaks (take n xs) ≤ n → (if t then suc (breaks (take n xs)) else breaks (take n xs)) ≤ suc n
    go true h = omega arith
    go false h = omega arith

-- what a byte adds
abbrev pub one_break : ℕ → ℕ
one_break b = from_bool (eqb b 10)

pub breaks_sum : (xs : List ℕ) → sum_by one_break xs ≡ breaks xs
unfolding breaks
breaks_sum xs = sym (is_sum_by breaks one_break refl (λ b ys. go (eqb b 10) ys) xs)
  where
    go : (t : Bool) (ys : List ℕ) → (if t then suc (breaks ys) else breaks ys) ≡ from_bool t + breaks ys
    go true ys = omega arith
    go false ys = omega arith

breaks_few : (xs : List ℕ) → breaks xs ≤ length xs
breaks_few xs =
    let all : take (length xs) xs ≡ xs = take_all (length xs) xs (le_refl (length xs)) in
    rw all at (breaks_take (length xs) xs)

pub breaks_fit : (xs : List ℕ) (top : ℕ) → length xs < top → sum_by one_break xs < top
breaks_fit xs top h = rw (breaks_sum xs) (omega (arith, breaks_few xs))

-- the blocks of a part and the bytes after them
blocks_sum : (n k : ℕ) (xs : List ℕ) → sum_by breaks (first_chunks n k xs) ≡ breaks (take (k * n) xs)
unfolding breaks
blocks_sum n zero xs =
    let z : 0 * n ≡ 0 = omega arith in
    rw z refl
blocks_sum n (suc k) xs =
    let place : suc k * n ≡ n + k * n = omega arith in
    sum_by-cons breaks (take n xs) (first_chunks n k (drop n xs))
    ∙ rw (place, take-add n (k * n) xs, breaks_append (take n xs) (take (k * n) (drop n xs))) (ap (λ r. breaks (take n xs) + r) (blocks_sum n k (drop n xs)))

module _ (part : List ℕ) (blocks : List (List ℕ)) (b : blocks ≡ first_chunks 64 (length part / 64) part) where
  pub blocks_fit : length part < 4294967296 → sum_by breaks blocks < 4294967296
  blocks_fit h = rw (b, blocks_sum 64 (length part / 64) part) (omega (arith, breaks_take (length part / 64 * 64) part))

  module _ (rest : List ℕ) (n k : ℕ) (r : rest ≡ drop (length part / 64 * 64) part) (e : n ≡ sum_by breaks blocks) (f : k ≡ breaks rest) where
    pub breaks_all : n + k ≡ breaks part
    breaks_all =
        let first : n ≡ breaks (take (length part / 64 * 64) part) = e ∙ rw (b, blocks_sum 64 (length part / 64) part) refl in
        let others : k ≡ breaks (drop (length part / 64 * 64) part) = f ∙ rw r refl in
        let whole : breaks part ≡ breaks (take (length part / 64 * 64) part) + breaks (drop (length part / 64 * 64) part) =
        rw (take-append-drop (length part / 64 * 64) part) at (breaks_append (take (length part / 64 * 64) part) (drop (length part / 64 * 64) part)) in
        omega (arith, first, others, whole)

    pub breaks_room : length part < 4294967296 → n + k < 4294967296
    breaks_room h = omega (arith, breaks_all, breaks_few part)

-- the walk back to the start of the last line
module _ (part : List ℕ) where
  pub unbroken_first : Unbroken part (length part)
  unfolding every
  unbroken_first = record { inside = omega arith; clear = rw (drop_of_length-le part (le_refl (length part))) }

  module _ (i : ℕ) (u : Unbroken part i) where
    back : (n : ℕ) → n ≤ i → every is_no_break (take n (drop (i - n) part)) ≡ true → Unbroken part (i - n)
    back n h e =
        let place : i - n + n ≡ i = omega arith in
        let others : drop n (drop (i - n) part) ≡ drop i part = drop-drop n (i - n) part ∙ rw place in
        let all : every is_no_break (take n (drop (i - n) part) ++ drop n (drop (i - n) part)) ≡ true = rw (every_append is_no_break (take n (drop (i - n) part)) (drop n (drop (i - n) part)), e, others) u.clear in
        record { inside = omega (arith, u.inside); clear = rw (take-append-drop n (drop (i - n) part)) at all }

    pub unbroken_block : (n : ℕ) (hit : Bool) → n ≤ i → hit ≡ not (every is_no_break (take n (drop (i - n) part))) → hit ≡ false → Unbroken part (i - n)
    unbroken_block n hit h e f = back n h (not-false (every is_no_break (take n (drop (i - n) part))) (sym e ∙ f))

    pub unbroken_on : 0 < i → (get_or part (i - 1) 0 ≡ 10 → ⊥) → Unbroken part (i - 1)
    unfolding every is_no_break
    unbroken_on h e =
        let inside : i - 1 < length part = omega (arith, u.inside) in
        back 1 h (rw (drop-one part (i - 1) inside, ne_eqb (get_or part (i - 1) 0) 10 e))

    pub line_start_here : get_or part (i - 1) 0 ≡ 10 → LineStart part i
    line_start_here e = record { last = u; behind = λ h. e }

    pub line_start_none : i ≤ 0 → LineStart part 0
    line_start_none h =
        let zero : i ≡ 0 = omega arith in
        record { last = rw zero at u; behind = λ h. absurd (omega arith) }

-- no second start stands further on: the byte before it would be an LF after the first
later : (part : List ℕ) (r r' : ℕ) → LineStart part r → LineStart part r' → r < r' → ⊥
unfolding is_no_break
later part r r' s t h =
    let k : r + (r' - 1 - r) ≡ r' - 1 = omega arith in
    let inside : r' - 1 - r < length (drop r part) = rw (length-drop r part) (omega (arith, t.last.inside)) in
    let byte : get_or (drop r part) (r' - 1 - r) 0 ≡ 10 = get_or-drop r part (r' - 1 - r) 0 ∙ rw k (t.behind (omega arith)) in
    false≢true (rw byte at (every_get_d is_no_break (drop r part) (r' - 1 - r) s.last.clear inside))

-- the last line has one start
pub line_start_one : (part : List ℕ) (r r' : ℕ) → LineStart part r → LineStart part r' → r ≡ r'
line_start_one part r r' s t = go (ltb r r') refl (ltb r' r) refl
  where
    go : (p : Bool) → ltb r r' ≡ p → (q : Bool) → ltb r' r ≡ q → r ≡ r'
    go true e q f = absurd (later part r r' s t (ltb-true r r' e))
    go false e true f = absurd (later part r' r t s (ltb-true r' r f))
    go false e false f = omega (arith, ltb-false r r' e, ltb-false r' r f)

-- the cursor past bytes without an LF
passed_unbroken : (p : Span) (xs : List ℕ) → every is_no_break xs ≡ true → passed p xs ≡ record { line = p.line; column = p.column + length xs; position = p.position + length xs }
unfolding passed every is_no_break
passed_unbroken p [] e = rw (add-zero p.column, add-zero p.position)
passed_unbroken p (b ∷ xs) e =
    let other : passed_byte p b ≡ record { line = p.line; column = p.column + 1; position = p.position + 1 } = sym (passed_byte_other p b (eqb-false b 10 (not-true (eqb b 10) (&&-left (not (eqb b 10)) (every is_no_break xs) e)))) in
    let column : p.column + 1 + length xs ≡ p.column + suc (length xs) = omega arith in
    let position : p.position + 1 + length xs ≡ p.position + suc (length xs) = omega arith in
    rw other (passed_unbroken (record { line = p.line; column = p.column + 1; position = p.position + 1 }) xs (&&-right (not (eqb b 10)) (every is_no_break xs) e) ∙ rw (column, position))

-- every LF adds a line
passed_line : (p : Span) (xs : List ℕ) → (passed p xs).line ≡ p.line + breaks xs
unfolding passed passed_byte breaks
passed_line p [] = omega arith
passed_line p (b ∷ xs) = passed_line (passed_byte p b) xs ∙ go (eqb b 10) (passed_byte p b) (λ t. rw t) (λ t. rw t)
  where
    go : (t : Bool) (q : Span) → (t ≡ true → q.line ≡ p.line + 1) → (t ≡ false → q.line ≡ p.line) → q.line + breaks xs ≡ p.line + (if t then suc (breaks xs) else breaks xs)
    go true q e f = omega (arith, e refl)
    go false q e f = rw (f refl)

-- the cursor after an LF
passed_break : (p : Span) (xs : List ℕ) → passed p (xs ++ 10 ∷ []) ≡ record { line = p.line + breaks (xs ++ 10 ∷ []); column = 1; position = p.position + length (xs ++ 10 ∷ []) }
unfolding passed passed_byte breaks
passed_break p xs =
    let line : (passed p xs).line + 1 ≡ p.line + (breaks xs + 1) = omega (arith, passed_line p xs) in
    let position : (passed p xs).position + 1 ≡ p.position + (length xs + 1) = omega (arith, passed_position p xs) in
    rw (passed_append p xs (10 ∷ []), breaks_append xs (10 ∷ []), length-append xs (10 ∷ []), line, position)

-- the last line starts at 0
pub passed_same : (part : List ℕ) (p : Span) (start : ℕ) → LineStart part start → start ≡ 0
    → record { line = p.line; column = p.column + length part; position = p.position + length part }
    ≡ passed p part
passed_same part p start s e = sym (passed_unbroken p part (rw e at s.last.clear))

-- both ways of `past`
module _ (part : List ℕ) (p : Span) where
  module _ (hit : Bool) (has : hit ≡ not (every (is_not 10) part)) where
    pub passed_clear : hit ≡ false
        → record { line = p.line; column = p.column + length part; position = p.position + length part }
        ≡ passed p part
    unfolding is_no_break
    passed_clear f = sym (passed_unbroken p part (not-false (every is_no_break part) (sym has ∙ f)))

    pub passed_broken : hit ≡ true → every (is_not 10) part ≡ false
    passed_broken t = not-true (every (is_not 10) part) (sym has ∙ t)

  module _ (start : ℕ) (s : LineStart part start) (broken : every (is_not 10) part ≡ false) where
    -- a part with an LF has a line before its last
    line_start_some : start ≡ 0 → ⊥
    unfolding is_no_break
    line_start_some e = false≢true (sym broken ∙ rw e at s.last.clear)

    -- past the last LF
    first : passed p (take start part) ≡ record { line = p.line + breaks (take start part); column = 1; position = p.position + start }
    first =
        let inside : start - 1 < length part = omega (arith, s.last.inside, line_start_some) in
        let place : suc (start - 1) ≡ start = omega (arith, line_start_some) in
        let split : take (start - 1) part ++ get_or part (start - 1) 0 ∷ [] ≡ take start part = sym (take-suc part (start - 1) 0 inside) ∙ rw place in
        let byte : get_or part (start - 1) 0 ≡ 10 = s.behind (omega (arith, line_start_some)) in
        let ends : take (start - 1) part ++ 10 ∷ [] ≡ take start part = rw byte at split in
        rw (ends, length-take-le start part s.last.inside) at (passed_break p (take (start - 1) part))

    pub passed_lines : (n : ℕ) → n ≡ breaks (take (start - 0) (drop 0 part)) → record { line = p.line + n; column = length part - start + 1; position = p.position + length part } ≡ passed p part
    passed_lines n e =
        let lines : n ≡ breaks (take start part) = simp unary_clauses at e in
        let column : 1 + length (drop start part) ≡ length part - start + 1 = rw (length-drop start part) (omega arith) in
        let position : p.position + start + length (drop start part) ≡ p.position + length part = rw (length-drop start part) (omega (arith, s.last.inside)) in
        let whole : passed p part ≡ passed (passed p (take start part)) (drop start part) = rw (take-append-drop start part) at (passed_append p (take start part) (drop start part)) in
        let last = passed_unbroken (record { line = p.line + breaks (take start part); column = 1; position = p.position + start }) (drop start part) s.last.clear in
        sym (whole ∙ rw (first, last, column, position, lines))

    pub passed_room : (n : ℕ) → n ≡ breaks (take (start - 0) (drop 0 part)) → Reaches p (length part) → p.line + n < 4294967296
    passed_room n e r = omega (arith, r.line, s.last.inside, breaks_take (start - 0) part)

    pub passed_column : Reaches p (length part) → length part - start + 1 < 4294967296
    passed_column r = omega (arith, r.line, s.last.inside, line_start_some)

pub ruleset passing_lines = (passed_clear, passed_broken, passed_lines, passed_room, passed_column)
