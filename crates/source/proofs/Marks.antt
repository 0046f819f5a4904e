-- Laws of words: what the code computes of eight bytes at once is what it would compute of each, since no byte carries
-- into the next; and how many bytes stand before the first mark. Assumes nothing.
use Rattle.std.specs.Prelude.{if◌then◌else◌}
use mathlib.Core.Path.{◌≡◌, refl, sym, ap, ap₂, ◌∙◌}
use mathlib.Core.Bool.{Bool, true, false, not, ◌&&◌}
use mathlib.Core.List.{List, [], ◌∷◌}
use Prim.Native.Nat.{ℕ, zero, suc, ◌+◌, ◌-◌, ◌*◌, ◌/◌, ◌%◌, ◌^◌, ◌≤◌, ◌<◌}
use native.Mathlib.Omega.{arith}
use native.Mathlib.Nat.{suc-mul, suc-add, zero-add, mul-one}
use lib.Dec.{eqb}
use lib.ListN.{length, get_or, take, drop, length-drop}
use lib.Seq.{length-take-le, take_all}
use Rattle.std.specs.Int.{from_le_bytes}
use Rattle.std.proofs.Common.{w64, subst}
use lib.Count.{count_trailing_zeros, under}
use lib.Pow.{pow-add}
use lib.Bits.{bit_and, bit_or, bit_xor, and_block, or_block, xor_block, and_le_l, and_le_r, or_lt, xor_lt}
use lib.Bits.{xor_self, xor_add_and, shifted_half, shifted_even}
use borrow.Author.Tests.{eqb-true, eqb-false}
use Rattle.byte.specs.Words.{run}
use Rattle.byte.specs.Bytes.{is_none_of}
use Rattle.byte.proofs.Table.{below, below_each}
use Rattle.source.specs.Code.{word_of, repeated, is_not, mark, marks_of}
use Rattle.source.specs.Code.{Passing}
use Rattle.source.proofs.Blocks.{eight_bytes, run_take, passing_part}

-- ---- one byte

-- what is left of a byte that differs by x from the one looked for
abbrev left : ℕ → ℕ
left x = bit_and (255 - bit_or (bit_and x 127 + 127) x) 128

abbrev is_right : ℕ → Bool
is_right zero = eqb (left 0) 128
is_right (suc x) = eqb (left (suc x)) 0

left_all : below 256 is_right ≡ true
left_all = refl

left_other : (x : ℕ) → x < 256 → (x ≡ 0 → ⊥) → left x ≡ 0
left_other zero h d = absurd (d refl)
left_other (suc x) h d = eqb-true (left (suc x)) 0 (below_each 256 is_right left_all (suc x) h)

-- bytes whose difference is 0 are one byte
xor-zero : (b c : ℕ) → bit_xor b c ≡ 0 → b ≡ c
xor-zero b c e = omega (arith, xor_add_and b c, and_le_l b c, and_le_r b c, e)

left_mark : (b c : ℕ) → b < 256 → c < 256 → left (bit_xor b c) ≡ mark (is_not c b)
left_mark b c h k = go (eqb b c) refl
  where
    go : (q : Bool) → eqb b c ≡ q → left (bit_xor b c) ≡ mark (not q)
    go true f = rw (eqb-true b c f, xor_self c)
    go false f = left_other (bit_xor b c) (xor_lt 8 b c h k) (λ e. eqb-false b c f (xor-zero b c e))

-- ---- n bytes

-- each of them is a byte
data Small : List ℕ → Type 0 where
  none : Small []
  more : {b : ℕ} {bs : List ℕ} → b < 256 → Small bs → Small (b ∷ bs)

-- what the code computes
abbrev marked : ℕ → ℕ → ℕ → ℕ
marked n v w =
    bit_and (repeated n 255 - bit_or (bit_and (bit_xor v w) (repeated n 127) + repeated n 127) (bit_xor v w))
    (repeated n 128)

-- the number of n bytes is below 256 to the n
repeated_full : (n : ℕ) → suc (repeated n 255) ≡ 2 ^ (n * 8)
unfolding repeated
repeated_full zero = refl
repeated_full (suc n) =
    let e : 2 ^ (suc n * 8) ≡ 2 ^ (n * 8) * 256 = ap (λ (k : ℕ). 2 ^ k) (suc-mul n 8) ∙ pow-add 2 (n * 8) 8 in
    omega (arith, repeated_full n, e)

fits : (n a : ℕ) → a ≤ repeated n 255 → a < 2 ^ (n * 8)
fits n a h = omega (arith, repeated_full n, h)

fits_back : (n a : ℕ) → a < 2 ^ (n * 8) → a ≤ repeated n 255
fits_back n a h = omega (arith, repeated_full n, h)

repeated_le : (n c d : ℕ) → c ≤ d → repeated n c ≤ repeated n d
unfolding repeated
repeated_le zero c d h = omega arith
repeated_le (suc n) c d h = omega (arith, repeated_le n c d h)

-- no byte of a sum carries into the next
repeated_double : (n : ℕ) → repeated n 127 + repeated n 127 ≤ repeated n 255
unfolding repeated
repeated_double zero = omega arith
repeated_double (suc n) = omega (arith, repeated_double n)

word_of_le : (bs : List ℕ) → Small bs → word_of bs ≤ repeated (length bs) 255
unfolding word_of repeated
word_of_le [] s = omega arith
word_of_le (b ∷ bs) (Small.more h s) = omega (arith, word_of_le bs s, h)

marked_word : (c : ℕ) → c < 256 → (bs : List ℕ) → Small bs
    → marked (length bs) (word_of bs) (repeated (length bs) c) ≡ word_of (marks_of (is_not c) bs)
unfolding word_of repeated marks_of
marked_word c hc [] s = refl
marked_word c hc (b ∷ bs) (Small.more hb s) =
    let n : ℕ = length bs in
    let v : ℕ = word_of bs in
    let w : ℕ = repeated n c in
    let x : ℕ = bit_xor v w in
    let y : ℕ = bit_xor b c in
    let hy : y < 256 = xor_lt 8 b c hb hc in
    let a : ℕ = bit_and x (repeated n 127) in
    let e : ℕ = bit_and y 127 in
    let he : e ≤ 127 = and_le_r y 127 in
    let ha : a ≤ repeated n 127 = and_le_r x (repeated n 127) in
    let o : ℕ = bit_or (a + repeated n 127) x in
    let hx : x ≤ repeated n 255 =
    fits_back n x
    (xor_lt (n * 8) v w (fits n v (word_of_le bs s)) (fits n w (repeated_le n c 255 (omega (arith, hc))))) in
    let hs : a + repeated n 127 ≤ repeated n 255 = omega (arith, repeated_double n, ha) in
    let ho : o ≤ repeated n 255 =
    fits_back n o (or_lt (n * 8) (a + repeated n 127) x (fits n (a + repeated n 127) hs) (fits n x hx)) in
    let p : ℕ = bit_or (e + 127) y in
    let hp : p < 256 = or_lt 8 (e + 127) y (omega (arith, he)) hy in
    let e₁ : bit_xor (v * 256 + b) (w * 256 + c) ≡ x * 256 + y = xor_block 8 v w b c hb hc in
    let e₂ : bit_and (x * 256 + y) (repeated n 127 * 256 + 127) ≡ a * 256 + e =
    and_block 8 x (repeated n 127) y 127 hy (omega arith) in
    let e₃ : (a * 256 + e) + (repeated n 127 * 256 + 127) ≡ (a + repeated n 127) * 256 + (e + 127) = omega arith in
    let e₄ : bit_or ((a + repeated n 127) * 256 + (e + 127)) (x * 256 + y) ≡ o * 256 + p =
    or_block 8 (a + repeated n 127) x (e + 127) y (omega (arith, he)) hy in
    let e₅ : (repeated n 255 * 256 + 255) - (o * 256 + p) ≡ (repeated n 255 - o) * 256 + (255 - p) =
    omega (arith, ho, hp) in
    let e₆ : bit_and ((repeated n 255 - o) * 256 + (255 - p)) (repeated n 128 * 256 + 128)
    ≡ marked n v w * 256 + left y =
    and_block 8 (repeated n 255 - o) (repeated n 128) (255 - p) 128 (omega (arith, hp)) (omega arith) in
    rw (e₁, e₂, e₃, e₄, e₅, e₆, marked_word c hc bs s, left_mark b c hb hc)

-- the marks of two tests together are those of both
marks_both : (p q : ℕ → Bool) (bs : List ℕ)
    → bit_or (word_of (marks_of p bs)) (word_of (marks_of q bs)) ≡ word_of (marks_of (λ (b : ℕ). p b && q b) bs)
unfolding word_of marks_of
marks_both p q [] = refl
marks_both p q (b ∷ bs) =
    or_block 8 (word_of (marks_of p bs)) (word_of (marks_of q bs)) (mark (p b)) (mark (q b)) (small (p b)) (small (q b))
    ∙ ap₂ (λ (w m : ℕ). w * 256 + m) (marks_both p q bs) (both (p b) (q b))
  where
    small : (t : Bool) → mark t < 256
    small true = omega arith
    small false = omega arith

    both : (s t : Bool) → bit_or (mark s) (mark t) ≡ mark (s && t)
    both true true = refl
    both true false = refl
    both false true = refl
    both false false = refl

-- ---- the first mark

trailing_shift : (j k a : ℕ) → count_trailing_zeros (j + k) (a * 2 ^ j) ≡ j + count_trailing_zeros k a
unfolding count_trailing_zeros
trailing_shift zero k a =
    rw (mul-one a) (ap (λ (m : ℕ). count_trailing_zeros m a) (zero-add k) ∙ sym (zero-add (count_trailing_zeros k a)))
trailing_shift (suc j) k a =
    ap (λ (m : ℕ). count_trailing_zeros m (a * 2 ^ suc j)) (suc-add j k)
    ∙ ap₂ (λ (d r : ℕ). under d (count_trailing_zeros (j + k) r)) (shifted_even a j) (shifted_half a j)
    ∙ ap suc (trailing_shift j k a) ∙ sym (suc-add j (count_trailing_zeros k a))

trailing_none : (n w : ℕ) → count_trailing_zeros (suc n * 8) (w * 256 + 0) / 8 ≡ suc (count_trailing_zeros (n * 8) w / 8)
trailing_none n w =
    let k : suc n * 8 ≡ 8 + n * 8 = omega arith in
    let v : w * 256 + 0 ≡ w * 2 ^ 8 = omega arith in
    rw (k, v, trailing_shift 8 (n * 8) w) (omega arith)

trailing_here : (n w : ℕ) → count_trailing_zeros (suc n * 8) (w * 256 + 128) / 8 ≡ 0
unfolding count_trailing_zeros
trailing_here n w =
    let k : suc n * 8 ≡ 7 + suc (n * 8) = omega arith in
    let v : w * 256 + 128 ≡ (w * 2 + 1) * 2 ^ 7 = omega arith in
    let odd : (w * 2 + 1) % 2 ≡ 1 = omega arith in
    rw (k, v, trailing_shift 7 (suc (n * 8)) (w * 2 + 1), odd) refl

first_mark : (test : ℕ → Bool) (bs : List ℕ)
    → count_trailing_zeros (length bs * 8) (word_of (marks_of test bs)) / 8 ≡ run test bs
unfolding word_of marks_of run count_trailing_zeros
first_mark test [] = refl
first_mark test (b ∷ bs) = go (test b) (first_mark test bs)
  where
    go : (q : Bool) → count_trailing_zeros (length bs * 8) (word_of (marks_of test bs)) / 8 ≡ run test bs
        → count_trailing_zeros (suc (length bs) * 8) (word_of (marks_of test bs) * 256 + mark q) / 8
        ≡ (if q then suc (run test bs) else 0)
    go true ih = trailing_none (length bs) (word_of (marks_of test bs)) ∙ ap suc ih
    go false ih = trailing_here (length bs) (word_of (marks_of test bs))

-- ---- the functions

module _ (bs : List ℕ) (size : length bs ≡ 8) where
  eight : bs ≡ get_or bs 0 0 ∷ get_or bs 1 0 ∷ get_or bs 2 0 ∷ get_or bs 3 0 ∷ get_or bs 4 0 ∷ get_or bs 5 0 ∷ get_or bs 6 0 ∷ get_or bs 7 0 ∷ []
  eight = sym (take_all 8 bs (omega arith)) ∙ eight_bytes bs 0 (omega arith)

  word_is : from_le_bytes w64 bs ≡ word_of bs
  unfolding word_of
  word_is =
      let sum : from_le_bytes w64 bs ≡ word_of (get_or bs 0 0 ∷ get_or bs 1 0 ∷ get_or bs 2 0 ∷ get_or bs 3 0 ∷ get_or bs 4 0 ∷ get_or bs 5 0 ∷ get_or bs 6 0 ∷ get_or bs 7 0 ∷ []) = omega arith in
      sum ∙ ap word_of (sym eight)

  all_small : ((i : ℕ) → get_or bs i 0 < 256) → Small bs
  all_small h =
      let sum : Small (get_or bs 0 0 ∷ get_or bs 1 0 ∷ get_or bs 2 0 ∷ get_or bs 3 0 ∷ get_or bs 4 0 ∷ get_or bs 5 0 ∷ get_or bs 6 0 ∷ get_or bs 7 0 ∷ []) =
      Small.more (h 0) (Small.more (h 1) (Small.more (h 2) (Small.more (h 3) (Small.more (h 4) (Small.more (h 5) (Small.more (h 6) (Small.more (h 7) Small.none))))))) in
      subst Small (sym eight) sum

  pub marks_word : (c v w r : ℕ) → v ≡ from_le_bytes w64 bs → ((i : ℕ) → get_or bs i 0 < 256) → (w ≡ repeated 8 c) × (c < 256)
      → r ≡ bit_and (bit_xor v w) (repeated 8 127) + repeated 8 127
      → bit_and (18446744073709551615 - bit_or r (bit_xor v w)) 9259542123273814144
      ≡ word_of (marks_of (is_not c) bs)
  unfolding repeated
  marks_word c v w r p h q e =
      let full : repeated 8 255 ≡ 18446744073709551615 = refl in
      let tops : repeated 8 128 ≡ 9259542123273814144 = refl in
      rw (e, p, word_is, q.0, ← full, ← tops)
      (rw size at (marked_word c q.1 bs (all_small h)))

  marks_run : (test : ℕ → Bool) (m : ℕ) → m ≡ word_of (marks_of test bs)
      → count_trailing_zeros 64 m / 8 ≡ run test bs
  marks_run test m e = rw e (rw size at (first_mark test bs))

pub marks_four : (bs : List ℕ) (w x y z k l m n : ℕ) → k ≡ word_of (marks_of (is_not w) bs)
    → l ≡ word_of (marks_of (is_not x) bs) → m ≡ word_of (marks_of (is_not y) bs) → n ≡ word_of (marks_of (is_not z) bs)
    → bit_or (bit_or (bit_or k l) m) n ≡ word_of (marks_of (is_none_of w x y z) bs)
unfolding is_none_of
marks_four bs w x y z k l m n e f g h =
    let two : ℕ → Bool = λ (b : ℕ). is_not w b && is_not x b in
    let three : ℕ → Bool = λ (b : ℕ). two b && is_not y b in
    rw (e, f, g, h, marks_both (is_not w) (is_not x) bs, marks_both two (is_not y) bs, marks_both three (is_not z) bs)

-- a block of eight is passed up to its first mark; all of it where there is none
module _ (test : ℕ → Bool) (src : List ℕ) (at i m : ℕ) (p : Passing test src at i) (h : 8 ≤ length src - i)
    (e : m ≡ word_of (marks_of test (take 8 (drop i src)))) where
  pub passing_marks : (k : ℕ) → (k ≡ count_trailing_zeros 64 m / 8) × (k ≤ 8) → Passing test src at (i + k)
  passing_marks k q =
      let inside : i + 8 ≤ length src = omega arith in
      passing_part test src at i p k (omega (arith, q.1))
      (omega (arith, q.0, marks_run (take 8 (drop i src)) (length-take-le 8 (drop i src) (rw (length-drop i src) (omega arith))) test m e, run_take test (drop i src) 8))

  pub passing_unmarked : m ≡ 0 → Passing test src at (i + 8)
  unfolding count_trailing_zeros
  passing_unmarked z = passing_marks 8 (rw z, omega arith)
