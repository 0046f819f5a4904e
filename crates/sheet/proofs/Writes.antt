-- The writer of a sheet's value: it goes over the lines as the scan does, and stops before the last break. Assumes nothing.
use Rattle.std.specs.Prelude.{if◌then◌else◌}
use Prim.Native.Nat.{ℕ, ◌+◌, ◌-◌, ◌^◌, ◌<◌, ◌≤◌, min}
use mathlib.Core.Path.{◌≡◌, refl, sym, ap, ◌∙◌}
use mathlib.Core.Bool.{Bool, true, false, ◌&&◌}
use mathlib.Core.List.{List, [], ◌∷◌, ◌++◌, append-nil, append_assoc}
use native.Mathlib.Omega.{arith}
use lib.Dec.{ltb}
use lib.ListN.{length, take, drop, length-append, length-drop, drop_of_length-le}
use lib.Seq.{length-take-le, take-take, drop-drop}
use borrow.Author.Tests.{ltb-true, ltb-false}
use Rattle.byte.specs.Words.{◌is◌}
use Rattle.byte.specs.Laid.{laid}
use Rattle.byte.proofs.Laid.{laid_nil, laid_append, length_laid}
use Rattle.unit.specs.declared.Stop.{Stop}
use Rattle.sheet.specs.Bodies.{Indent, Text, Kept, Stray, lines, followed, body_text, unbroken}
use Rattle.sheet.specs.Code.{LineEnd, offset_of, is_stray, indent_of, left_of, sheet_of, Left}
use Rattle.sheet.proofs.Inside.{TextInside, body_inside, unbroken_length, SheetStands}
use Rattle.sheet.proofs.Lines.{total, total_lines, flat_lines}
use Rattle.sheet.proofs.Steps.{offset-length}
use Rattle.sheet.proofs.Turns.{line_size, body_turn, unindented_parts, flush_body}
use Rattle.sheet.proofs.Parts.{drop-take, take_lesser, take_some}

-- ---- what is left from a line on

unfoldable pub left_from : Indent → List ℕ → ℕ → List ℕ
left_from ind body i = left_of (body_text ind i (lines (drop i body)))

left_past : (ind : Indent) (body : List ℕ) (i : ℕ) → length body ≤ i → length (left_from ind body i) ≡ 0
unfolding left_from left_of body_text lines
left_past ind body i h = rw (drop_of_length-le body h)

followed_left : (t : Bool) (p : ℕ) (x : List ℕ) (u : Text) → 0 < length (left_of (followed (if t then Stray p else Kept x) u))
    → left_of (followed (if t then Stray p else Kept x) u) ≡ x ++ left_of u
unfolding followed left_of
followed_left true p x u h = absurd (omega arith)
followed_left false p x (Kept y) h = refl
followed_left false p x (Stray q) h = absurd (omega arith)

followed_kept : (t : Bool) (p : ℕ) (x : List ℕ) (u : Text) → 0 < length (left_of (followed (if t then Stray p else Kept x) u)) → t ≡ false
unfolding followed left_of
followed_kept true p x u h = absurd (omega arith)
followed_kept false p x u h = refl

module _ (ind : Indent) (body : List ℕ) (i : ℕ) (some : 0 < length (left_from ind body i)) where
  left_inside : i < length body
  left_inside = go (ltb i (length body)) refl
    where
      go : (t : Bool) → ltb i (length body) ≡ t → i < length body
      go true e = ltb-true i (length body) e
      go false e = absurd (omega (arith, left_past ind body i (ltb-false i (length body) e)))

  left_kept : (next : ℕ) → LineEnd body i next → is_stray ind (take (next - i) (drop i body)) ≡ false
  unfolding left_from
  left_kept next e =
      let row = take (next - i) (drop i body) in
      let turn : body_text ind i (lines (drop i body))
      ≡ followed (if is_stray ind row then Stray (i + offset_of ind row) else Kept (drop (offset_of ind row) row))
      (body_text ind next (lines (drop next body))) =
      body_turn body i next left_inside e ind ∙ rw (unindented_parts ind i row) in
      followed_kept (is_stray ind row) (i + offset_of ind row) (drop (offset_of ind row) row) _ (rw turn at some)

  module _ (next : ℕ) (e : LineEnd body i next) (off : ℕ) (o : off ≡ offset_of ind (take (next - i) (drop i body))) where
    left_off : i + off ≤ next
    left_off =
        omega (arith, o, offset-length ind (take (next - i) (drop i body)), line_size body i next left_inside e, e.on)

    left_turn : left_from ind body i ≡ take (next - (i + off)) (drop (i + off) body) ++ left_from ind body next
    unfolding left_from
    left_turn =
        let turn : body_text ind i (lines (drop i body))
        ≡ followed (if is_stray ind (take (next - i) (drop i body)) then Stray (i + off) else Kept (drop off (take (next - i) (drop i body))))
        (body_text ind next (lines (drop next body))) =
        body_turn body i next left_inside e ind ∙ rw (unindented_parts ind i (take (next - i) (drop i body)), ← o) in
        let n : next - i - off ≡ next - (i + off) = omega arith in
        let line : drop off (take (next - i) (drop i body)) ≡ take (next - (i + off)) (drop (i + off) body) =
        drop-take off (next - i) (drop i body) ∙ rw (drop-drop off i body, n) in
        ap left_of turn
        ∙ followed_left (is_stray ind (take (next - i) (drop i body))) (i + off) (drop off (take (next - i) (drop i body))) _
        (rw turn at some)
        ∙ rw line

-- a text without its last break is its beginning
unbroken_start : (xs : List ℕ) → take (length (unbroken xs)) xs ≡ unbroken xs
unfolding unbroken
unbroken_start [] = refl
unbroken_start (b ∷ []) = go (b is "\n")
  where
    go : (t : Bool) → take (length (if t then [] else b ∷ [])) (b ∷ []) ≡ (if t then [] else b ∷ [])
    go true = refl
    go false = refl
unbroken_start (b ∷ c ∷ []) = go (b is "\r" && c is "\n") (c is "\n")
  where
    go : (t u : Bool)
        → take (length (if t then [] else b ∷ (if u then [] else c ∷ []))) (b ∷ c ∷ [])
        ≡ (if t then [] else b ∷ (if u then [] else c ∷ []))
    go true u = refl
    go false true = refl
    go false false = refl
unbroken_start (b ∷ c ∷ d ∷ rest) = ap (λ (r : List ℕ). b ∷ r) (unbroken_start (c ∷ d ∷ rest))

-- the value of a body without an indentation is its beginning
flush_sheet : (ind : Indent) → ind.width ≡ 0 → (n : ℕ) (body : List ℕ)
    → sheet_of ind n body ≡ take (length (sheet_of ind n body)) body
unfolding sheet_of left_of
flush_sheet ind z n body = rw (flush_body ind z n (lines body), flat_lines body) (sym (unbroken_start body))

pub sheet_copied : (size n hi : ℕ) (xs value : List ℕ) (stop : Stop) (from after : ℕ)
    (x : SheetStands size n hi xs value stop from after) → x.amount ≡ 0 → value ≡ take (length value) xs
sheet_copied size n hi xs value stop from after x z =
    let k = from - x.amount - n in
    let same : value ≡ take (length value) (take k xs) =
    rw (← x.same) at (flush_sheet (indent_of x.ind x.amount) z n (take k xs)) in
    same ∙ take-take (length value) k xs (omega (arith, x.narrow))

-- no more than there was
inside_left : (n hi : ℕ) (t : Text) → n ≤ hi → TextInside n hi t → n + length (left_of t) ≤ hi
unfolding left_of
inside_left n hi (Kept text) h i = i
inside_left n hi (Stray p) h i = omega arith

left_length : (ind : Indent) (n : ℕ) (xs : List ℕ) → length (left_of (body_text ind n (lines xs))) ≤ length xs
left_length ind n xs =
    omega (
      arith,
      inside_left n (n + total (lines xs)) (body_text ind n (lines xs)) (omega arith) (body_inside ind n (lines xs)),
      total_lines xs,
    )

-- the loop of `write_body`: j bytes are written, of the lines before i
pub record Putting (ind : Indent) (body : List ℕ) (at len : ℕ) (old dst : List ℕ) (i j : ℕ) : Type 0 where
  pub inside : j ≤ len
  pub small : len ≤ 65536
  pub size : length dst ≡ length old
  pub done : List ℕ
  pub count : length done ≡ j
  pub all : take len (left_from ind body at) ≡ done ++ take (len - j) (left_from ind body i)
  pub written : dst ≡ laid old 0 done

module _ (blank width : ℕ) (body : List ℕ) (at len : ℕ) (old : List ℕ)
    (p : Left (record { blank = blank; width = width }) body at len (length old)) where
  abbrev ind : Indent
  ind = record { blank = blank; width = width }

  some_left : len ≤ length (left_from ind body at)
  unfolding left_from sheet_of
  some_left = omega (arith, p.size, unbroken_length (left_from ind body at))

  length_all : length (take len (left_from ind body at)) ≡ len
  length_all = length-take-le len (left_from ind body at) some_left

  len_small : len ≤ 65536
  unfolding left_from
  len_small = omega (arith, some_left, p.start, p.short, left_length ind at (drop at body), length-drop at body)

  pub putting_first : Putting (record { blank = blank; width = width }) body at len old old at 0
  putting_first =
      let z : len ≡ len - 0 = omega arith in
      record {
        inside = omega arith;
        small = len_small;
        size = refl;
        done = [];
        count = refl;
        all = ap (λ (k : ℕ). take k (left_from ind body at)) z;
        written = sym (laid_nil old 0);
      }

  module _ (dst : List ℕ) (i j : ℕ) (q : Putting (record { blank = blank; width = width }) body at len old dst i j) where
    pub putting_end : len ≤ j → dst ≡ laid old 0 (sheet_of (record { blank = blank; width = width }) at (drop at body))
    unfolding left_from sheet_of
    putting_end h =
        let z : len - j ≡ 0 = omega arith in
        let d : take len (left_from ind body at) ≡ q.done = q.all ∙ rw z (append-nil q.done) in
        q.written ∙ ap (laid old 0) (sym d ∙ rw p.size (unbroken_start (left_from ind body at)))

    pub putting_size : length dst ≡ length old
    putting_size = q.size

    module _ (h : j < len) where
      some : 0 < length (left_from ind body i)
      some =
          take_some (len - j) (left_from ind body i)
          (omega (arith, ap length q.all, length_all, length-append q.done (take (len - j) (left_from ind body i)), q.count))

      pub putting_here : i < length body
      putting_here = left_inside ind body i some

      pub putting_kept : (next : ℕ) → LineEnd body i next
          → is_stray (record { blank = blank; width = width }) (take (next - i) (drop i body)) ≡ false
      putting_kept next e = left_kept ind body i some next e

      module _ (next : ℕ) (e : LineEnd body i next) (off : ℕ)
          (o : off ≡ offset_of (record { blank = blank; width = width }) (take (next - i) (drop i body))) where
        pub putting_off : i + off ≤ next
        putting_off = left_off ind body i some next e off o

        pub putting_place : i + off < 2 ^ 64
        putting_place = omega (arith, putting_off, e.inside, p.short)

        pub putting_less : length body - next < length body - i
        putting_less = omega (arith, e.on, e.inside)

        module _ (c : ℕ) (l : c ≡ min (next - (i + off)) (len - j)) where
          pub putting_stop : i + off + c ≤ length body
          putting_stop = omega (arith, putting_off, e.inside)

          pub putting_sum : i + off + c < 2 ^ 64
          putting_sum = omega (arith, putting_stop, p.short)

          pub putting_count : j + c < 2 ^ 64
          putting_count = omega (arith, q.small)

          length_part : length (take (i + off + c - (i + off)) (drop (i + off) body)) ≡ c
          length_part =
              length-take-le (i + off + c - (i + off)) (drop (i + off) body)
              (omega (arith, length-drop (i + off) body, putting_stop)) ∙ omega arith

          pub putting_room : j + length (take (i + off + c - (i + off)) (drop (i + off) body)) ≤ length dst
          putting_room = omega (arith, length_part, p.fits, q.size)

          pub putting_on : (after : List ℕ) → after ≡ laid dst j (take (i + off + c - (i + off)) (drop (i + off) body))
              → Putting (record { blank = blank; width = width }) body at len old after next (j + c)
          putting_on after f =
              let part = take (i + off + c - (i + off)) (drop (i + off) body) in
              let x = take (next - (i + off)) (drop (i + off) body) in
              let xs : length x ≡ next - (i + off) =
              length-take-le (next - (i + off)) (drop (i + off) body) (omega (arith, length-drop (i + off) body, e.inside)) in
              let same : i + off + c - (i + off) ≡ c = omega arith in
              let cut : take c x ≡ part =
              take-take c (next - (i + off)) (drop (i + off) body) (omega arith) ∙ rw same in
              let rest : len - j - c ≡ len - (j + c) = omega arith in
              let split : take (len - j) (x ++ left_from ind body next) ≡ take c x ++ take (len - j - c) (left_from ind body next) =
              take_lesser (len - j) c x (left_from ind body next) (rw xs l) in
              let now : take len (left_from ind body at) ≡ (q.done ++ part) ++ take (len - (j + c)) (left_from ind body next) =
              q.all
              ∙ ap (λ (r : List ℕ). q.done ++ take (len - j) r) (left_turn ind body i some next e off o)
              ∙ ap (◌++◌ q.done) (split ∙ rw (cut, rest))
              ∙ sym (append_assoc q.done part (take (len - (j + c)) (left_from ind body next))) in
              let two : length (q.done ++ part) ≡ j + c = length-append q.done part ∙ omega (arith, q.count, length_part) in
              let w : after ≡ laid old 0 (q.done ++ part) =
              f
              ∙ ap (λ (d : List ℕ). laid d j part) q.written
              ∙ laid_append old 0 j q.done part (omega (arith, q.count))
              (omega (arith, q.count, length_part, p.fits)) in
              record {
                inside = omega (arith);
                small = q.small;
                size = ap length w ∙ length_laid old 0 (q.done ++ part) (omega (arith, two, p.fits));
                done = q.done ++ part;
                count = two;
                all = now;
                written = w;
              }

pub ruleset putting = (putting_first, putting_end, putting_size, putting_here, putting_kept, putting_off, putting_place, putting_less, putting_stop, putting_sum, putting_count, putting_room, putting_on)
