-- The loops over lines: the one that finds the closing line, and the one that measures the body. Each turn takes the first line
-- off what is left, as the definitions do. Assumes nothing.
use Rattle.std.specs.Prelude.{if◌then◌else◌}
use Prim.Native.Nat.{ℕ, suc, ◌+◌, ◌-◌, ◌^◌, ◌<◌, ◌≤◌, min}
use mathlib.Core.Path.{◌≡◌, refl, sym, ap, ◌∙◌}
use mathlib.Core.Bool.{Bool, true, false, not}
use mathlib.Core.List.{List, [], ◌∷◌}
use native.Mathlib.Omega.{arith}
use lib.Dec.{eqb, leb}
use lib.ListN.{length, take, drop, length-drop, length-append, drop_of_length-le}
use lib.Seq.{drop-drop, length-take-le}
use borrow.Author.Tests.{leb-true, leb-false, le-leb}
use Rattle.byte.specs.Words.{◌is◌, run}
use Rattle.unit.specs.declared.Indentation.{Indentation}
use Rattle.sheet.specs.declared.Found.{Found}
use Rattle.sheet.specs.declared.Line.{Line}
use Rattle.std.specs.Prelude.{Result, Ok, Err}
use Rattle.sheet.specs.Bodies.{Indent, Text, Kept, Stray, in_front, lines, is_over, unindented, followed, body_text}
use Rattle.sheet.specs.Sheets.{line_kind, Block, Closed, Missing, Open, with_line, told, block}
use Rattle.sheet.specs.Code.{line_length, LineEnd, found, offset_of, is_stray, size_of}
use Rattle.sheet.proofs.Lines.{flat, flat_lines}
use Rattle.sheet.proofs.Inside.{LineCloses, line_inside}
use Rattle.sheet.proofs.Steps.{offset-length}

-- the lines of a text are its first line and the lines after it
first_line : (b : ℕ) (rest : List ℕ)
    → lines (b ∷ rest) ≡ take (line_length (b ∷ rest)) (b ∷ rest) ∷ lines (drop (line_length (b ∷ rest)) (b ∷ rest))
unfolding lines line_length in_front
first_line b [] = go (b is "\n")
  where
    go : (t : Bool)
        → (if t then (b ∷ []) ∷ [] else (b ∷ []) ∷ [])
        ≡ take (if t then 1 else 1) (b ∷ []) ∷ lines (drop (if t then 1 else 1) (b ∷ []))
    go true = refl
    go false = refl
first_line b (c ∷ rest) = go (b is "\n") (first_line c rest)
  where
    go : (t : Bool) → lines (c ∷ rest) ≡ take (line_length (c ∷ rest)) (c ∷ rest) ∷ lines (drop (line_length (c ∷ rest)) (c ∷ rest))
        → (if t then (b ∷ []) ∷ lines (c ∷ rest) else in_front b (lines (c ∷ rest)))
        ≡ take (if t then 1 else suc (line_length (c ∷ rest))) (b ∷ c ∷ rest)
        ∷ lines (drop (if t then 1 else suc (line_length (c ∷ rest))) (b ∷ c ∷ rest))
    go true e = refl
    go false e = ap (in_front b) e

first_line_of : (xs : List ℕ) → 0 < length xs → lines xs ≡ take (line_length xs) xs ∷ lines (drop (line_length xs) xs)
first_line_of [] h = absurd (omega arith)
first_line_of (b ∷ rest) h = first_line b rest

-- the line at i of a source
module _ (src : List ℕ) (i next : ℕ) (h : i < length src) (e : LineEnd src i next) where
  pub line_size : length (take (next - i) (drop i src)) ≡ next - i
  line_size = length-take-le (next - i) (drop i src) (omega (arith, length-drop i src, e.inside))

  pub line_turn : lines (drop i src) ≡ take (next - i) (drop i src) ∷ lines (drop next src)
  line_turn =
      let n : line_length (drop i src) ≡ next - i = omega (arith, e.place) in
      let m : i + (next - i) ≡ next = omega (arith, e.on) in
      first_line_of (drop i src) (omega (arith, length-drop i src)) ∙ rw (n, drop-drop (next - i) i src, m)

  pub body_turn : (ind : Indent)
      → body_text ind i (lines (drop i src))
      ≡ followed (unindented ind i (take (next - i) (drop i src))) (body_text ind next (lines (drop next src)))
  unfolding body_text
  body_turn ind =
      let m : i + (next - i) ≡ next = omega (arith, e.on) in
      rw (line_turn, line_size, m)

-- ---- the closing line

found_with_line : (line : List ℕ) (b : Block) → found (with_line line b) ≡ found b
unfolding found with_line
found_with_line line (Closed body ind amount place) = refl
found_with_line line (Missing place) = refl
found_with_line line Open = refl

-- no line before i closes the block
pub record Finding (label src : List ℕ) (at : ℕ) (end : Bool) (i : ℕ) : Type 0 where
  pub inside : i ≤ length src
  pub same : found (block label end at (lines (drop at src))) ≡ found (block label end i (lines (drop i src)))

module _ (label src : List ℕ) (at : ℕ) (end : Bool) where
  pub finding_first : at ≤ length src → Finding label src at end at
  finding_first h = record { inside = h; same = refl }

  module _ (i : ℕ) (p : Finding label src at end i) where
    pub finding_missing : length src ≤ i → end ≡ true → Found.Missing ≡ found (block label end at (lines (drop at src)))
    unfolding found block lines
    finding_missing h t = sym (p.same ∙ rw (drop_of_length-le src h, t))

    pub finding_wait : length src ≤ i → end ≡ false → Found.Open ≡ found (block label end at (lines (drop at src)))
    unfolding found block lines
    finding_wait h t = sym (p.same ∙ rw (drop_of_length-le src h, t))

    module _ (h : i < length src) (next : ℕ) (e : LineEnd src i next) (kind : Line)
        (k : kind ≡ line_kind label end Indentation.None 0 (take (next - i) (drop i src))) where
      pub finding_size : length (take (next - i) (drop i src)) ≤ length src
      finding_size = rw (line_size src i next h e) (omega (arith, e.inside))

      turn : block label end i (lines (drop i src)) ≡ told kind i (take (next - i) (drop i src)) (block label end next (lines (drop next src)))
      unfolding block
      turn =
          let m : i + (next - i) ≡ next = omega (arith, e.on) in
          rw (line_turn src i next h e, ← k, line_size src i next h e, m)

      pub finding_closes : (ind : Indentation) (amount : ℕ) → kind ≡ Line.Closes ind amount
          → Found.Closed ind amount (i + amount) ≡ found (block label end at (lines (drop at src)))
      unfolding told found
      finding_closes ind amount c = sym (p.same ∙ ap found turn ∙ rw c)

      pub finding_place : (ind : Indentation) (amount : ℕ) → length src ≤ 65536 → kind ≡ Line.Closes ind amount → i + amount < 2 ^ 64
      finding_place ind amount short c =
          let l : LineCloses (length label) (length (take (next - i) (drop i src))) ind amount =
          rw (← k, c) at (line_inside label end (take (next - i) (drop i src))) in
          omega (arith, l.inside, line_size src i next h e, e.inside, e.on)

      pub finding_open : kind ≡ Line.Undecided → Found.Open ≡ found (block label end at (lines (drop at src)))
      unfolding told found
      finding_open c = sym (p.same ∙ ap found turn ∙ rw c)

      pub finding_on : kind ≡ Line.Body → Finding label src at end next
      unfolding told
      finding_on c = record { inside = e.inside; same = p.same ∙ ap found turn ∙ rw c (found_with_line _ _) }

      pub finding_less : length src - next < length src - i
      finding_less = omega (arith, e.on, e.inside)

pub ruleset finding = (finding_first, finding_missing, finding_wait, finding_size, finding_closes, finding_place, finding_open, finding_on, finding_less)

-- ---- the body

pub unindented_parts : (ind : Indent) (n : ℕ) (line : List ℕ)
    → unindented ind n line
    ≡ (if is_stray ind line then Stray (n + offset_of ind line) else Kept (drop (offset_of ind line) line))
unfolding unindented is_stray offset_of
unindented_parts ind n line = go (leb ind.width (run (eqb ind.blank) line)) refl
  where
    blanks : ℕ
    blanks = run (eqb ind.blank) line

    over : (o : Bool) → (if o then Kept (drop blanks line) else Stray (n + blanks))
        ≡ (if not o then Stray (n + blanks) else Kept (drop blanks line))
    over true = refl
    over false = refl

    go : (t : Bool) → leb ind.width blanks ≡ t
        → (if leb ind.width blanks then Kept (drop ind.width line)
        else if is_over (drop blanks line) then Kept (drop blanks line) else Stray (n + blanks))
        ≡ (if (if leb ind.width (min ind.width blanks) then false else not (is_over (drop (min ind.width blanks) line)))
        then Stray (n + min ind.width blanks) else Kept (drop (min ind.width blanks) line))
    go true e =
        let z : min ind.width blanks ≡ ind.width = omega (arith, leb-true ind.width blanks e) in
        rw (e, z, le-leb ind.width ind.width (omega arith))
    go false e =
        let z : min ind.width blanks ≡ blanks = omega (arith, leb-false ind.width blanks e) in
        rw (z, e) (over (is_over (drop blanks line)))

-- without an indentation all is left
pub flush_body : (ind : Indent) → ind.width ≡ 0 → (n : ℕ) (ls : List (List ℕ)) → body_text ind n ls ≡ Kept (flat ls)
unfolding body_text followed unindented flat
flush_body ind z n [] = refl
flush_body ind z n (line ∷ more) =
    rw (flush_body ind z (n + length line) more, z, le-leb 0 (run (eqb ind.blank) line) (omega arith))

-- so many bytes more
unfoldable pub plus : ℕ → Result ℕ ℕ → Result ℕ ℕ
plus len (Ok k) = Ok (len + k)
plus len (Err p) = Err p

plus_zero : (s : Result ℕ ℕ) → s ≡ plus 0 s
unfolding plus
plus_zero (Ok k) = ap Ok (omega arith)
plus_zero (Err p) = refl

plus_followed : (len : ℕ) (x : List ℕ) (t : Text) → plus len (size_of (followed (Kept x) t)) ≡ plus (len + length x) (size_of t)
unfolding plus size_of followed
plus_followed len x (Kept y) = ap Ok (omega (arith, length-append x y))
plus_followed len x (Stray p) = refl

-- len bytes are left of the lines before i
pub record Stripping (ind : Indent) (body : List ℕ) (at i len : ℕ) : Type 0 where
  pub inside : i ≤ length body
  pub small : len ≤ i
  pub same : size_of (body_text ind at (lines (drop at body))) ≡ plus len (size_of (body_text ind i (lines (drop i body))))

module _ (ind : Indent) (body : List ℕ) (at : ℕ) where
  pub stripping_flush : ind.width ≡ 0
      → Ok (length body - at) ≡ size_of (body_text ind at (lines (drop at body)))
  unfolding size_of
  stripping_flush e = rw (flush_body ind e at (lines (drop at body)), flat_lines (drop at body), length-drop at body)

  pub stripping_first : at ≤ length body → Stripping ind body at at 0
  stripping_first h = record { inside = h; small = omega arith; same = plus_zero _ }

  module _ (i len : ℕ) (p : Stripping ind body at i len) where
    pub stripping_end : length body ≤ i → Ok len ≡ size_of (body_text ind at (lines (drop at body)))
    unfolding lines body_text size_of plus
    stripping_end h = sym (p.same ∙ rw (drop_of_length-le body h) (ap Ok (omega arith)))

    module _ (h : i < length body) (next : ℕ) (e : LineEnd body i next) (off : ℕ)
        (o : off ≡ offset_of ind (take (next - i) (drop i body))) where
      pub stripping_off : i + off ≤ next
      stripping_off = omega (arith, o, offset-length ind (take (next - i) (drop i body)), line_size body i next h e, e.on)

      pub stripping_place : length body ≤ 65536 → i + off < 2 ^ 64
      stripping_place short = omega (arith, stripping_off, e.inside)

      module _ (flag : Bool) (f : flag ≡ is_stray ind (take (next - i) (drop i body))) where
        pub stripping_stray : flag ≡ true → Err (i + off) ≡ size_of (body_text ind at (lines (drop at body)))
        unfolding followed size_of plus
        stripping_stray t =
            sym (p.same ∙ rw (body_turn body i next h e ind, unindented_parts ind i (take (next - i) (drop i body)), ← f, t, ← o))

        pub stripping_on : flag ≡ false → Stripping ind body at next (len + (next - (i + off)))
        stripping_on t =
            let size : length (drop off (take (next - i) (drop i body))) ≡ next - (i + off) =
            length-drop off (take (next - i) (drop i body)) ∙ rw (line_size body i next h e) (omega arith) in
            record {
              inside = e.inside;
              small = omega (arith, p.small, stripping_off);
              same =
                  p.same
                  ∙ rw (body_turn body i next h e ind, unindented_parts ind i (take (next - i) (drop i body)), ← f, t, ← o)
                  (plus_followed len (drop off (take (next - i) (drop i body))) (body_text ind next (lines (drop next body))) ∙ rw size);
            }

      pub stripping_less : length body - next < length body - i
      stripping_less = omega (arith, e.on, e.inside)

pub ruleset stripping = (stripping_flush, stripping_first, stripping_end, stripping_off, stripping_place, stripping_stray, stripping_on, stripping_less)
