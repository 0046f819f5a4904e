-- From the sheet reading back to the ported nowdoc reading:
--   sheet_nowdoc   where the sheet reading closes without an indentation, not on the first line, after an LF alone,
--                  and no line between begins with blanks and the label, the ported one gives the same
-- Byte by byte, as `nowdoc_sheet` (Nowdocs), which gives the value. Assumes nothing.
use Rattle.std.specs.Prelude.{if◌then◌else◌}
use Prim.Native.Nat.{ℕ, zero, suc, ◌+◌, ◌-◌, ◌<◌, ◌≤◌}
use Prim.Native.Char.{code}
use mathlib.Core.Path.{◌≡◌, refl, sym, ◌∙◌}
use mathlib.Core.Bool.{Bool, true, false, ◌&&◌}
use mathlib.Core.List.{List, [], ◌∷◌}
use native.Mathlib.Omega.{arith}
use lib.ListN.{length, take, drop, get_or}
use lib.Seq.{length-take-le, get_or-take}
use borrow.Author.Tests.{eqb-true}
use Rattle.byte.specs.Words.{◌is◌, run}
use Rattle.byte.specs.Bytes.{is_blank}
use Rattle.byte.proofs.Tests.{&&-left, &&-right}
use Rattle.unit.specs.declared.Indentation.{Indentation}
use Rattle.unit.specs.declared.Mode.{Mode}
use Rattle.unit.specs.declared.Stop.{Stop}
use Rattle.unit.specs.declared.TextUnit.{TextUnit}
use Rattle.unit.specs.Closers.{closer, line}
use Rattle.unit.specs.Interpolations.{plain}
use Rattle.unit.specs.Labels.{Label}
use Rattle.unit.specs.Readings.{Reading, onto, taken, collected, text_at}
use Rattle.unit.specs.Units.{unit_at}
use Rattle.unit.proofs.Stays.{clash}
use Rattle.text.proofs.Runs.{collected_byte}
use Rattle.sheet.specs.declared.Line.{Line}
use Rattle.sheet.specs.Bodies.{Text, in_front, lines}
use Rattle.sheet.specs.Sheets.{Block, with_line, told, block, filled, stripped, answered, sheet_at}
use Rattle.sheet.specs.Code.{indentation}
use Rattle.sheet.specs.Manual.{blanks_of, is_prefix, ends_name, closes_at}
use Rattle.sheet.proofs.Inside.{sheet_stands}
use Rattle.sheet.proofs.ManualLines.{blanks_length, closes_text}
use Rattle.sheet.proofs.Nowdocs.{bare, starts_label, line_starts, kind_at, kind_first, Starts, read}
use Rattle.sheet.proofs.Nowdocs.{finished_nowdoc, nowdoc_sheet}

-- a block that closes without an indentation
record BareBlock (b : Block) (from : ℕ) : Type 0 where
  body : List (List ℕ)
  same : b ≡ Block.Closed body Indentation.None 0 from

with_line_bare : (first : List ℕ) (b : Block) (from : ℕ) → BareBlock (with_line first b) from → BareBlock b from
unfolding with_line
with_line_bare first (Block.Closed body ind amount place) from x =
    let e = x.same in
    let i : ind ≡ Indentation.None = cc in
    let a : amount ≡ 0 = cc in
    let p : place ≡ from = cc in
    record { body = body; same = rw (i, a, p) }
with_line_bare first (Block.Missing place) from x = let e = x.same in clash cc
with_line_bare first Block.Open from x = let e = x.same in clash cc

-- a line that closes without an indentation begins with the label
module _ (label : List ℕ) (h : Label label) where
  kind_starts : (xs : List ℕ) → kind_at label h xs ≡ Line.Closes Indentation.None 0 → Starts label h xs
  unfolding closes_at
  kind_starts xs e = go (closes_at label xs) refl (sym (closes_text label xs) ∙ e)
    where
      ends : Bool
      ends = ends_name (drop (length label) xs)

      go : (t : Bool) → closes_at label xs ≡ t
          → (if t then Line.Closes (indentation Indentation.None (blanks_of xs)) (length (blanks_of xs)) else Line.Body)
          ≡ Line.Closes Indentation.None 0
          → Starts label h xs
      go true q z =
          let none : length (blanks_of xs) ≡ 0 = cc in
          let r : run is_blank xs ≡ 0 = sym (blanks_length xs) ∙ none in
          let both : (is_prefix label xs && ends) ≡ true = rw r at q in
          record {
            blanks = r;
            label_there = &&-left (is_prefix label xs) ends both;
            ends = &&-right (is_prefix label xs) ends both;
          }
      go false q z = clash cc

  -- so does its reading in the ported words
  starts_unit : (n : ℕ) (xs : List ℕ) → Starts label h xs
      → line label true n Indentation.None 0 xs
      ≡ TextUnit.Ends (Stop.Label Indentation.None 0) (suc n) (suc n + length label)
  unfolding closer indentation
  starts_unit n xs s =
      let z : suc n + (0 + 0) ≡ suc n = omega arith in
      line_starts label n Indentation.None 0 xs ∙ rw (s.blanks, s.label_there, z)

  -- what a block is after its first line
  unfoldable after_first : ℕ → List (List ℕ) → Block
  after_first n [] = Block.Open
  after_first n (first ∷ later) = block label true (n + length first) later

  after_first_on : (b n : ℕ) (ls : List (List ℕ)) (from : ℕ) → BareBlock (after_first n (in_front b ls)) from
      → BareBlock (after_first (suc n) ls) from
  unfolding after_first in_front block
  after_first_on b n [] from x = let e = x.same in clash cc
  after_first_on b n (first ∷ later) from x =
      let z : suc n + length first ≡ n + suc (length first) = omega arith in
      rw z x

  -- the ported reading, up to this label
  record Back (n : ℕ) (xs : List ℕ) (from : ℕ) : Type 0 where
    on : n < from
    same : read label h n xs ≡ bare (take (from - suc n) xs) from (from + length label)
    ends : ends_name (drop (from + length label - n) xs) ≡ true

  back_byte : (n b : ℕ) (rest : List ℕ) (from : ℕ) → unit_at Mode.Nowdoc label true n b rest ≡ plain b n
      → Back (suc n) rest from → Back n (b ∷ rest) from
  unfolding onto
  back_byte n b rest from u x =
      let y : from - suc n ≡ suc (from - suc (suc n)) = omega (arith, x.on) in
      let z : from + length label - n ≡ suc (from + length label - suc n) = omega (arith, x.on) in
      record {
        on = omega (arith, x.on);
        same = collected_byte Mode.Nowdoc label true n b rest u ∙ rw (x.same, y);
        ends = rw z x.ends;
      }

  back_close : (n b : ℕ) (rest : List ℕ) → (b is "\n") ≡ true → Starts label h rest → Back n (b ∷ rest) (suc n)
  unfolding collected unit_at taken
  back_close n b rest q s =
      let y : suc n - suc n ≡ 0 = omega arith in
      let z : suc n + length label - n ≡ suc (length label) = omega arith in
      record {
        on = omega arith;
        same = rw (q, starts_unit n rest s, y);
        ends = rw z s.ends;
      }

  -- no line before this label begins with blanks and the label
  abbrev Unlabelled : ℕ → List ℕ → ℕ → Type 0
  Unlabelled n xs from =
      (k : ℕ) → n + suc k < from → (get_or xs k 0 is "\n") ≡ true → starts_label label (drop (suc k) xs) ≡ false

  module _ (n b : ℕ) (rest : List ℕ) (from : ℕ) (quiet : Unlabelled n (b ∷ rest) from)
      (later : BareBlock (after_first (suc n) (lines rest)) from → Back (suc n) rest from) where
    back_break : (b is "\n") ≡ true → (first : List ℕ) (more : List (List ℕ)) → lines rest ≡ first ∷ more → (k : Line)
        → kind_at label h rest ≡ k → BareBlock (told k (n + 1) first (block label true (n + 1 + length first) more)) from
        → Back n (b ∷ rest) from
    unfolding told after_first unit_at
    back_break q first more s (Line.Closes ind amount) k x =
        let e = x.same in
        let i : ind ≡ Indentation.None = cc in
        let a : amount ≡ 0 = cc in
        let f : n + 1 + amount ≡ from = cc in
        let g : suc n ≡ from = omega arith in
        rw g at (back_close n b rest q (kind_starts rest (k ∙ rw (i, a))))
    back_break q first more s Line.Body k x =
        let p : suc n + length first ≡ n + 1 + length first = omega arith in
        let y = later (rw (s, p) (with_line_bare first _ from x)) in
        let b' : b ≡ code "\n" = eqb-true b (code "\n") q in
        let t = rw (quiet 0 (omega (arith, y.on)) q) at (line_starts label n Indentation.None 0 rest) in
        back_byte n b rest from (rw (q, t, b')) y
    back_break q first more s Line.Undecided k x = let e = x.same in clash cc

    back_lines : (b is "\n") ≡ true → (ls : List (List ℕ)) → lines rest ≡ ls
        → BareBlock (block label true (n + 1) ls) from → Back n (b ∷ rest) from
    unfolding block
    back_lines q [] s x = let e = x.same in clash cc
    back_lines q (first ∷ more) s x =
        back_break q first more s (kind_at label h rest) refl (rw (kind_first label h rest first more s) at x)

    back_on : (t : Bool) → (b is "\n") ≡ t → BareBlock (after_first n (lines (b ∷ rest))) from → Back n (b ∷ rest) from
    unfolding lines after_first unit_at
    back_on true q x = back_lines q (lines rest) refl (rw q at x)
    back_on false q x = back_byte n b rest from (rw q) (later (after_first_on b n (lines rest) from (rw q at x)))

  back : (n : ℕ) (xs : List ℕ) (from : ℕ) → BareBlock (after_first n (lines xs)) from → Unlabelled n xs from
      → Back n xs from
  unfolding lines after_first
  back n [] from x quiet = let e = x.same in clash cc
  back n (b ∷ rest) from x quiet =
      back_on n b rest from quiet (λ y. back (suc n) rest from y (λ k l. quiet (suc k) (omega arith)))
      (b is "\n") refl x

-- ---- a sheet that closes without an indentation

filled_bare : (t : Text) (ind : Indentation) (amount place end : ℕ) (value : List ℕ) (from after : ℕ)
    → filled t ind amount place end ≡ bare value from after
    → (Stop.Label ind amount ≡ Stop.Label Indentation.None 0) × (place ≡ from)
unfolding filled
filled_bare (Text.Kept text) ind amount place end value from after e = (cc, cc)
filled_bare (Text.Stray p) ind amount place end value from after e = clash cc

answered_bare : (size n : ℕ) (b : Block) (value : List ℕ) (from after : ℕ) → answered size n b ≡ bare value from after
    → BareBlock b from
unfolding answered stripped
answered_bare size n (Block.Closed body Indentation.None amount place) value from after e =
    let (l, p) = filled_bare _ Indentation.None amount place (place + size) value from after e in
    let a : amount ≡ 0 = cc in
    record { body = body; same = rw (a, p) }
answered_bare size n (Block.Closed body Indentation.Space amount place) value from after e =
    let (l, p) = filled_bare _ Indentation.Space amount place (place + size) value from after e in
    clash cc
answered_bare size n (Block.Closed body Indentation.Tab amount place) value from after e =
    let (l, p) = filled_bare _ Indentation.Tab amount place (place + size) value from after e in
    clash cc
answered_bare size n (Block.Closed body Indentation.Mixed amount place) value from after e = clash cc
answered_bare size n (Block.Missing place) value from after e = clash cc
answered_bare size n Block.Open value from after e = clash cc

last-take : (m : ℕ) (xs : List ℕ) → m ≤ length xs → (get_or xs (m - 1) 0 is "\r") ≡ false
    → (get_or (take m xs) (length (take m xs) - 1) 0 is "\r") ≡ false
last-take zero xs h e = refl
last-take (suc m) xs h e =
    let z : suc m - 1 ≡ m = omega arith in
    rw (length-take-le (suc m) xs h, z, get_or-take (suc m) xs m 0 (omega arith)) (rw z at e)

module _ (label : List ℕ) (h : Label label) (n : ℕ) (xs : List ℕ) (from : ℕ) (on : n < from) where
  -- its first line does not close
  record Opens : Type 0 where
    later : BareBlock (after_first label h n (lines xs)) from
    opens : closes_at label xs ≡ false

  opens_at : (ls : List (List ℕ)) → lines xs ≡ ls → BareBlock (block label true n ls) from → Opens
  unfolding block told after_first
  opens_at [] s x = let e = x.same in clash cc
  opens_at (first ∷ later) s x =
      go (closes_at label xs) refl (rw (kind_first label h xs first later s ∙ closes_text label xs) at x)
    where
      kind : Bool → Line
      kind t =
          if t then Line.Closes (indentation Indentation.None (blanks_of xs)) (length (blanks_of xs)) else Line.Body

      go : (t : Bool) → closes_at label xs ≡ t
          → BareBlock (told (kind t) n first (block label true (n + length first) later)) from → Opens
      go true q y =
          let e = y.same in
          let a : length (blanks_of xs) ≡ 0 = cc in
          let p : n + length (blanks_of xs) ≡ from = cc in
          absurd (omega arith)
      go false q y = record { later = rw s (with_line_bare first _ from y); opens = q }

pub sheet_nowdoc : (label : List ℕ) → Label label → (n : ℕ) (xs value : List ℕ) (from after : ℕ)
    → sheet_at label true n xs ≡ Reading.Text value (Stop.Label Indentation.None 0) from after
    → n < from
    → (get_or xs (from - n - 2) 0 is "\r") ≡ false
    → ((k : ℕ) → n + suc k < from → (get_or xs k 0 is "\n") ≡ true → starts_label label (drop (suc k) xs) ≡ false)
    → text_at Mode.Nowdoc label true n xs ≡ Reading.Text value (Stop.Label Indentation.None 0) from after
unfolding sheet_at text_at
sheet_nowdoc label h n xs value from after e on return quiet =
    let x = opens_at label h n xs from on (lines xs) refl (answered_bare (length label) n _ value from after e) in
    let y = back label h n xs from x.later quiet in
    let stands = rw e at (sheet_stands label true n xs) in
    let m = from - suc n in
    let p : from - n - 2 ≡ m - 1 = omega arith in
    let inside : m ≤ length xs = omega (arith, stands.sized, stands.inside) in
    let t = finished_nowdoc (read label h n xs) ∙ y.same in
    let s = nowdoc_sheet label h n xs (take m xs) from (from + length label) t x.opens
    (last-take m xs inside (rw p at return)) y.ends in
    t ∙ sym s ∙ e
