-- The ported nowdoc reading and the sheet reading give one value and one end:
--   nowdoc_sheet   where the ported one closes without an indentation, no identifier byte stands after its label,
--                  its value does not end in a CR, and the first line does not close
-- Byte by byte: the ported reading from a place within a line, and the lines after that one. Assumes nothing.
use Rattle.std.specs.Prelude.{if◌then◌else◌}
use Prim.Native.Nat.{ℕ, suc, ◌+◌, ◌-◌, ◌<◌}
use Prim.Native.Char.{code}
use mathlib.Core.Path.{◌≡◌, refl, sym, ap, ◌∙◌}
use mathlib.Core.Bool.{Bool, true, false, ◌&&◌}
use mathlib.Core.List.{List, [], ◌∷◌, ◌++◌, append-nil}
use native.Mathlib.Omega.{arith}
use lib.Dec.{eqb}
use lib.ListN.{length, take, drop, get_or}
use borrow.Author.Tests.{eqb-true}
use Rattle.byte.specs.Words.{◌is◌, run}
use Rattle.byte.specs.Bytes.{is_blank}
use Rattle.byte.proofs.Tests.{choice}
use Rattle.unit.specs.declared.Indentation.{Indentation}
use Rattle.unit.specs.declared.Match.{Match}
use Rattle.unit.specs.declared.Mode.{Mode}
use Rattle.unit.specs.declared.Stop.{Stop}
use Rattle.unit.specs.declared.TextUnit.{TextUnit}
use Rattle.unit.specs.Closers.{matched, indented, closer, judged, line}
use Rattle.unit.specs.Interpolations.{plain}
use Rattle.unit.specs.Labels.{Label}
use Rattle.unit.specs.Readings.{Reading, onto, taken, collected, finished, loses_break, text_at}
use Rattle.unit.specs.Units.{unit_at}
use Rattle.unit.proofs.Stays.{clash}
use Rattle.text.proofs.Runs.{collected_byte}
use Rattle.sheet.specs.declared.Line.{Line}
use Rattle.sheet.specs.Bodies.{Text, in_front, lines, followed, body_text, unbroken}
use Rattle.sheet.specs.Sheets.{closing_label, judged_line, line_kind, Block, with_line, told, block}
use Rattle.sheet.specs.Sheets.{filled, stripped, answered, sheet_at}
use Rattle.sheet.specs.Code.{indentation, is_line}
use Rattle.sheet.specs.Manual.{blanks_of, is_prefix, ends_name, closes_at}
use Rattle.sheet.proofs.Lines.{Lined, last, broken, lines_lined, line-break, flat, flat_lines}
use Rattle.sheet.proofs.Closings.{line_kind_stays, line_kind_told}
use Rattle.sheet.proofs.ManualLines.{closes_text}
use Rattle.sheet.proofs.ManualBodies.{indent, unindented_none}

-- a text that its label ends, without an indentation
abbrev pub bare : List ℕ → ℕ → ℕ → Reading
bare value from after = Reading.Text value (Stop.Label Indentation.None 0) from after

-- ---- what stands after an LF, in both readings

-- blanks, and then the label
abbrev pub starts_label : List ℕ → List ℕ → Bool
starts_label label xs = is_prefix label (drop (run is_blank xs) xs)

-- a label of so many bytes after the LF at n and so many blanks
abbrev pub closer_at : ℕ → ℕ → Indentation → ℕ → TextUnit
closer_at size n ind amount = closer size ind amount (suc n + amount)

judged_prefix : (label xs : List ℕ) (n : ℕ) (u : TextUnit)
    → judged (matched label xs) true n u ≡ (if is_prefix label xs then u else plain (code "\n") n)
unfolding judged matched is_prefix
judged_prefix [] xs n u = refl
judged_prefix (a ∷ label) [] n u = refl
judged_prefix (a ∷ label) (b ∷ xs) n u = go (eqb a b) (judged_prefix label xs n u)
  where
    go : (t : Bool) → judged (matched label xs) true n u ≡ (if is_prefix label xs then u else plain (code "\n") n)
        → judged (if t then matched label xs else Match.Other) true n u
        ≡ (if t && is_prefix label xs then u else plain (code "\n") n)
    go true e = e
    go false e = refl

-- a label after its blanks closes; else the LF is text
pub line_starts : (label : List ℕ) (n : ℕ) (ind : Indentation) (amount : ℕ) (xs : List ℕ)
    → line label true n ind amount xs
    ≡ (if starts_label label xs
    then closer_at (length label) n (indentation ind (blanks_of xs)) (amount + run is_blank xs) else plain (code "\n") n)
unfolding line run indentation
line_starts label n ind amount [] =
    let z : amount + 0 ≡ amount = omega arith in
    rw z (judged_prefix label [] n _)
line_starts label n ind amount (b ∷ rest) =
    choice
    (λ k. line label true n ind amount (b ∷ rest)
    ≡ (if is_prefix label (drop k (b ∷ rest))
    then closer_at (length label) n (indentation ind (take k (b ∷ rest))) (amount + k) else plain (code "\n") n))
    (is_blank b) (suc (run is_blank rest)) 0
    (λ e. rw e (line_starts label n (indented ind b) (suc amount) rest ∙ rw on))
    (λ e. rw (e, none) (judged_prefix label (b ∷ rest) n _))
  where
    on : suc amount + run is_blank rest ≡ amount + suc (run is_blank rest)
    on = omega arith

    none : amount + 0 ≡ amount
    none = omega arith

-- what a label after the LF at n tells of a text that it ends without an indentation
record Closes (size n amount : ℕ) (value : List ℕ) (from after : ℕ) : Type 0 where
  blanks : amount ≡ 0
  empty : value ≡ []
  place : from ≡ suc n
  behind : after ≡ suc n + size

closer_bare : (size n : ℕ) (ind : Indentation) (amount : ℕ) (later : Reading) (value : List ℕ) (from after : ℕ)
    → taken (closer_at size n ind amount) later ≡ bare value from after → Closes size n amount value from after
unfolding taken closer
closer_bare size n Indentation.None amount later value from after e =
    let a : amount ≡ 0 = cc in
    let f : suc n + amount ≡ from = cc in
    let g : suc n + amount + size ≡ after = cc in
    record { blanks = a; empty = cc; place = omega arith; behind = omega arith }
closer_bare size n Indentation.Space amount later value from after e = clash cc
closer_bare size n Indentation.Tab amount later value from after e = clash cc
closer_bare size n Indentation.Mixed amount later value from after e = clash cc

-- a reading with a byte before it
record After (b : ℕ) (r : Reading) (value : List ℕ) (from after : ℕ) : Type 0 where
  left : List ℕ
  same : r ≡ bare left from after
  front : value ≡ b ∷ left

onto_bare : (b : ℕ) (r : Reading) (value : List ℕ) (from after : ℕ) → onto (b ∷ []) r ≡ bare value from after
    → After b r value from after
unfolding onto
onto_bare b (Reading.Text left stop from' after') value from after e =
    let s : stop ≡ Stop.Label Indentation.None 0 = cc in
    let f : from' ≡ from = cc in
    let a : after' ≡ after = cc in
    record { left = left; same = rw (s, f, a); front = cc }
onto_bare b (Reading.Refused refusal place) value from after e = clash cc
onto_bare b Reading.Wait value from after e = clash cc

-- ---- the two readings

nothing_closes : (label : List ℕ) → 0 < length label → line_kind label true Indentation.None 0 [] ≡ Line.Body
unfolding line_kind closing_label judged_line
nothing_closes [] h = absurd (omega arith)
nothing_closes (a ∷ label) h = refl

module _ (label : List ℕ) (h : Label label) where
  abbrev pub kind_at : List ℕ → Line
  kind_at xs = line_kind label true Indentation.None 0 xs

  -- what a line is by its first bytes: no label goes beyond its break
  kind_told : (first more : List ℕ) → is_line first ≡ true
      → kind_at (first ++ more) ≡ line_kind label false Indentation.None 0 first
  kind_told first more w =
      line_kind_stays label h.some Indentation.None 0 first more
      (line_kind_told label h.identifiers Indentation.None 0 first (line-break first w))

  kind_flat : {first : List ℕ} {later : List (List ℕ)} → Lined (first ∷ later)
      → kind_at first ≡ kind_at (first ++ flat later)
  unfolding flat
  kind_flat (last {line = first}) = rw (append-nil first)
  kind_flat (broken {line = first} {later} w l) =
      ap kind_at (sym (append-nil first)) ∙ kind_told first [] w ∙ sym (kind_told first (flat later) w)

  pub kind_first : (xs first : List ℕ) (later : List (List ℕ)) → lines xs ≡ first ∷ later → kind_at first ≡ kind_at xs
  unfolding flat
  kind_first xs first later e =
      let z : first ++ flat later ≡ xs = rw e at (flat_lines xs) in
      let l : Lined (first ∷ later) = rw e at (lines_lined xs) in
      kind_flat l ∙ ap kind_at z

  -- the label at the start of a line, and no name goes on after it: the line closes
  pub record Starts (xs : List ℕ) : Type 0 where
    pub blanks : run is_blank xs ≡ 0
    pub label_there : is_prefix label xs ≡ true
    pub ends : ends_name (drop (length label) xs) ≡ true

  starts_kind : (xs : List ℕ) → Starts xs → kind_at xs ≡ Line.Closes Indentation.None 0
  unfolding closes_at indentation
  starts_kind xs s = closes_text label xs ∙ rw (s.blanks, s.label_there, s.ends)

  -- the lines after the first, up to the ported label, are those of a body
  record Bodied (n : ℕ) (xs value : List ℕ) (from after : ℕ) : Type 0 where
    first : List ℕ
    later : List (List ℕ)
    body : List (List ℕ)
    start : lines xs ≡ first ∷ later
    closes : block label true (n + length first) later ≡ Block.Closed body Indentation.None 0 from
    text : first ++ flat body ≡ value ++ (code "\n" ∷ [])
    place : after ≡ from + length label

  -- one byte that is no LF before it
  bodied_on : (b n : ℕ) (rest value : List ℕ) (from after : ℕ) → (b is "\n") ≡ false
      → Bodied (suc n) rest value from after → Bodied n (b ∷ rest) (b ∷ value) from after
  unfolding lines in_front
  bodied_on b n rest value from after e x =
      let z : n + suc (length x.first) ≡ suc n + length x.first = omega arith in
      record {
        first = b ∷ x.first;
        later = x.later;
        body = x.body;
        start = rw (e, x.start);
        closes = rw z x.closes;
        text = ap (λ (r : List ℕ). b ∷ r) x.text;
        place = x.place;
      }

  -- an LF before a line of the body
  bodied_line : (b n : ℕ) (rest value : List ℕ) (from after : ℕ) → (b is "\n") ≡ true → kind_at rest ≡ Line.Body
      → Bodied (suc n) rest value from after → Bodied n (b ∷ rest) (b ∷ value) from after
  unfolding lines block told with_line flat
  bodied_line b n rest value from after e k x =
      let z : n + 1 + length x.first ≡ suc n + length x.first = omega arith in
      record {
        first = b ∷ [];
        later = x.first ∷ x.later;
        body = x.first ∷ x.body;
        start = rw (e, x.start);
        closes = rw (kind_first rest x.first x.later x.start, k, z, x.closes);
        text = ap (λ (r : List ℕ). b ∷ r) x.text;
        place = x.place;
      }

  -- an LF before the label
  bodied_close : (b n : ℕ) (rest : List ℕ) → (b is "\n") ≡ true → kind_at rest ≡ Line.Closes Indentation.None 0
      → Bodied n (b ∷ rest) [] (suc n) (suc n + length label)
  unfolding lines block told flat line_kind
  bodied_close b n rest e k = go (lines rest) refl
    where
      go : (ls : List (List ℕ)) → lines rest ≡ ls → Bodied n (b ∷ rest) [] (suc n) (suc n + length label)
      go [] z =
          let none : [] ≡ rest = rw z at (flat_lines rest) in
          let body : kind_at rest ≡ Line.Body = rw (← none) (nothing_closes label h.some) in
          clash cc
      go (first ∷ later) z =
          let p : n + 1 + 0 ≡ suc n = omega arith in
          record {
            first = b ∷ [];
            later = first ∷ later;
            body = [];
            start = rw (e, z);
            closes = rw (kind_first rest first later z, k, p);
            text = rw (eqb-true b (code "\n") e);
            place = refl;
          }

  -- no name goes on after the label
  abbrev Ends : ℕ → List ℕ → ℕ → Type 0
  Ends n xs after = (k : ℕ) → after ≡ n + k → ends_name (drop k xs) ≡ true

  ends_on : (n b : ℕ) (rest : List ℕ) (after : ℕ) → Ends n (b ∷ rest) after → Ends (suc n) rest after
  ends_on n b rest after ends k e = ends (suc k) (omega arith)

  abbrev pub read : ℕ → List ℕ → Reading
  read n xs = collected Mode.Nowdoc label true 0 n xs

  module _ (n b : ℕ) (rest value : List ℕ) (from after : ℕ) (e : read n (b ∷ rest) ≡ bare value from after)
      (ends : Ends n (b ∷ rest) after)
      (later : (left : List ℕ) → read (suc n) rest ≡ bare left from after → Bodied (suc n) rest left from after) where
    left_after : unit_at Mode.Nowdoc label true n b rest ≡ plain b n → After b (read (suc n) rest) value from after
    left_after u = onto_bare b _ value from after (sym (collected_byte Mode.Nowdoc label true n b rest u) ∙ e)

    byte_bodied : (b is "\n") ≡ false → Bodied n (b ∷ rest) value from after
    unfolding unit_at
    byte_bodied q =
        let a = left_after (rw q) in
        rw a.front (bodied_on b n rest a.left from after q (later a.left a.same))

    break_bodied : (b is "\n") ≡ true → (t : Bool) → starts_label label rest ≡ t → Bodied n (b ∷ rest) value from after
    unfolding collected unit_at closes_at
    break_bodied q true f =
        let u = rw f at (line_starts label n Indentation.None 0 rest) in
        let c = closer_bare (length label) n _ _ _ value from after (rw (q, u) at e) in
        let w : ends_name (drop (length label) rest) ≡ true = ends (suc (length label)) (omega (arith, c.behind)) in
        let r : run is_blank rest ≡ 0 = omega (arith, c.blanks) in
        let s : Starts rest = record { blanks = r; label_there = rw r at f; ends = w } in
        rw (c.empty, c.behind, c.place) (bodied_close b n rest q (starts_kind rest s))
    break_bodied q false f =
        let b' : b ≡ code "\n" = eqb-true b (code "\n") q in
        let u = rw f at (line_starts label n Indentation.None 0 rest) in
        let a = left_after (rw (q, u, b')) in
        let k = rw f at (closes_text label rest) in
        rw a.front (bodied_line b n rest a.left from after q k (later a.left a.same))

    byte_or_break : (t : Bool) → (b is "\n") ≡ t → Bodied n (b ∷ rest) value from after
    byte_or_break false q = byte_bodied q
    byte_or_break true q = break_bodied q (starts_label label rest) refl

  bodied : (n : ℕ) (xs value : List ℕ) (from after : ℕ) → read n xs ≡ bare value from after → Ends n xs after
      → Bodied n xs value from after
  unfolding collected
  bodied n [] value from after e ends = clash cc
  bodied n (b ∷ rest) value from after e ends =
      byte_or_break n b rest value from after e ends
      (λ left z. bodied (suc n) rest left from after z (ends_on n b rest after ends)) (b is "\n") refl

-- ---- the value

pub finished_nowdoc : (r : Reading) → finished Mode.Nowdoc r ≡ r
unfolding finished loses_break
finished_nowdoc (Reading.Text value stop from after) = refl
finished_nowdoc (Reading.Refused refusal place) = refl
finished_nowdoc Reading.Wait = refl

-- where nothing comes off, a body is its bytes
body_bare : (blank n : ℕ) (ls : List (List ℕ)) → body_text (indent blank 0) n ls ≡ Text.Kept (flat ls)
unfolding body_text followed flat
body_bare blank n [] = refl
body_bare blank n (first ∷ later) = rw (unindented_none blank n first, body_bare blank (n + length first) later)

unbroken_lf : (value : List ℕ) → (get_or value (length value - 1) 0 is "\r") ≡ false
    → unbroken (value ++ (code "\n" ∷ [])) ≡ value
unfolding unbroken
unbroken_lf [] e = refl
unbroken_lf (a ∷ []) e = rw e
unbroken_lf (a ∷ b ∷ []) e = ap (λ (r : List ℕ). a ∷ r) (unbroken_lf (b ∷ []) e)
unbroken_lf (a ∷ b ∷ c ∷ rest) e =
    let y : suc (suc (suc (length rest))) - 1 ≡ suc (suc (length rest)) = omega arith in
    let z : suc (suc (length rest)) - 1 ≡ suc (length rest) = omega arith in
    ap (λ (r : List ℕ). a ∷ r) (unbroken_lf (b ∷ c ∷ rest) (rw z (rw y at e)))

pub nowdoc_sheet : (label : List ℕ) → Label label → (n : ℕ) (xs value : List ℕ) (from after : ℕ)
    → text_at Mode.Nowdoc label true n xs ≡ Reading.Text value (Stop.Label Indentation.None 0) from after
    → closes_at label xs ≡ false
    → (get_or value (length value - 1) 0 is "\r") ≡ false
    → ends_name (drop (after - n) xs) ≡ true
    → sheet_at label true n xs ≡ Reading.Text value (Stop.Label Indentation.None 0) from after
unfolding text_at sheet_at block told with_line answered stripped filled flat
nowdoc_sheet label h n xs value from after e opens return ends =
    let c = sym (finished_nowdoc (collected Mode.Nowdoc label true 0 n xs)) ∙ e in
    let x = bodied label h n xs value from after c (λ k z. rw (let w : after - n ≡ k = omega arith in w) at ends) in
    let kind : line_kind label true Indentation.None 0 x.first ≡ Line.Body =
    kind_first label h xs x.first x.later x.start ∙ closes_text label xs ∙ rw opens in
    let text = body_bare (code " ") n (x.first ∷ x.body) in
    rw (x.start, kind, x.closes, text, x.text, unbroken_lf value return, x.place)
