-- The scan of a sheet: what is left of a body without its last break, by the indentation, and by where the block closes.
-- Assumes nothing.
use Prim.Native.Nat.{ℕ, ◌+◌, ◌-◌, ◌≤◌}
use Rattle.byte.specs.declared.Refusal.{Refusal}
use mathlib.Core.Path.{◌≡◌, refl, sym, ap, ◌∙◌}
use mathlib.Core.Bool.{Bool, true, false}
use mathlib.Core.List.{List}
use native.Mathlib.Omega.{arith}
use lib.ListN.{length, take, drop, length-drop}
use lib.Seq.{length-take-le}
use Rattle.byte.specs.Bytes.{is_blank}
use Rattle.unit.specs.declared.Indentation.{Indentation}
use Rattle.unit.specs.declared.Stop.{Stop}
use Rattle.text.specs.declared.Scanned.{Scanned}
use Rattle.text.specs.Code.{measured}
use Rattle.sheet.specs.declared.Found.{Found}
use Rattle.std.specs.Prelude.{Some, None, Result, Ok, Err}
use Rattle.sheet.specs.Bodies.{Text, Kept, Stray, lines, body_text, unbroken}
use Rattle.sheet.specs.Sheets.{Block, Closed, Missing, Open, block, filled, stripped, answered, sheet_at}
use Rattle.sheet.specs.Code.{found, size_of, break_of, Body, one_blank, blank_of, indent_of, Closing}
use Rattle.closer.proofs.Lines.{rest_from}
use Rattle.unit.proofs.Stays.{clash}
use Rattle.sheet.proofs.Lines.{total, total_lines, lines_lined, flat, flat_lines}
use Rattle.sheet.proofs.Inside.{ClosedStands, BlockStands, block_stands, stripped_mixed, stripped_indent, lines_before}
use Rattle.sheet.proofs.Bodies.{unbroken_break, body_break}
use Rattle.sheet.proofs.Parts.{drop-take}

-- ---- the closing line's indentation

blank_none : (ind : Indentation) (amount : ℕ) → None ≡ one_blank ind → blank_of (Stop.Label ind amount) ≡ 0
unfolding one_blank blank_of
blank_none Indentation.None amount e = cc
blank_none Indentation.Space amount e = cc
blank_none Indentation.Tab amount e = cc
blank_none Indentation.Mixed amount e = refl

blank_some : (ind : Indentation) (amount blank : ℕ) → Some blank ≡ one_blank ind → blank ≡ blank_of (Stop.Label ind amount)
unfolding one_blank blank_of
blank_some Indentation.None amount blank e = cc
blank_some Indentation.Space amount blank e = cc
blank_some Indentation.Tab amount blank e = cc
blank_some Indentation.Mixed amount blank e = cc

blank_other : (ind : Indentation) (blank : ℕ) → Some blank ≡ one_blank ind → blank ≡ 0 → ⊥
unfolding one_blank
blank_other Indentation.None blank e z = let y : blank ≡ 32 = cc in omega arith
blank_other Indentation.Space blank e z = let y : blank ≡ 32 = cc in omega arith
blank_other Indentation.Tab blank e z = let y : blank ≡ 9 = cc in omega arith
blank_other Indentation.Mixed blank e z = cc

blank_of_blank : (ind : Indentation) (amount : ℕ) → (blank_of (Stop.Label ind amount) ≡ 0 → ⊥)
    → is_blank (blank_of (Stop.Label ind amount)) ≡ true
unfolding is_blank blank_of
blank_of_blank Indentation.None amount z = refl
blank_of_blank Indentation.Space amount z = refl
blank_of_blank Indentation.Tab amount z = refl
blank_of_blank Indentation.Mixed amount z = absurd (z refl)

-- ---- what is left of a body

-- of so many bytes
record OfSize (t : Text) (len : ℕ) : Type 0 where
  text : List ℕ
  same : t ≡ Kept text
  size : length text ≡ len

of_size : (t : Text) (len : ℕ) → Ok len ≡ size_of t → OfSize t len
unfolding size_of
of_size (Kept text) len e = record { text = text; same = refl; size = let z : length text ≡ len = cc in z }
of_size (Stray p) len e = let z : ◌≡◌ {A = ℕ} 0 1 = cc in clash z

of_stray : (t : Text) (p : ℕ) → Err p ≡ size_of t → t ≡ Stray p
unfolding size_of
of_stray (Kept text) p e = let z : ◌≡◌ {A = ℕ} 0 1 = cc in clash z
of_stray (Stray q) p e = let z : q ≡ p = cc in ap Stray z

module _ (body : List ℕ) (at : ℕ) (ind : Indentation) (amount size : ℕ) (b : Body body at) (c : Closing body ind amount size)
  where
    pub sheet_mixed : None ≡ one_blank ind
        → Scanned.Refused Refusal.InvalidDocIndentation (length body + amount) ≡ measured (stripped size at (lines (drop at body)) ind amount (length body + amount))
    unfolding measured
    sheet_mixed t = rw (stripped_mixed size at (lines (drop at body)) amount (length body + amount) ind (blank_none ind amount t))

    module _ (blank : ℕ) (q : Some blank ≡ one_blank ind) (s : Result ℕ ℕ)
        (e : s ≡ size_of (body_text (record { blank = blank; width = amount }) at (lines (drop at body)))) where
      k : blank ≡ blank_of (Stop.Label ind amount)
      k = blank_some ind amount blank q

      t : blank ≡ 0 → ⊥
      t = blank_other ind blank q

      strip : stripped size at (lines (drop at body)) ind amount (length body + amount)
          ≡ filled (body_text (indent_of ind amount) at (lines (drop at body))) ind amount (length body + amount)
          (length body + amount + size)
      strip = stripped_indent size at (lines (drop at body)) amount (length body + amount) ind c.bare (λ z. t (k ∙ z))

      measure : s ≡ size_of (body_text (indent_of ind amount) at (lines (drop at body)))
      measure = e ∙ rw k

      pub sheet_stray : (place : ℕ) → s ≡ Err place
          → Scanned.Refused Refusal.StrayIndentation place ≡ measured (stripped size at (lines (drop at body)) ind amount (length body + amount))
      unfolding filled measured
      sheet_stray place z = rw (strip, of_stray (body_text (indent_of ind amount) at (lines (drop at body))) place (sym z ∙ measure))

      module _ (len cut : ℕ) (z : s ≡ Ok len) (d : cut ≡ break_of false (take (length body - at) (drop at body))) where
        left : OfSize (body_text (indent_of ind amount) at (lines (drop at body))) len
        left = of_size _ len (sym z ∙ measure)

        value : length (unbroken left.text) + cut ≡ len
        value =
            let same : break_of false left.text ≡ break_of false (flat (lines (drop at body))) =
            body_break (indent_of ind amount) (blank_of_blank ind amount (λ z. t (k ∙ z))) at (lines (drop at body)) left.text b.whole left.same in
            let n : cut ≡ break_of false left.text = rw (rest_from at body) at d ∙ sym (same ∙ rw (flat_lines (drop at body))) in
            omega (arith, n, unbroken_break left.text, left.size)

        pub sheet_room : cut ≤ len
        sheet_room = omega (arith, value)

        pub sheet_kept : Scanned.Text (len - cut) (Stop.Label ind amount) (length body + amount) (length body + amount + size)
            ≡ measured (stripped size at (lines (drop at body)) ind amount (length body + amount))
        unfolding filled measured
        sheet_kept =
            let n : len - cut ≡ length (unbroken left.text) = omega (arith, value) in
            rw (strip, left.same, n)

pub ruleset sheets = (sheet_mixed, sheet_stray, sheet_room, sheet_kept)

-- ---- by where the block closes

record FoundClosed (b : Block) (ind : Indentation) (amount place : ℕ) : Type 0 where
  body : List (List ℕ)
  same : b ≡ Closed body ind amount place

found_closed : (b : Block) (ind : Indentation) (amount place : ℕ) → Found.Closed ind amount place ≡ found b
    → FoundClosed b ind amount place
unfolding found
found_closed (Closed body i a p) ind amount place e =
    record {
      body = body;
      same =
          let x : i ≡ ind = cc in
          let y : a ≡ amount = cc in
          let z : p ≡ place = cc in
          rw (x, y, z);
    }
found_closed (Missing p) ind amount place e = let z : ◌≡◌ {A = ℕ} 0 1 = cc in clash z
found_closed Open ind amount place e = let z : ◌≡◌ {A = ℕ} 0 1 = cc in clash z

record FoundMissing (b : Block) : Type 0 where
  place : ℕ
  same : b ≡ Missing place

found_missing : (b : Block) → Found.Missing ≡ found b → FoundMissing b
unfolding found
found_missing (Closed body i a p) e = let z : ◌≡◌ {A = ℕ} 0 1 = cc in clash z
found_missing (Missing p) e = record { place = p; same = refl }
found_missing Open e = let z : ◌≡◌ {A = ℕ} 0 1 = cc in clash z

found_open : (b : Block) → Found.Open ≡ found b → b ≡ Open
unfolding found
found_open (Closed body i a p) e = let z : ◌≡◌ {A = ℕ} 0 1 = cc in clash z
found_open (Missing p) e = let z : ◌≡◌ {A = ℕ} 0 1 = cc in clash z
found_open Open e = refl

module _ (src label : List ℕ) (at : ℕ) (end : Bool) (start : at ≤ length src) (short : length src ≤ 65536) (f : Found)
    (e : f ≡ found (block label end at (lines (drop at src)))) where
  inside : BlockStands (length label) at (lines (drop at src)) (block label end at (lines (drop at src)))
  inside = block_stands label end at (lines_lined (drop at src))

  -- all that is left
  left_over : at + total (lines (drop at src)) ≡ length src
  left_over = omega (arith, total_lines (drop at src), length-drop at src)

  pub scan_missing : f ≡ Found.Missing → Scanned.Refused Refusal.UnexpectedEndOfFile (length src) ≡ measured (sheet_at label end at (drop at src))
  unfolding measured sheet_at answered
  scan_missing z =
      let m = found_missing (block label end at (lines (drop at src))) (sym z ∙ e) in
      let p : m.place ≡ at + total (lines (drop at src)) = rw m.same at inside in
      rw (m.same, p, left_over)

  pub scan_open : f ≡ Found.Open → Scanned.Wait ≡ measured (sheet_at label end at (drop at src))
  unfolding measured sheet_at answered
  scan_open z = rw (found_open (block label end at (lines (drop at src))) (sym z ∙ e))

  module _ (ind : Indentation) (amount place : ℕ) (z : f ≡ Found.Closed ind amount place) where
    closing : FoundClosed (block label end at (lines (drop at src))) ind amount place
    closing = found_closed (block label end at (lines (drop at src))) ind amount place (sym z ∙ e)

    stands : ClosedStands (length label) at (lines (drop at src)) closing.body ind amount place
    stands = rw closing.same at inside

    pub scan_amount : amount ≤ place
    scan_amount = omega (arith, stands.behind)

    pub scan-part : place - amount ≤ length src
    scan-part = omega (arith, stands.behind, stands.inside, left_over)

    lines_part : lines (drop at (take (place - amount) src)) ≡ closing.body
    lines_part =
        rw (drop-take at (place - amount) src) (lines_before (length label) at (drop at src) closing.body ind amount place stands)

    pub scan_count : length (take (place - amount) src) ≡ place - amount
    scan_count = length-take-le (place - amount) src scan-part

    pub scan_body : Body (take (place - amount) src) at
    scan_body =
        record {
          start = omega (arith, scan_count, stands.behind);
          short = omega (arith, scan_count, scan-part);
          whole = rw lines_part stands.whole;
        }

    pub scan_closing : length label ≤ 64 → Closing (take (place - amount) src) ind amount (length label)
    scan_closing name =
        record { bare = stands.bare; short = omega (arith, scan_count, scan_amount, stands.inside, left_over); name = name }

    pub scan_closed : (r : Scanned)
        → r ≡ measured
        (stripped (length label) at (lines (drop at (take (place - amount) src))) ind amount (length (take (place - amount) src) + amount))
        → r ≡ measured (sheet_at label end at (drop at src))
    unfolding sheet_at answered
    scan_closed r h =
        let p : length (take (place - amount) src) + amount ≡ place = omega (arith, scan_count, scan_amount) in
        h ∙ rw (lines_part, p, closing.same)

pub ruleset scans = (scan_missing, scan_open, scan_amount, scan-part, scan_count, scan_body, scan_closing, scan_closed)
