-- The code of a line on each way through: where it ends, what it is to the block, what comes off it, its break. Assumes nothing.
use Rattle.std.specs.Prelude.{if◌then◌else◌}
use Prim.Native.Nat.{ℕ, zero, suc, ◌+◌, ◌-◌, ◌<◌, ◌≤◌, min}
use mathlib.Core.Path.{◌≡◌, refl, sym, ap, ◌∙◌}
use mathlib.Core.Bool.{Bool, true, false, not, ◌||◌, ◌&&◌}
use mathlib.Core.List.{List, [], ◌∷◌}
use native.Mathlib.Omega.{arith}
use lib.Dec.{eqb, leb}
use lib.ListN.{length, get_or, take, drop, length-drop}
use lib.Seq.{drop-drop}
use Rattle.std.proofs.lemmas.List.{drop_all}
use borrow.Author.Tests.{eq-eqb, ne_eqb, le-leb, lt-leb, leb-true, leb-false, not-false}
use Rattle.std.specs.Bool.{◌==◌}
use Rattle.std.specs.List.{fold, position, position_or_len}
use Rattle.std.specs.Simd.{first_chunks}
use Rattle.std.specs.Cmp.Lexicographic.{pointwise, same_text}
use Rattle.std.proofs.Common.{cond, nat_eq, ◌*◌, ◌/◌, Option, unwrap_or}
use Rattle.byte.specs.Words.{◌is◌, run}
use Rattle.byte.proofs.Words.{drop-one}
use Rattle.byte.specs.Bytes.{is_blank, is_no_break}
use Rattle.source.specs.Code.{RunEnd, Passing}
use Rattle.source.proofs.Runs.{passing_first, passing_run}
use Rattle.source.proofs.Blocks.{passing_part}
use Rattle.source.proofs.Places.{place_or_end}
use Rattle.unit.specs.declared.Indentation.{Indentation}
use Rattle.unit.specs.declared.Match.{Match}
use Rattle.unit.specs.Closers.{matched, indented}
use Rattle.unit.proofs.Inside.{matched_length}
use Rattle.sheet.specs.declared.Line.{Line}
use Rattle.sheet.specs.Bodies.{Indent, is_over, is_break}
use Rattle.sheet.specs.Sheets.{closing_label, judged_line, line_kind}
use Rattle.sheet.specs.Code.{line_length, LineEnd, indentation, offset_of, is_stray, break_of}
use Rattle.sheet.proofs.Closings.{bounded, closing_label_bounded}
use Rattle.sheet.proofs.Inside.{run_length}

-- a line is what stands before its break, and the break where there is one
line_length_run : (xs : List ℕ) → line_length xs ≡ min (suc (run is_no_break xs)) (length xs)
unfolding line_length run is_no_break
line_length_run [] = omega arith
line_length_run (b ∷ rest) = go (eqb b 10) (line_length_run rest)
  where
    go : (t : Bool) → line_length rest ≡ min (suc (run is_no_break rest)) (length rest)
        → (if t then 1 else suc (line_length rest)) ≡ min (suc (if not t then suc (run is_no_break rest) else 0)) (suc (length rest))
    go true e = omega arith
    go false e = omega arith

module _ (src : List ℕ) (at n : ℕ) (h : at < length src) (r : RunEnd is_no_break src at n) where
  size : line_length (drop at src) ≡ min (suc (run is_no_break (drop at src))) (length src - at)
  size = rw (← length-drop at src) (line_length_run (drop at src))

  pub line_end_break : n < length src → LineEnd src at (n + 1)
  line_end_break k = record { place = omega (arith, r.place, size); inside = omega arith; on = omega (arith, r.place) }

  pub line_end_end : length src ≤ n → LineEnd src at n
  line_end_end k = record { place = omega (arith, r.place, r.inside, size); inside = r.inside; on = omega arith }

-- a line that is a break
pub line_end_empty : (src : List ℕ) (at : ℕ) → at < length src → get_or src at 0 ≡ 10 → LineEnd src at (at + 1)
unfolding line_length
line_end_empty src at h e =
    record { place = rw (drop-one src at h, e); inside = omega (arith, h); on = omega arith }

pub ruleset line_ends = (line_end_break, line_end_end)

-- the label, another byte, or the end of the part
module _ (label line : List ℕ) (at : ℕ) (end : Bool) (m : Match) (e : m ≡ matched label (drop at line)) where
  pub label_inside : at ≤ length line → m ≡ Match.Whole → at + length label ≤ length line
  label_inside h w = omega (arith, matched_length label (drop at line) (sym e ∙ w), length-drop at line)

  pub label_whole : (r : Match) → m ≡ Match.Whole → r ≡ closing_label [] end (drop (at + length label) line)
      → r ≡ closing_label label end (drop at line)
  unfolding bounded
  label_whole r w h = h ∙ rw (closing_label_bounded label end (drop at line), ← e, w, drop-drop (length label) at line)

  pub label_other : m ≡ Match.Other → Match.Other ≡ closing_label label end (drop at line)
  unfolding bounded
  label_other w = rw (closing_label_bounded label end (drop at line), ← e, w)

  pub label_undecided : m ≡ Match.Undecided → Match.Undecided ≡ closing_label label end (drop at line)
  unfolding bounded
  label_undecided w = rw (closing_label_bounded label end (drop at line), ← e, w)

-- the first byte is another than the label's
pub label_first : (label line : List ℕ) (at : ℕ) (end : Bool) → at < length line → false ≡ (length label == 0)
    → (get_or line at 0 ≡ get_or label 0 0 → ⊥) → Match.Other ≡ closing_label label end (drop at line)
unfolding closing_label
label_first [] line at end h k n = cc
label_first (a ∷ label) line at end h k n =
    rw (drop-one line at h, ne_eqb a (get_or line at 0) (λ e. n (sym e)))

pub ruleset labels = (label_inside, label_whole, label_other, label_undecided)

-- the label's bytes from k on against the text's: where they are over, cut off, another byte, and the same
module _ (label xs : List ℕ) (k : ℕ) (e : matched label xs ≡ matched (drop k label) (drop k xs)) where
  pub later_whole : length label ≤ k → Match.Whole ≡ matched label xs
  unfolding matched
  later_whole h = sym (e ∙ rw (drop_all k label h) refl)

  module _ (h : k < length label) where
    pub later_cut : length xs ≤ k → Match.Undecided ≡ matched label xs
    unfolding matched
    later_cut l = sym (e ∙ rw (drop-one label k h, drop_all k xs l) refl)

    pub later_other : k < length xs → (get_or label k 0 ≡ get_or xs k 0 → ⊥) → Match.Other ≡ matched label xs
    unfolding matched
    later_other l d = sym (e ∙ rw (drop-one label k h, drop-one xs k l, ne_eqb _ _ d) refl)

    pub later_same : k < length xs → get_or label k 0 ≡ get_or xs k 0
        → matched label xs ≡ matched (drop (k + 1) label) (drop (k + 1) xs)
    unfolding matched
    later_same l s = e ∙ rw (drop-one label k h, drop-one xs k l, eq-eqb _ _ s) refl

indentation_fold : (ind : Indentation) (xs : List ℕ) → fold indented ind xs ≡ indentation ind xs
unfolding indentation
indentation_fold ind [] = refl
indentation_fold ind (b ∷ rest) = indentation_fold (indented ind b) rest

-- after its blanks a line is what the label makes of it
pub line_kind_run : (label : List ℕ) (end : Bool) (ind : Indentation) (amount : ℕ) (xs : List ℕ)
    → line_kind label end ind amount xs
    ≡ judged_line (closing_label label end (drop (run is_blank xs) xs)) end (indentation ind (take (run is_blank xs) xs))
    (amount + run is_blank xs)
unfolding line_kind run indentation
line_kind_run label end ind amount [] =
    let z : amount + 0 ≡ amount = omega arith in
    rw z
line_kind_run label end ind amount (b ∷ rest) = go (is_blank b) (line_kind_run label end (indented ind b) (suc amount) rest)
  where
    go : (t : Bool)
        → line_kind label end (indented ind b) (suc amount) rest
        ≡ judged_line (closing_label label end (drop (run is_blank rest) rest)) end
        (indentation (indented ind b) (take (run is_blank rest) rest)) (suc amount + run is_blank rest)
        → (if t then line_kind label end (indented ind b) (suc amount) rest
        else judged_line (closing_label label end (b ∷ rest)) end ind amount)
        ≡ judged_line (closing_label label end (drop (if t then suc (run is_blank rest) else 0) (b ∷ rest))) end
        (indentation ind (take (if t then suc (run is_blank rest) else 0) (b ∷ rest)))
        (amount + (if t then suc (run is_blank rest) else 0))
    go true e =
        let z : amount + suc (run is_blank rest) ≡ suc amount + run is_blank rest = omega arith in
        e ∙ rw z
    go false e =
        let z : amount + 0 ≡ amount = omega arith in
        rw z

module _ (label line : List ℕ) (end : Bool) (n : ℕ) (r : RunEnd is_blank line 0 n) (m : Match)
    (e : m ≡ closing_label label end (drop n line)) where
  kind : line_kind label end Indentation.None 0 line ≡ judged_line m end (indentation Indentation.None (take n line)) n
  kind =
      let z : run is_blank line ≡ n = omega (arith, r.place) in
      let y : 0 + n ≡ n = omega arith in
      line_kind_run label end Indentation.None 0 line ∙ rw (z, e, y)

  pub kind_closes : (ind : Indentation) → m ≡ Match.Whole → ind ≡ fold indented Indentation.None (take n line)
      → Line.Closes ind n ≡ line_kind label end Indentation.None 0 line
  unfolding judged_line
  kind_closes ind w i = sym (kind ∙ rw (w, i, indentation_fold Indentation.None (take n line)))

  pub kind_other : m ≡ Match.Other → Line.Body ≡ line_kind label end Indentation.None 0 line
  unfolding judged_line
  kind_other w = sym (kind ∙ rw w)

  pub kind_end : m ≡ Match.Undecided → end ≡ true → Line.Body ≡ line_kind label end Indentation.None 0 line
  unfolding judged_line
  kind_end w t = sym (kind ∙ rw (w, t))

  pub kind_more : m ≡ Match.Undecided → end ≡ false → Line.Undecided ≡ line_kind label end Indentation.None 0 line
  unfolding judged_line
  kind_more w t = sym (kind ∙ rw (w, t))

pub ruleset kinds = (kind_closes, kind_other, kind_end, kind_more)

-- the run of the first n bytes is the whole run, or n
run_first : (test : ℕ → Bool) (n : ℕ) (xs : List ℕ) → run test (take n xs) ≡ min n (run test xs)
unfolding run
run_first test zero xs = omega arith
run_first test (suc n) [] = omega arith
run_first test (suc n) (b ∷ rest) = go (test b) (run_first test n rest)
  where
    go : (t : Bool) → run test (take n rest) ≡ min n (run test rest)
        → (if t then suc (run test (take n rest)) else 0) ≡ min (suc n) (if t then suc (run test rest) else 0)
    go true e = omega (arith, e)
    go false e = omega arith

-- four bytes that pass are a run, before what follows
four_run : (test : ℕ → Bool) (c : ℕ) (xs : List ℕ) → test c ≡ true → take 4 xs ≡ c ∷ c ∷ c ∷ c ∷ [] → run test xs ≡ 4 + run test (drop 4 xs)
unfolding run
four_run test c [] h e = cc
four_run test c (x ∷ []) h e = cc
four_run test c (x ∷ y ∷ []) h e = cc
four_run test c (x ∷ y ∷ z ∷ []) h e = cc
four_run test c (x ∷ y ∷ z ∷ w ∷ xs) h e =
    let at₀ : test x ≡ true = ap (λ (l : List ℕ). test (get_or l 0 0)) e ∙ h in
    let at₁ : test y ≡ true = ap (λ (l : List ℕ). test (get_or l 1 0)) e ∙ h in
    let at₂ : test z ≡ true = ap (λ (l : List ℕ). test (get_or l 2 0)) e ∙ h in
    let at₃ : test w ≡ true = ap (λ (l : List ℕ). test (get_or l 3 0)) e ∙ h in
    rw (at₀, at₁, at₂, at₃) (omega arith)

-- blanks go on past four spaces
pub blanks_past : (line : List ℕ) (r : ℕ) → 4 ≤ length line → take 4 line ≡ 32 ∷ 32 ∷ 32 ∷ 32 ∷ [] → RunEnd is_blank line 4 r
    → RunEnd is_blank line 0 r
unfolding is_blank
blanks_past line r h e f =
    passing_run is_blank line 0 4 r
    (passing_part is_blank line 0 0 (passing_first is_blank line 0 (omega arith)) 4 (omega (arith, h))
    (omega (arith, four_run is_blank 32 line refl e))) f

-- another group than four blanks
abbrev pub is_other : ℕ → List ℕ → Bool
is_other c group = not (pointwise nat_eq group (c ∷ c ∷ c ∷ c ∷ []))

-- groups of four blanks each are as many blanks
groups_run : (c k : ℕ) (xs : List ℕ) → position_or_len (is_other c) (first_chunks 4 k xs) * 4 ≤ run (eqb c) xs
groups_run c zero xs = omega arith
groups_run c (suc k) xs = go (pointwise nat_eq (take 4 xs) (c ∷ c ∷ c ∷ c ∷ [])) refl (groups_run c k (drop 4 xs))
  where
    go : (t : Bool) → t ≡ pointwise nat_eq (take 4 xs) (c ∷ c ∷ c ∷ c ∷ [])
        → position_or_len (is_other c) (first_chunks 4 k (drop 4 xs)) * 4 ≤ run (eqb c) (drop 4 xs)
        → cond (not (not t)) (1 + position_or_len (is_other c) (first_chunks 4 k (drop 4 xs))) 0 * 4 ≤ run (eqb c) xs
    go true e h = omega (arith, h, four_run (eqb c) c xs (eq-eqb c c refl) (same_text (take 4 xs) (c ∷ c ∷ c ∷ c ∷ []) e))
    go false e h = omega arith

-- where the blanks end of as much of a line as may come off
pub offset_told : (ind : Indent) (line : List ℕ) (r : ℕ)
    → RunEnd (eqb ind.blank) (take (min ind.width (length line)) line) 0 r → r ≡ offset_of ind line
unfolding offset_of
offset_told ind line r e =
    omega (arith, e.place, run_first (eqb ind.blank) (min ind.width (length line)) line, run_length (eqb ind.blank) line)

-- so they do where groups of four are passed first
pub offset_grouped : (ind : Indent) (line part : List ℕ) (groups : List (List ℕ)) (found : Option ℕ) (whole r : ℕ)
    → part ≡ take (min ind.width (length line)) line → groups ≡ first_chunks 4 (length part / 4) part
    → found ≡ position (is_other ind.blank) groups → whole ≡ unwrap_or found (length groups)
    → RunEnd (eqb ind.blank) part (whole * 4) r → r ≡ offset_of ind line
offset_grouped ind line part groups found whole r w g f u e =
    let many : whole ≡ position_or_len (is_other ind.blank) (first_chunks 4 (length part / 4) part) =
    u ∙ place_or_end (is_other ind.blank) groups found f ∙ ap (λ (gs : List (List ℕ)). position_or_len (is_other ind.blank) gs) g in
    let few : whole * 4 ≤ run (eqb ind.blank) part = omega (arith, many, groups_run ind.blank (length part / 4) part) in
    let start : 0 + whole * 4 ≡ whole * 4 = omega arith in
    let on : Passing (eqb ind.blank) part 0 (whole * 4) =
    rw start at (passing_part (eqb ind.blank) part 0 0 (passing_first (eqb ind.blank) part 0 (omega arith)) (whole * 4)
    (omega (arith, few, run_length (eqb ind.blank) part)) few) in
    offset_told ind line r (rw w at (passing_run (eqb ind.blank) part 0 (whole * 4) r on e))

-- whether the byte after what comes off a line is stray
pub offset-length : (ind : Indent) (line : List ℕ) → offset_of ind line ≤ length line
unfolding offset_of
offset-length ind line = omega (arith, run_length (eqb ind.blank) line)

module _ (ind : Indent) (off : ℕ) (line : List ℕ) (e : off ≡ offset_of ind line) where
  pub stray_none : ind.width ≤ off → false ≡ is_stray ind line
  unfolding is_stray
  stray_none h = rw (← e, le-leb ind.width off h)

  pub stray_over : (over : Bool) → off < ind.width → over ≡ is_over (drop off line)
      → not over ≡ is_stray ind line
  unfolding is_stray
  stray_over over h f = rw (← e, lt-leb ind.width off h, ← f)

  pub stray_place : off ≤ length line
  stray_place = rw e (offset-length ind line)

-- a line is over two bytes after a place from which on only its break is left
over_break : (off n : ℕ) (xs : List ℕ) → off + 2 < n → is_over (drop off (take n xs)) ≡ true → line_length xs ≤ off + 2
unfolding line_length is_over is_break
over_break off n [] h e = omega arith
over_break off zero (b ∷ xs) h e = absurd (omega (arith, h))
over_break (suc off) (suc n) (b ∷ xs) h e = go (b is "\n") (over_break off n xs (omega (arith, h)) e)
  where
    go : (t : Bool) → line_length xs ≤ off + 2 → (if t then 1 else suc (line_length xs)) ≤ suc off + 2
    go true k = omega arith
    go false k = omega (arith, k)
over_break zero (suc n) (b ∷ []) h e = go (b is "\n")
  where
    go : (t : Bool) → (if t then 1 else 1) ≤ 0 + 2
    go true = omega arith
    go false = omega arith
over_break zero (suc zero) (b ∷ c ∷ xs) h e = absurd (omega (arith, h))
over_break zero (suc (suc n)) (b ∷ c ∷ xs) h e = go (b is "\n") (b is "\r") (c is "\n") e
  where
    go : (t u v : Bool) → (t || (u && v)) ≡ true → (if t then 1 else suc (if v then 1 else suc (line_length xs))) ≤ 0 + 2
    go true u v k = omega arith
    go false u true k = omega arith
    go false true false k = cc
    go false false false k = cc

-- a row that is not stray, of two bytes more than the indentation, has all of it
offset-width : (ind : Indent) (line : List ℕ) → offset_of ind line ≤ ind.width
unfolding offset_of
offset-width ind line = omega arith

pub offset_full : (ind : Indent) (body : List ℕ) (at next : ℕ) → LineEnd body at next
    → is_stray ind (take (next - at) (drop at body)) ≡ false → ind.width + 1 < next - at
    → ind.width ≡ offset_of ind (take (next - at) (drop at body))
unfolding is_stray
offset_full ind body at next e k h = go (leb ind.width off) refl k
  where
    row : List ℕ
    row = take (next - at) (drop at body)

    off : ℕ
    off = offset_of ind row

    go : (t : Bool) → leb ind.width off ≡ t → (if t then false else not (is_over (drop off row))) ≡ false → ind.width ≡ off
    go true q z = omega (arith, leb-true ind.width off q, offset-width ind row)
    go false q z =
        absurd (omega (
          arith,
          leb-false ind.width off q,
          e.place,
          over_break off (next - at) (drop at body) (omega (arith, leb-false ind.width off q)) (not-false (is_over (drop off row)) z),
        ))

pub ruleset strays = (stray_none, stray_over, stray_place)

-- the break at a text's end, by its last byte and the one before
unfoldable before : Bool → List ℕ → ℕ → Bool
before cr xs zero = cr
before cr xs (suc m) = get_or xs m 0 is "\r"

break_of_last : (cr : Bool) (xs : List ℕ) (m : ℕ) → length xs ≡ suc m
    → break_of cr xs ≡ (if get_or xs m 0 is "\n" then (if before cr xs m then 2 else 1) else 0)
unfolding break_of before
break_of_last cr [] m l = absurd (omega arith)
break_of_last cr (b ∷ []) zero l = refl
break_of_last cr (b ∷ []) (suc m) l = absurd (omega arith)
break_of_last cr (b ∷ c ∷ rest) zero l = absurd (omega arith)
break_of_last cr (b ∷ c ∷ rest) (suc zero) l = break_of_last (b is "\r") (c ∷ rest) zero (omega arith)
break_of_last cr (b ∷ c ∷ rest) (suc (suc m)) l = break_of_last (b is "\r") (c ∷ rest) (suc m) (omega arith)

module _ (text : List ℕ) where
  pub break_empty : length text < 1 → 0 ≡ break_of false text
  unfolding break_of
  break_empty h = go text h
    where
      go : (xs : List ℕ) → length xs < 1 → 0 ≡ break_of false xs
      go [] k = refl
      go (b ∷ rest) k = absurd (omega arith)

  pub break_other : 1 ≤ length text → (get_or text (length text - 1) 0 ≡ 10 → ⊥) → 0 ≡ break_of false text
  break_other h n = sym (break_of_last false text (length text - 1) (omega arith) ∙ rw (ne_eqb _ 10 n))

  module _ (lf : get_or text (length text - 1) 0 ≡ 10) where
    pub break_one : 1 ≤ length text → length text < 2 → 1 ≡ break_of false text
    unfolding before
    break_one h k =
        let z : length text - 1 ≡ 0 = omega arith in
        sym (break_of_last false text (length text - 1) (omega arith) ∙ rw (eq-eqb _ 10 lf, z))

    module _ (h : 2 ≤ length text) where
      two : break_of false text ≡ (if get_or text (length text - 2) 0 is "\r" then 2 else 1)
      unfolding before
      two =
          let z : length text - 1 ≡ suc (length text - 2) = omega arith in
          break_of_last false text (length text - 1) (omega arith) ∙ rw (eq-eqb _ 10 lf, z)

      pub break_lf : (get_or text (length text - 2) 0 ≡ 13 → ⊥) → 1 ≡ break_of false text
      break_lf n = sym (two ∙ rw (ne_eqb _ 13 n))

      pub break_crlf : get_or text (length text - 2) 0 ≡ 13 → 2 ≡ break_of false text
      break_crlf e = sym (two ∙ rw (eq-eqb _ 13 e))

pub ruleset breaks = (break_empty, break_other, break_one, break_lf, break_crlf)
