-- The scan of a nowdoc by its label's first byte: other bytes close no line, and up to the end they leave it open.
-- Assumes nothing.
use Prim.Native.Nat.{ℕ, zero, suc, ◌+◌, ◌-◌, ◌<◌, ◌≤◌}
use mathlib.Core.Path.{◌≡◌, refl, sym, ap, ◌∙◌}
use mathlib.Core.Bool.{Bool, true, false, not}
use mathlib.Core.List.{List, [], ◌∷◌}
use Rattle.std.specs.Prelude.{Option, Some, None, MatchOption, is_some}
use native.Mathlib.Omega.{arith}
use native.Mathlib.Nat.{add-zero}
use lib.Dec.{eqb}
use lib.ListN.{length, get_or, take, drop, length-drop}
use lib.Seq.{get_or-drop, drop-drop}
use borrow.Author.Tests.{ne_eqb, eqb-true, eqb-false, not-false}
use Rattle.byte.specs.Words.{◌is◌, run}
use Rattle.byte.specs.Bytes.{is_blank, is_no_break, is_none_of}
use Rattle.source.specs.Code.{RunEnd}
use Rattle.byte.proofs.Tests.{choice, none_of}
use Rattle.byte.proofs.Words.{drop-one}
use Rattle.unit.specs.declared.Indentation.{Indentation}
use Rattle.unit.specs.declared.Match.{Match}
use Rattle.unit.specs.declared.Mode.{Mode}
use Rattle.unit.specs.declared.TextUnit.{TextUnit}
use Rattle.unit.specs.Interpolations.{plain}
use Rattle.unit.specs.Closers.{matched, indented, judged, line}
use Rattle.unit.specs.Units.{unit_at}
use Rattle.unit.specs.Readings.{Reading, onto, taken, after_of, collected, text_at}
use Rattle.text.specs.declared.Piece.{Piece}
use Rattle.text.specs.declared.Scanned.{Scanned}
use Rattle.text.specs.Code.{bytes_of, IsPiece, ended, unclosed, measured, BeforeBlanks, Searchable}
use Rattle.text.proofs.Runs.{onto_nil, onto_cons, collected_byte, run_end_stop}
use Rattle.text.proofs.Scans.{open_at, onto_open, behind_open}
use Rattle.text.proofs.Lines.{Lining, lining_first, lining_end, lining_bytes, lining_run, lining_other}
use Rattle.text.proofs.Lines.{lining_stop, lining_on}

-- the first of a run passes its test, and the others are the run of the rest
run-cons : (test : ℕ → Bool) (b : ℕ) (rest : List ℕ) (k : ℕ) → k < run test (b ∷ rest)
    → (test b ≡ true) × (k ≤ run test rest)
unfolding run
run-cons test b rest k =
    choice Within (test b) (suc (run test rest)) 0 (λ e h. (e, omega arith)) (λ e h. absurd (omega arith))
  where
    Within : ℕ → Type 0
    Within m = k < m → (test b ≡ true) × (k ≤ run test rest)

matched_cut : (label : List ℕ) → 0 < length label → matched label [] ≡ Match.Undecided
unfolding matched
matched_cut [] some = absurd (omega arith)
matched_cut (a ∷ label) some = refl

-- a byte that is not the label's first: the label does not stand there
abbrev unlike : List ℕ → ℕ → Bool
unlike label = is_none_of (get_or label 0 0) (get_or label 0 0) (get_or label 0 0) (get_or label 0 0)

matched_other : (label : List ℕ) → 0 < length label → (b : ℕ) (rest : List ℕ) → unlike label b ≡ true
    → matched label (b ∷ rest) ≡ Match.Other
unfolding matched
matched_other [] some b rest e = absurd (omega arith)
matched_other (a ∷ label) some b rest e =
    let other : eqb b a ≡ false = (none_of b a a a a e).first in
    rw (ne_eqb a b (λ z. eqb-false b a other (sym z)))

module _ (label : List ℕ) (some : 0 < length label) (end : Bool) where
  abbrev others : List ℕ → ℕ
  others = run (unlike label)

  -- the reading from n on
  abbrev read : ℕ → List ℕ → Reading
  read = collected Mode.Nowdoc label end 0

  -- a line of such bytes closes nothing if one of them is no blank; a part that ends in blanks is undecided
  line_other : (n : ℕ) (ind : Indentation) (amount : ℕ) (xs : List ℕ) (k : ℕ) → k < others xs
      → is_blank (get_or xs k 0) ≡ false → line label end n ind amount xs ≡ plain 10 n
  unfolding line judged run
  line_other n ind amount [] k h e = absurd (omega arith)
  line_other n ind amount (b ∷ rest) zero h e =
      let within = run-cons (unlike label) b rest 0 h in
      rw (e, matched_other label some b rest within.0)
  line_other n ind amount (b ∷ rest) (suc k) h e =
      let within = run-cons (unlike label) b rest (suc k) h in
      choice (λ (u : TextUnit). u ≡ plain 10 n) (is_blank b) _ _
      (λ t. line_other n (indented ind b) (suc amount) rest k (omega (arith, within.1)) e)
      (λ t. rw (matched_other label some b rest within.0))

  line_open : (P : TextUnit → Type 0) (n : ℕ) → P (plain 10 n) → (end ≡ false → P TextUnit.Undecided)
      → (ind : Indentation) (amount : ℕ) (xs : List ℕ) → length xs ≤ others xs → P (line label end n ind amount xs)
  unfolding line judged run
  line_open P n text cut ind amount [] h = rw (matched_cut label some) (choice P end _ _ (λ t. text) cut)
  line_open P n text cut ind amount (b ∷ rest) h =
      let within = run-cons (unlike label) b rest (length rest) (omega arith) in
      choice P (is_blank b) _ _ (λ t. line_open P n text cut (indented ind b) (suc amount) rest within.1)
      (λ t. rw (matched_other label some b rest within.0) text)

  -- so they are text up to one that is no blank, and up to the end nothing closes the block
  read_other : (n : ℕ) (xs : List ℕ) (k : ℕ) → k < others xs → is_blank (get_or xs k 0) ≡ false
      → read n xs ≡ onto (take k xs) (read (n + k) (drop k xs))
  unfolding unit_at run
  read_other n [] k h e = absurd (omega arith)
  read_other n (b ∷ rest) zero h e = rw (add-zero n) (onto_nil (read n (b ∷ rest)))
  read_other n (b ∷ rest) (suc k) h e =
      let within = run-cons (unlike label) b rest (suc k) h in
      let place : suc n + k ≡ n + suc k = omega arith in
      collected_byte Mode.Nowdoc label end n b rest (text (omega (arith, within.1)))
      ∙ ap (onto (b ∷ [])) (read_other (suc n) rest k (omega (arith, within.1)) e)
      ∙ onto_cons b (take k rest) (read (suc n + k) (drop k rest))
      ∙ rw place
    where
      text : k < others rest → unit_at Mode.Nowdoc label end n b rest ≡ plain b n
      text w =
          choice (λ (u : TextUnit). u ≡ plain b n) (b is "\n") _ _
          (λ t. rw (eqb-true b 10 t) (line_other n Indentation.None 0 rest k w e)) (λ t. refl)

  read_open : (n : ℕ) (xs : List ℕ) → length xs ≤ others xs → read n xs ≡ open_at end (n + length xs)
  unfolding collected unit_at taken after_of
  read_open n [] h = rw (add-zero n)
  read_open n (b ∷ rest) h =
      let within = run-cons (unlike label) b rest (length rest) (omega arith) in
      let later = read_open (suc n) rest within.1 in
      choice Open (b is "\n") _ _ (λ t. line_open Open n (text 10 later) cut Indentation.None 0 rest within.1)
      (λ t. text b later)
    where
      Open : TextUnit → Type 0
      Open u =
          taken u (collected Mode.Nowdoc label end (after_of u - suc n) (suc n) rest)
          ≡ open_at end (n + suc (length rest))

      text : (v : ℕ) → read (suc n) rest ≡ open_at end (suc n + length rest) → Open (plain v n)
      text v later =
          let z : suc n - suc n ≡ 0 = omega arith in
          let place : suc n + length rest ≡ n + suc (length rest) = omega arith in
          rw (z, later, place) (onto_open (v ∷ []) end (n + suc (length rest)))

      cut : end ≡ false → Open TextUnit.Undecided
      cut e = rw e

-- the loop of `scan_label`: the next LF is at `lf`, and from there on the label's first byte at n
module _ (label : List ℕ) (end : Bool) (src : List ℕ) (at i : ℕ) (s : Lining label end src at i)
    (lf : ℕ) (q : RunEnd is_no_break src i lf)
    (ok : Searchable label) (w : ℕ) (first : w ≡ get_or label 0 0) (n : ℕ) (p : RunEnd (is_none_of w w w w) src lf n) where
  there : Lining label end src at lf
  there = lining_run label end src at i s lf q

  size : n ≡ lf + run (unlike label) (drop lf src)
  size = rw first at p.place

  pub looking_end : (r : Scanned) → length src ≤ n → r ≡ unclosed end n
      → r ≡ measured (text_at Mode.Nowdoc label end at (drop at src))
  looking_end r h f =
      let all = read_open label ok.some end lf (drop lf src) (omega (arith, length-drop lf src, size)) in
      let place : lf + length (drop lf src) ≡ n = omega (arith, length-drop lf src, q.inside, p.inside) in
      f ∙ sym (there.text.same ∙ rw (all, place) (behind_open Mode.Nowdoc (lf - at) false end n))

  pub looking_start : n < length src → BeforeBlanks src lf n lf
  unfolding is_no_break is_none_of is_blank run
  looking_start h =
      let inside : lf < length src = omega (arith, size) in
      let stop : not (eqb (get_or src lf 0) 10) ≡ false = run_end_stop is_no_break src i lf q inside in
      let break : get_or src lf 0 ≡ 10 = eqb-true (get_or src lf 0) 10 (not-false (eqb (get_or src lf 0) 10) stop) in
      let other : eqb 10 (get_or label 0 0) ≡ false = ne_eqb 10 (get_or label 0 0) (λ z. ok.unbroken (sym z)) in
      let place = rw (drop-one src lf inside, break, other) at size in
      record { first = omega arith; last = omega (arith, place); inside = p.inside; other = rw break }

  module _ (k : ℕ) (b : BeforeBlanks src lf n k) where
    pub looking_inside : k < length src
    looking_inside = omega (arith, b.last, b.inside)

    pub looking_less : length src - (k + 1) < length src - i
    looking_less = omega (arith, q.place, b.first, looking_inside)

    text : Lining label end src at k
    text =
        let place : lf + (k - lf) ≡ k = omega (arith, b.first) in
        let byte : get_or (drop lf src) (k - lf) 0 ≡ get_or src k 0 = get_or-drop lf src (k - lf) 0 ∙ rw place in
        let within : k - lf < run (unlike label) (drop lf src) = omega (arith, size, b.first, b.last) in
        let on = read_other label ok.some end lf (drop lf src) (k - lf) within (rw byte b.other) in
        lining_bytes label end src at lf there k b.first (omega (arith, looking_inside))
        (rw (drop-drop (k - lf) lf src, place) at on)

    pub looking_room : at ≤ k
    looking_room = text.order

    pub looking_other : (get_or src k 0 ≡ 10 → ⊥) → Lining label end src at (k + 1)
    looking_other = lining_other label end src at k text looking_inside

    module _ (break : get_or src k 0 ≡ 10) (u : TextUnit)
        (e : u ≡ line label end k Indentation.None 0 (drop (k + 1) src)) where
      pub looking_stop : (r : Scanned) (o : Option Piece) → MatchOption o (length (bytes_of u) ≡ 0) (IsPiece u)
          → is_some o ≡ false → r ≡ ended Mode.Nowdoc (k - at) false u
          → r ≡ measured (text_at Mode.Nowdoc label end at (drop at src))
      looking_stop r None q z g = g ∙ lining_stop label end src at k text looking_inside break u e q
      looking_stop r (Some x) q z g = cc

      pub looking_on : (o : Option Piece) → MatchOption o (length (bytes_of u) ≡ 0) (IsPiece u) → is_some o ≡ true
          → Lining label end src at (k + 1)
      looking_on None q z = cc
      looking_on (Some x) q z =
          lining_on label end src at k text looking_inside break u e (λ y. omega (arith, y, q.width, q.some))

pub ruleset looking = (
  lining_first,
  lining_end,
  looking_end,
  looking_start,
  looking_inside,
  looking_less,
  looking_room,
  looking_other,
  looking_stop,
  looking_on,
)
