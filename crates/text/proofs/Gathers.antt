-- The reader of a text: its loop measures the text and puts its bytes into a part, as far as that goes. The scan leaves
-- the part as it is where a nowdoc is found by its label. Assumes nothing.
use Prim.Native.Nat.{ℕ, ◌+◌, ◌-◌, ◌<◌, ◌≤◌}
use mathlib.Core.Path.{◌≡◌, refl, sym, ap, ◌∙◌}
use mathlib.Core.Bool.{Bool, true, false, false≢true}
use mathlib.Core.List.{List, [], ◌∷◌, ◌++◌}
use native.Mathlib.Omega.{arith}
use lib.Dec.{eqb}
use lib.ListN.{length, get_or, take, drop, length-drop}
use lib.Seq.{length-take-le}
use borrow.Author.Tests.{eqb-false, not-true}
use Rattle.source.specs.Code.{RunEnd}
use Rattle.byte.specs.Laid.{laid}
use Rattle.unit.specs.declared.Mode.{Mode}
use Rattle.unit.specs.declared.TextUnit.{TextUnit}
use Rattle.unit.specs.Units.{unit_at}
use Rattle.unit.specs.Readings.{after_of, text_at}
use Rattle.text.specs.declared.Piece.{Piece}
use Rattle.text.specs.declared.Scanned.{Scanned}
use Rattle.text.specs.Code.{Here, is_plain, bytes_of, is_break, IsPiece, last_break, ended, unclosed, measured, gathered}
use Rattle.text.specs.Code.{clipped, Reads, is_searched, Scans, Searchable, is_writable}
use Rattle.text.proofs.Runs.{run_after}
use Rattle.text.proofs.Scans.{TextInside, unit_text, unit_writable, Scanning, scanning_first, scanning_end}
use Rattle.text.proofs.Scans.{unit_stop, unit_on, run_on}
use Rattle.text.proofs.Writes.{clipped_nil, clipped_append, length_clipped, gathered_past, gathered_run}
use Rattle.text.proofs.Writes.{gathered_stop, gathered_unit}

-- the loop of `read_text`: len bytes of text were read up to i, and the part holds them as far as it goes; what is
-- gathered from i on comes after them
pub record Gathering (m : Mode) (label : List ℕ) (end : Bool) (src : List ℕ) (at : ℕ) (old dst : List ℕ) (i len : ℕ)
    (broken : Bool) : Type 0 where
  pub text : Scanning m label end src at i len broken
  pub size : length dst ≡ length old
  pub same :
      laid old 0 (take (length old) (gathered m label end 0 at (drop at src)))
      ≡ clipped dst len (gathered m label end 0 i (drop i src))

module _ (m : Mode) (label : List ℕ) (end : Bool) (src : List ℕ) (at : ℕ) (old : List ℕ) where
  pub gathering_first : at ≤ length src → Gathering m label end src at old old at 0 false
  unfolding clipped
  gathering_first h =
      let z : length old ≡ length old - 0 = omega arith in
      let all = gathered m label end 0 at (drop at src) in
      record {
        text = scanning_first m label end src at h;
        size = refl;
        same = ap (λ (k : ℕ). laid old 0 (take k all)) z;
      }

  pub gathering_here : (n : ℕ) → n < length src → length src ≤ 65536 → Here src n
  gathering_here n h l = record { inside = h; short = l }

  module _ (dst : List ℕ) (i len : ℕ) (broken : Bool) (g : Gathering m label end src at old dst i len broken) where
    -- nothing is left to gather
    over : (r : Scanned) → gathered m label end 0 i (drop i src) ≡ []
        → r ≡ measured (text_at m label end at (drop at src)) → Reads m src label at end old r dst
    over r none told =
        record { told = told; held = sym (g.same ∙ rw none (clipped_nil dst len)) }

    -- some bytes, and the place that the rest is gathered from
    onto : (vs : List ℕ) (after : List ℕ) (next : ℕ) (flag : Bool) → after ≡ clipped dst len vs
        → gathered m label end 0 i (drop i src) ≡ vs ++ gathered m label end 0 next (drop next src)
        → Scanning m label end src at next (len + length vs) flag
        → Gathering m label end src at old after next (len + length vs) flag
    onto vs after next flag f turn text =
        record {
          text = text;
          size = ap length f ∙ length_clipped dst len vs ∙ g.size;
          same =
              g.same
              ∙ rw turn
              (sym (rw f (clipped_append dst len vs (gathered m label end 0 next (drop next src)))));
        }

    pub gathering_end : (r : Scanned) → length src ≤ i → r ≡ unclosed end i → Reads m src label at end old r dst
    gathering_end r h f =
        over r (gathered_past m label end src i h) (scanning_end m label end src at i len broken g.text r h f)

    module _ (n : ℕ) (p : RunEnd (is_plain m) src i n) where
      pub gathering_order : i ≤ n
      gathering_order = run_after m label end src i n p

      pub gathering_room : len + (n - i) ≤ length src
      gathering_room = omega (arith, g.text.small, p.inside, gathering_order)

      passed : (after : List ℕ) → after ≡ clipped dst len (take (n - i) (drop i src))
          → Gathering m label end src at old after n (len + (n - i)) (last_break broken (take (n - i) (drop i src)))
      passed after f =
          let size : length (take (n - i) (drop i src)) ≡ n - i =
          length-take-le (n - i) (drop i src) (omega (arith, length-drop i src, p.inside)) in
          let last = last_break broken (take (n - i) (drop i src)) in
          let text = run_on m label end src at i len broken g.text n p in
          let turn = gathered_run m label end src i n p in
          rw size at (onto (take (n - i) (drop i src)) after n last f turn (rw size text))

  -- a turn: the run from i to n, and the unit after it
  module _ (dst : List ℕ) (i len : ℕ) (broken : Bool) (g : Gathering m label end src at old dst i len broken)
      (n : ℕ) (p : RunEnd (is_plain m) src i n)
      (run : List ℕ) (f : run ≡ clipped dst len (take (n - i) (drop i src))) where
    there : Gathering m label end src at old run n (len + (n - i)) (last_break broken (take (n - i) (drop i src)))
    there = passed dst i len broken g n p run f

    pub gathering_past : (r : Scanned) → length src ≤ n → r ≡ unclosed end n → Reads m src label at end old r run
    gathering_past = gathering_end run n (len + (n - i)) _ there

    module _ (h : n < length src) (u : TextUnit) (e : u ≡ unit_at m label end n (get_or src n 0) (drop (n + 1) src)) where
      pub gathering_stop : (last : Bool) (r : Scanned) → length (bytes_of u) ≡ 0
          → last ≡ last_break broken (take (n - i) (drop i src))
          → r ≡ ended m (len + (n - i)) last u → Reads m src label at end old r run
      gathering_stop last r z l k =
          over run n (len + (n - i)) _ there r (gathered_stop m label end src n h u e z)
          (k ∙ rw l (unit_stop m label end src at n (len + (n - i)) _ there.text h u e z))

      module _ (x : Piece) (q : IsPiece u x) where
        some : length (bytes_of u) ≡ 0 → ⊥
        some z = omega (arith, z, q.width, q.some)

        unit : TextInside n (length src) (length (bytes_of u)) (after_of u)
        unit = unit_text m label end src n h u e some

        pub gathering_less : length src - x.after < length src - i
        gathering_less = omega (arith, q.after, unit.on, unit.inside, run_after m label end src i n p)

        pub gathering_on : (after : List ℕ) → after ≡ clipped run (len + (n - i)) (bytes_of u)
            → Gathering m label end src at old after x.after (len + (n - i) + x.width) x.broken
        gathering_on after a =
            let on = unit_on m label end src at n (len + (n - i)) _ there.text h u e some in
            let turn = gathered_unit m label end src n h u e some unit.on in
            rw (q.after, q.broken, q.width)
            (onto run n (len + (n - i)) _ there (bytes_of u) after (after_of u) (is_break u) a turn on)

pub gathering_writable : (m : Mode) (label : List ℕ) (end : Bool) (src : List ℕ) (n : ℕ) (u : TextUnit) → n < length src
    → u ≡ unit_at m label end n (get_or src n 0) (drop (n + 1) src) → is_writable u
gathering_writable m label end src n u h e = unit_writable m label end src n h u e

pub ruleset gathering = (
  gathering_first,
  gathering_here,
  gathering_end,
  gathering_order,
  gathering_room,
  gathering_past,
  gathering_stop,
  gathering_less,
  gathering_on,
  gathering_writable,
)

-- a label that is looked for
pub searched_facts : (label : List ℕ) → length label ≤ 64 → is_searched Mode.Nowdoc label ≡ true → Searchable label
unfolding is_searched
searched_facts [] short e = absurd (false≢true e)
searched_facts (b ∷ rest) short e =
    record { some = omega arith; short = short; unbroken = eqb-false b 10 (not-true (eqb b 10) e) }

-- the scan: a part that is read into, or left as it is
pub unsearched : (m : Mode) (label : List ℕ) → (m ≡ Mode.Nowdoc → ⊥) → is_searched m label ≡ false
unfolding is_searched
unsearched Mode.Single label z = refl
unsearched (Mode.Double octals) label z = refl
unsearched (Mode.DoubleQuote octals) label z = refl
unsearched Mode.ShellExec label z = refl
unsearched (Mode.Heredoc octals) label z = refl
unsearched Mode.Nowdoc label z = absurd (z refl)

module _ (m : Mode) (src label : List ℕ) (at : ℕ) (end : Bool) (dst : List ℕ) (r : Scanned) where
  pub scans_read : (after : List ℕ) → is_searched m label ≡ false → Reads m src label at end dst r after
      → Scans m src label at end dst r after
  scans_read after e p = record { told = p.told; held = p.held ∙ rw e }

  pub scans_label : is_searched m label ≡ true → r ≡ measured (text_at m label end at (drop at src))
      → Scans m src label at end dst r dst
  scans_label e told = record { told = told; held = rw e }
