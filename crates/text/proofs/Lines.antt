-- The lines of a nowdoc: a break is text or ends it, and all other bytes stand for themselves. Assumes nothing.
use Prim.Native.Nat.{ℕ, suc, ◌+◌, ◌-◌, ◌<◌, ◌≤◌}
use mathlib.Core.Path.{◌≡◌, refl, sym, ◌∙◌}
use mathlib.Core.Bool.{Bool, true, false}
use mathlib.Core.List.{List, [], ◌∷◌}
use native.Mathlib.Omega.{arith}
use lib.ListN.{length, get_or, take, drop}
use borrow.Author.Tests.{ne_eqb}
use Rattle.byte.specs.Bytes.{is_blank, is_no_break}
use Rattle.source.specs.Code.{RunEnd}
use Rattle.byte.proofs.Tests.{choice, arm_here}
use Rattle.byte.proofs.Words.{drop-one}
use Rattle.unit.specs.declared.Indentation.{Indentation}
use Rattle.unit.specs.declared.Match.{Match}
use Rattle.unit.specs.declared.Mode.{Mode}
use Rattle.unit.specs.declared.Stop.{Stop}
use Rattle.unit.specs.declared.TextUnit.{TextUnit}
use Rattle.unit.specs.Interpolations.{plain}
use Rattle.unit.specs.Closers.{indented, closer, judged, line}
use Rattle.unit.specs.Units.{unit_at}
use Rattle.unit.specs.Readings.{Reading, Text, Refused, Wait, onto, collected, loses_break, text_at}
use Rattle.text.specs.declared.Scanned.{Scanned}
use Rattle.text.specs.Code.{is_plain, bytes_of, value_length, ended, unclosed, measured}
use Rattle.text.proofs.Runs.{run_after, run_turn, collected_byte}
use Rattle.text.proofs.Scans.{behind, Scanning, scanning_first, scanning_end, unit_stop, bytes_on}

-- a unit that is the break at n, where it is text at all
unfoldable TextBreak : ℕ → TextUnit → Type 0
TextBreak n u = (length (bytes_of u) ≡ 0 → ⊥) → u ≡ plain 10 n

closer_break : (n size : ℕ) (ind : Indentation) (amount p : ℕ) → TextBreak n (closer size ind amount p)
unfolding TextBreak closer bytes_of
closer_break n size Indentation.None amount p h = absurd (h refl)
closer_break n size Indentation.Space amount p h = absurd (h refl)
closer_break n size Indentation.Tab amount p h = absurd (h refl)
closer_break n size Indentation.Mixed amount p h = absurd (h refl)

judged_break : (m : Match) (end : Bool) (n : ℕ) (u : TextUnit) → TextBreak n u → TextBreak n (judged m end n u)
unfolding TextBreak judged bytes_of
judged_break Match.Whole end n u x = x
judged_break Match.Other end n u x = λ h. refl
judged_break Match.Undecided end n u x = choice (TextBreak n) end _ _ (λ e h. refl) (λ e h. absurd (h refl))

line-break : (label : List ℕ) (end : Bool) (n : ℕ) (ind : Indentation) (amount : ℕ) (xs : List ℕ)
    → TextBreak n (line label end n ind amount xs)
unfolding line
line-break label end n ind amount [] = judged_break _ end n _ (closer_break n _ ind amount _)
line-break label end n ind amount (b ∷ rest) =
    choice (TextBreak n) (is_blank b) _ _ (λ e. line-break label end n (indented ind b) (suc amount) rest)
    (λ e. judged_break _ end n _ (closer_break n _ ind amount _))

-- a nowdoc's value is its text, also where that ends in a break
nowdoc_length : (len : ℕ) (broken : Bool) (stop : Stop) → value_length Mode.Nowdoc len broken stop ≡ len
unfolding value_length loses_break
nowdoc_length len true stop = refl
nowdoc_length len false stop = refl

nowdoc_behind : (len : ℕ) (broken : Bool) (r : Reading) → behind Mode.Nowdoc len broken r ≡ behind Mode.Nowdoc len false r
unfolding behind
nowdoc_behind len broken (Text text stop from after) =
    rw (nowdoc_length (len + length text) _ stop, nowdoc_length (len + length text) _ stop)
nowdoc_behind len broken (Refused refusal place) = refl
nowdoc_behind len broken Wait = refl

-- all bytes of a nowdoc from `at` to i are text
pub record Lining (label : List ℕ) (end : Bool) (src : List ℕ) (at i : ℕ) : Type 0 where
  pub order : at ≤ i
  pub inside : i ≤ length src
  pub text : Scanning Mode.Nowdoc label end src at i (i - at) false

module _ (label : List ℕ) (end : Bool) (src : List ℕ) (at : ℕ) where
  -- the reading from i on
  abbrev from : ℕ → Reading
  from i = collected Mode.Nowdoc label end 0 i (drop i src)

  unbroken : (i len : ℕ) (broken : Bool) → Scanning Mode.Nowdoc label end src at i len broken
      → Scanning Mode.Nowdoc label end src at i len false
  unbroken i len broken s = record { inside = s.inside; small = s.small; same = s.same ∙ nowdoc_behind len broken _ }

  pub lining_first : at ≤ length src → Lining label end src at at
  lining_first h =
      let z : 0 ≡ at - at = omega arith in
      record { order = omega arith; inside = h; text = rw (← z) (scanning_first Mode.Nowdoc label end src at h) }

  module _ (i : ℕ) (s : Lining label end src at i) where
    pub lining_end : (r : Scanned) → length src ≤ i → r ≡ unclosed end i
        → r ≡ measured (text_at Mode.Nowdoc label end at (drop at src))
    lining_end = scanning_end Mode.Nowdoc label end src at i (i - at) false s.text

    pub lining_bytes : (n : ℕ) → i ≤ n → n ≤ length src → from i ≡ onto (take (n - i) (drop i src)) (from n)
        → Lining label end src at n
    lining_bytes n order inside e =
        let k : i - at + (n - i) ≡ n - at = omega (arith, s.order) in
        let on = bytes_on Mode.Nowdoc label end src at i (i - at) false s.text n order inside e in
        record { order = omega (arith, s.order); inside = inside; text = unbroken n (n - at) _ (rw k at on) }

    -- up to the next break
    pub lining_run : (n : ℕ) → RunEnd is_no_break src i n → Lining label end src at n
    unfolding is_plain
    lining_run n p =
        let order = run_after Mode.Nowdoc label end src i n p in
        lining_bytes n order p.inside (run_turn Mode.Nowdoc label end src i n p)

    module _ (h : i < length src) where
      -- a byte that is text
      byte_on : unit_at Mode.Nowdoc label end i (get_or src i 0) (drop (i + 1) src) ≡ plain (get_or src i 0) i
          → Lining label end src at (i + 1)
      byte_on e =
          let one : i + 1 - i ≡ 1 = omega arith in
          let next : suc i ≡ i + 1 = omega arith in
          let same = rw next at (collected_byte Mode.Nowdoc label end i (get_or src i 0) (drop (i + 1) src) e) in
          lining_bytes (i + 1) (omega arith) (omega arith) (rw (one, drop-one src i h) same)

      pub lining_other : (get_or src i 0 ≡ 10 → ⊥) → Lining label end src at (i + 1)
      unfolding unit_at
      lining_other z = byte_on (rw (ne_eqb (get_or src i 0) 10 z))

      module _ (break : get_or src i 0 ≡ 10) (u : TextUnit)
          (e : u ≡ line label end i Indentation.None 0 (drop (i + 1) src)) where
        unit : u ≡ unit_at Mode.Nowdoc label end i (get_or src i 0) (drop (i + 1) src)
        unfolding unit_at
        unit = arm_here u _ _ (get_or src i 0) 10 break e

        pub lining_stop : length (bytes_of u) ≡ 0
            → ended Mode.Nowdoc (i - at) false u ≡ measured (text_at Mode.Nowdoc label end at (drop at src))
        lining_stop z = unit_stop Mode.Nowdoc label end src at i (i - at) false s.text h u unit z

        pub lining_on : (length (bytes_of u) ≡ 0 → ⊥) → Lining label end src at (i + 1)
        unfolding TextBreak
        lining_on z =
            let text = line-break label end i Indentation.None 0 (drop (i + 1) src) (λ y. z (rw e y)) in
            byte_on (sym unit ∙ rw break (e ∙ text))
