-- The bytes of a text on their way into a part: how far a part goes, a run, one unit, and the bytes gathered from a place
-- on, of which a value is a start (`value_gathered`). Assumes nothing.
use Rattle.std.specs.Prelude.{if◌then◌else◌}
use Prim.Native.Nat.{ℕ, zero, suc, ◌+◌, ◌-◌, ◌<◌, ◌≤◌, min}
use mathlib.Core.Path.{◌≡◌, refl, sym, ap, ◌∙◌}
use mathlib.Core.Bool.{Bool, true, false}
use mathlib.Core.List.{List, [], ◌∷◌, ◌++◌}
use native.Mathlib.Omega.{arith}
use native.Mathlib.Nat.{add-zero, min_comm}
use Rattle.std.proofs.lemmas.List.{take_min}
use lib.Dec.{leb}
use lib.ListN.{length, get_or, set, take, drop, length-append, length-take, drop_of_length-le}
use lib.Seq.{take_all, take-nil, take-length, take-take, take-append-le, take-append-add, drop-drop}
use borrow.Author.Tests.{leb-true, leb-false}
use Rattle.byte.specs.Words.{◌is◌, run}
use Rattle.source.specs.Code.{RunEnd}
use Rattle.byte.specs.Laid.{laid}
use Rattle.byte.proofs.Tests.{choice}
use Rattle.byte.proofs.Words.{drop-one}
use Rattle.byte.proofs.Laid.{laid_nil, laid_append, set_laid, length_laid, take_laid}
use Rattle.unit.specs.declared.Mode.{Mode}
use Rattle.unit.specs.declared.TextUnit.{TextUnit}
use Rattle.unit.specs.Digits.{utf8}
use Rattle.unit.specs.Interpolations.{plain}
use Rattle.unit.specs.Units.{unit_at}
use Rattle.unit.specs.Readings.{Reading, Text, Refused, Wait, onto, taken, after_of, collected, trimmed}
use Rattle.unit.specs.Readings.{loses_break, finished, text_at}
use Rattle.text.specs.Code.{is_plain, bytes_of, value_of, clipped, onward, gathered}
use Rattle.text.proofs.Runs.{plain_unit, run_after}
use Rattle.text.proofs.Scans.{utf8_some}

-- how far a part goes: not there, to the end of the bytes, or less far
module _ (dst : List ℕ) (at : ℕ) (vs : List ℕ) where
  pub clipped_past : length dst ≤ at → dst ≡ clipped dst at vs
  unfolding clipped
  clipped_past h =
      let z : length dst - at ≡ 0 = omega arith in
      sym (rw z (laid_nil dst at))

  clipped_whole : length vs ≤ length dst - at → laid dst at vs ≡ clipped dst at vs
  unfolding clipped
  clipped_whole h = sym (ap (laid dst at) (take_all (length dst - at) vs h))

  pub length_clipped : length (clipped dst at vs) ≡ length dst
  unfolding clipped
  length_clipped = go (leb (length dst) at) refl
    where
      go : (t : Bool) → leb (length dst) at ≡ t → length (laid dst at (take (length dst - at) vs)) ≡ length dst
      go true e = ap length (sym (clipped_past (leb-true (length dst) at e)))
      go false e =
          let fits : at + length (take (length dst - at) vs) ≤ length dst =
          rw (length-take (length dst - at) vs) (omega (arith, leb-false (length dst) at e)) in
          length_laid dst at (take (length dst - at) vs) fits

pub clipped_nil : (dst : List ℕ) (at : ℕ) → clipped dst at [] ≡ dst
unfolding clipped
clipped_nil dst at = rw (take-nil (length dst - at)) (laid_nil dst at)

-- what comes after them goes on where they end
pub clipped_append : (dst : List ℕ) (at : ℕ) (vs ws : List ℕ)
    → clipped (clipped dst at vs) (at + length vs) ws ≡ clipped dst at (vs ++ ws)
unfolding clipped
clipped_append dst at vs ws = go (leb (at + length vs) (length dst)) refl (length_clipped dst at vs)
  where
    go : (t : Bool) → leb (at + length vs) (length dst) ≡ t → length (clipped dst at vs) ≡ length dst
        → clipped (clipped dst at vs) (at + length vs) ws ≡ clipped dst at (vs ++ ws)
    go true e size =
        let h = leb-true (at + length vs) (length dst) e in
        let room : length dst - at ≡ length vs + (length dst - (at + length vs)) = omega (arith, h) in
        let whole : take (length dst - at) vs ≡ vs = take_all (length dst - at) vs (omega (arith, h)) in
        let all : take (length dst - at) (vs ++ ws) ≡ vs ++ take (length dst - (at + length vs)) ws =
        rw room (take-append-add vs ws (length dst - (at + length vs))) in
        let fits : at + length vs + length (take (length dst - (at + length vs)) ws) ≤ length dst =
        rw (length-take (length dst - (at + length vs)) ws) (omega (arith, h)) in
        rw (size, whole, all) (laid_append dst at (at + length vs) vs (take (length dst - (at + length vs)) ws) refl fits)
    go false e size =
        let h = leb-false (at + length vs) (length dst) e in
        let z : length dst - (at + length vs) ≡ 0 = omega (arith, h) in
        let start : take (length dst - at) (vs ++ ws) ≡ take (length dst - at) vs =
        take-append-le (length dst - at) vs ws (omega (arith, h)) in
        rw (size, z, start) (laid_nil (laid dst at (take (length dst - at) vs)) (at + length vs))

-- a run, as much of it as fits
pub run_put : (dst : List ℕ) (at : ℕ) (vs : List ℕ)
    → laid dst at (take (min (length vs) (length dst - at)) vs) ≡ clipped dst at vs
unfolding clipped
run_put dst at vs = ap (laid dst at) (rw (min_comm (length vs) (length dst - at)) (take_min (length dst - at) vs))

-- a byte
pub byte_put : (dst : List ℕ) (at value : ℕ) → at < length dst → set dst at value ≡ clipped dst at (value ∷ [])
byte_put dst at value h = set_laid dst at value h ∙ clipped_whole dst at (value ∷ []) (omega arith)

-- a code point, first in a part of four bytes
pub point_put : (code len : ℕ) (old point : List ℕ) → len ≡ length (utf8 code) → point ≡ laid old 0 (utf8 code)
    → take len point ≡ utf8 code
point_put code len old point n p = rw p (take_laid old (utf8 code) len n)

pub point_inside : (code len : ℕ) (old point : List ℕ) → len ≡ length (utf8 code) → point ≡ laid old 0 (utf8 code)
    → len ≤ length point
point_inside code len old point n p =
    omega (arith, n, ap length (point_put code len old point n p), length-take len point)

-- what a unit leaves to gather
onward_text : (u : TextUnit) (later : List ℕ) → (length (bytes_of u) ≡ 0 → ⊥) → onward u later ≡ bytes_of u ++ later
unfolding onward bytes_of
onward_text (TextUnit.Byte value after) later h = refl
onward_text (TextUnit.Point code after) later h = refl
onward_text (TextUnit.Ends stop from after) later h = absurd (h refl)
onward_text (TextUnit.Fault refusal place) later h = absurd (h refl)
onward_text TextUnit.Undecided later h = absurd (h refl)

onward_none : (u : TextUnit) (later : List ℕ) → length (bytes_of u) ≡ 0 → onward u later ≡ []
unfolding onward bytes_of
onward_none (TextUnit.Byte value after) later h = absurd (omega arith)
onward_none (TextUnit.Point code after) later h = absurd (omega (arith, utf8_some code))
onward_none (TextUnit.Ends stop from after) later h = refl
onward_none (TextUnit.Fault refusal place) later h = refl
onward_none TextUnit.Undecided later h = refl

-- what is gathered: a run and what comes from after it on; a unit and what comes from after it on
module _ (m : Mode) (label : List ℕ) (end : Bool) where
  abbrev from : ℕ → List ℕ → ℕ → List ℕ
  from n xs k = gathered m label end 0 (n + k) (drop k xs)

  gathered_skip : (k n : ℕ) (xs : List ℕ) → gathered m label end k n xs ≡ from n xs k
  unfolding gathered
  gathered_skip zero n [] = refl
  gathered_skip (suc k) n [] = refl
  gathered_skip zero n (b ∷ xs) = ap (λ (i : ℕ). gathered m label end 0 i (b ∷ xs)) (sym (add-zero n))
  gathered_skip (suc k) n (b ∷ xs) =
      let p : suc n + k ≡ n + suc k = omega arith in
      gathered_skip k (suc n) xs ∙ ap (λ (i : ℕ). gathered m label end 0 i (drop k xs)) p

  gathered_byte : (n b : ℕ) (rest : List ℕ) → unit_at m label end n b rest ≡ plain b n
      → gathered m label end 0 n (b ∷ rest) ≡ b ∷ gathered m label end 0 (suc n) rest
  unfolding gathered onward after_of
  gathered_byte n b rest e =
      let z : suc n - suc n ≡ 0 = omega arith in
      rw (e, z)

  gathered_plain : (n : ℕ) (xs : List ℕ)
      → gathered m label end 0 n xs ≡ take (run (is_plain m) xs) xs ++ from n xs (run (is_plain m) xs)
  unfolding run
  gathered_plain n [] = rw (add-zero n)
  gathered_plain n (b ∷ rest) =
      choice Passed (is_plain m b) (suc (run (is_plain m) rest)) 0 (λ e. passed e (gathered_plain (suc n) rest))
      (λ e. rw (add-zero n))
    where
      Passed : ℕ → Type 0
      Passed k = gathered m label end 0 n (b ∷ rest) ≡ take k (b ∷ rest) ++ from n (b ∷ rest) k

      passed : is_plain m b ≡ true
          → gathered m label end 0 (suc n) rest
          ≡ take (run (is_plain m) rest) rest ++ from (suc n) rest (run (is_plain m) rest)
          → Passed (suc (run (is_plain m) rest))
      passed e later =
          let k = run (is_plain m) rest in
          let p : suc n + k ≡ n + suc k = omega arith in
          gathered_byte n b rest (plain_unit m label end n b rest e)
          ∙ ap (λ (vs : List ℕ). b ∷ vs) (later ∙ ap (λ (j : ℕ). take k rest ++ gathered m label end 0 j (drop k rest)) p)

  -- in a source
  module _ (src : List ℕ) (i : ℕ) where
    pub gathered_past : length src ≤ i → gathered m label end 0 i (drop i src) ≡ []
    unfolding gathered
    gathered_past h = rw (drop_of_length-le src h)

    pub gathered_run : (n : ℕ) → RunEnd (is_plain m) src i n
        → gathered m label end 0 i (drop i src) ≡ take (n - i) (drop i src) ++ gathered m label end 0 n (drop n src)
    gathered_run n p =
        let k : run (is_plain m) (drop i src) ≡ n - i = omega (arith, p.place) in
        let q : i + (n - i) ≡ n = omega (arith, run_after m label end src i n p) in
        gathered_plain i (drop i src) ∙ rw (k, drop-drop (n - i) i src, q)

    module _ (h : i < length src) (u : TextUnit) (e : u ≡ unit_at m label end i (get_or src i 0) (drop (i + 1) src)) where
      pub gathered_stop : length (bytes_of u) ≡ 0 → gathered m label end 0 i (drop i src) ≡ []
      unfolding gathered
      gathered_stop z = rw (drop-one src i h, ← e) (onward_none u _ z)

      pub gathered_unit : (length (bytes_of u) ≡ 0 → ⊥) → i < after_of u
          → gathered m label end 0 i (drop i src) ≡ bytes_of u ++ gathered m label end 0 (after_of u) (drop (after_of u) src)
      unfolding gathered
      gathered_unit z on =
          let p : suc i + (after_of u - suc i) ≡ after_of u = omega arith in
          let q : i + 1 + (after_of u - suc i) ≡ after_of u = omega arith in
          let skip = gathered_skip (after_of u - suc i) (suc i) (drop (i + 1) src) in
          rw (drop-one src i h, ← e)
          (onward_text u _ z ∙ rw (skip, p, drop-drop (after_of u - suc i) (i + 1) src, q))

-- some bytes are a start of others
abbrev Starts : List ℕ → List ℕ → Type 0
Starts xs ys = xs ≡ take (length xs) ys

starts_fits : (xs ys : List ℕ) → Starts xs ys → length xs ≤ length ys
starts_fits xs ys e =
    let n : length xs ≡ length (take (length xs) ys) = ap length e in
    omega (arith, n, length-take (length xs) ys)

-- the text that a reading collected
unfoldable text_of : Reading → List ℕ
text_of (Text text stop from after) = text
text_of (Refused refusal place) = []
text_of Wait = []

trimmed_start : (text : List ℕ) → Starts (trimmed text) text
unfolding trimmed
trimmed_start [] = refl
trimmed_start (b ∷ []) = go (b is "\n")
  where
    go : (t : Bool) → Starts (if t then [] else b ∷ []) (b ∷ [])
    go true = refl
    go false = refl
trimmed_start (b ∷ c ∷ rest) = ap (λ (t : List ℕ). b ∷ t) (trimmed_start (c ∷ rest))

finished_start : (m : Mode) (r : Reading) → Starts (value_of (finished m r)) (text_of r)
unfolding finished value_of text_of
finished_start m (Text text stop from after) =
    choice (λ (vs : List ℕ). Starts vs text) (loses_break m stop) _ _
    (λ e. trimmed_start text) (λ e. sym (take-length text))
finished_start m (Refused refusal place) = refl
finished_start m Wait = refl

onto_start : (vs : List ℕ) (r : Reading) (later : List ℕ) → Starts (text_of r) later
    → Starts (text_of (onto vs r)) (vs ++ later)
unfolding onto text_of
onto_start vs (Text text stop from after) later h =
    rw (length-append vs text, take-append-add vs later (length text)) (ap (λ (t : List ℕ). vs ++ t) h)
onto_start vs (Refused refusal place) later h = refl
onto_start vs Wait later h = refl

taken_start : (u : TextUnit) (r : Reading) (later : List ℕ) → Starts (text_of r) later
    → Starts (text_of (taken u r)) (onward u later)
unfolding taken onward text_of
taken_start (TextUnit.Byte value after) r later h = onto_start (value ∷ []) r later h
taken_start (TextUnit.Point code after) r later h = onto_start (utf8 code) r later h
taken_start (TextUnit.Ends stop from after) r later h = refl
taken_start (TextUnit.Fault refusal place) r later h = refl
taken_start TextUnit.Undecided r later h = refl

module _ (m : Mode) (label : List ℕ) (end : Bool) where
  collected_start : (skip n : ℕ) (xs : List ℕ)
      → Starts (text_of (collected m label end skip n xs)) (gathered m label end skip n xs)
  unfolding collected gathered text_of
  collected_start skip n [] = choice (λ (r : Reading). Starts (text_of r) []) end _ _ (λ e. refl) (λ e. refl)
  collected_start (suc k) n (b ∷ rest) = collected_start k (suc n) rest
  collected_start zero n (b ∷ rest) =
      let u = unit_at m label end n b rest in
      taken_start u _ _ (collected_start (after_of u - suc n) (suc n) rest)

  -- a value is a start of what is gathered
  pub value_gathered : (at : ℕ) (xs : List ℕ)
      → value_of (text_at m label end at xs)
      ≡ take (length (value_of (text_at m label end at xs))) (gathered m label end 0 at xs)
  unfolding text_at
  value_gathered at xs =
      let r = collected m label end 0 at xs in
      let value = value_of (finished m r) in
      let start = finished_start m r in
      start
      ∙ ap (take (length value)) (collected_start 0 at xs)
      ∙ take-take (length value) (length (text_of r)) (gathered m label end 0 at xs) (starts_fits value (text_of r) start)
