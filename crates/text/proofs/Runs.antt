-- Runs of bytes that stand for themselves: each is its own unit, and a reading passes the whole run at once. Assumes nothing.
use Prim.Native.Nat.{ℕ, suc, ◌+◌, ◌-◌, ◌<◌, ◌≤◌}
use mathlib.Core.Path.{◌≡◌, refl, ap, ◌∙◌}
use mathlib.Core.Bool.{Bool, true, false}
use mathlib.Core.List.{List, [], ◌∷◌}
use native.Mathlib.Omega.{arith}
use native.Mathlib.Nat.{add-zero}
use lib.ListN.{length, get_or, take, drop, length-drop}
use lib.Seq.{get_or-drop, drop-drop}
use borrow.Author.Tests.{not-true}
use Rattle.byte.specs.Words.{◌is◌, run}
use Rattle.byte.specs.Bytes.{is_no_break}
use Rattle.source.specs.Code.{RunEnd}
use Rattle.byte.proofs.Tests.{choice, none_of}
use Rattle.unit.specs.declared.Mode.{Mode}
use Rattle.unit.specs.Interpolations.{plain}
use Rattle.unit.specs.Units.{unit_at}
use Rattle.unit.specs.Readings.{Reading, Text, Refused, Wait, onto, taken, after_of, collected}
use Rattle.text.specs.Code.{is_plain}

-- the unit of a byte that stands for itself
pub plain_unit : (m : Mode) (label : List ℕ) (end : Bool) (n b : ℕ) (rest : List ℕ) → is_plain m b ≡ true
    → unit_at m label end n b rest ≡ plain b n
unfolding unit_at is_plain is_no_break
plain_unit Mode.Single label end n b rest e =
    let h = none_of b 39 92 39 92 e in
    rw (h.first, h.second)
plain_unit (Mode.Double octals) label end n b rest e =
    let h = none_of b 34 92 36 123 e in
    rw (h.first, h.second, h.third, h.fourth)
plain_unit (Mode.DoubleQuote octals) label end n b rest e =
    let h = none_of b 34 92 36 123 e in
    rw (h.first, h.second, h.third, h.fourth)
plain_unit Mode.ShellExec label end n b rest e =
    let h = none_of b 96 36 123 96 e in
    rw (h.first, h.second, h.third)
plain_unit (Mode.Heredoc octals) label end n b rest e =
    let h = none_of b 10 92 36 123 e in
    rw (h.first, h.second, h.third, h.fourth)
plain_unit Mode.Nowdoc label end n b rest e = rw (not-true (b is "\n") e)

pub onto_nil : (r : Reading) → r ≡ onto [] r
unfolding onto
onto_nil (Text text stop from after) = refl
onto_nil (Refused refusal place) = refl
onto_nil Wait = refl

pub onto_cons : (b : ℕ) (vs : List ℕ) (r : Reading) → onto (b ∷ []) (onto vs r) ≡ onto (b ∷ vs) r
unfolding onto
onto_cons b vs (Text text stop from after) = refl
onto_cons b vs (Refused refusal place) = refl
onto_cons b vs Wait = refl

-- a reading is the run at its start, and the reading from after the run
module _ (m : Mode) (label : List ℕ) (end : Bool) where
  -- the reading from k bytes after n on
  abbrev from : ℕ → List ℕ → ℕ → Reading
  from n xs k = collected m label end 0 (n + k) (drop k xs)

  pub collected_byte : (n b : ℕ) (rest : List ℕ) → unit_at m label end n b rest ≡ plain b n
      → collected m label end 0 n (b ∷ rest) ≡ onto (b ∷ []) (collected m label end 0 (suc n) rest)
  unfolding collected taken after_of
  collected_byte n b rest e =
      let z : suc n - suc n ≡ 0 = omega arith in
      rw (e, z)

  collected_run : (n : ℕ) (xs : List ℕ)
      → collected m label end 0 n xs ≡ onto (take (run (is_plain m) xs) xs) (from n xs (run (is_plain m) xs))
  unfolding run
  collected_run n [] = rw (add-zero n) (onto_nil (collected m label end 0 n []))
  collected_run n (b ∷ rest) =
      choice Passed (is_plain m b) (suc (run (is_plain m) rest)) 0 (λ e. passed e (collected_run (suc n) rest))
      (λ e. rw (add-zero n) (onto_nil (collected m label end 0 n (b ∷ rest))))
    where
      Passed : ℕ → Type 0
      Passed k = collected m label end 0 n (b ∷ rest) ≡ onto (take k (b ∷ rest)) (from n (b ∷ rest) k)

      passed : is_plain m b ≡ true
          → collected m label end 0 (suc n) rest ≡ onto (take (run (is_plain m) rest) rest) (from (suc n) rest (run (is_plain m) rest))
          → Passed (suc (run (is_plain m) rest))
      passed e later =
          let k = run (is_plain m) rest in
          let p : suc n + k ≡ n + suc k = omega arith in
          collected_byte n b rest (plain_unit m label end n b rest e)
          ∙ ap (onto (b ∷ [])) later
          ∙ onto_cons b (take k rest) (from (suc n) rest k)
          ∙ ap (λ (j : ℕ). onto (b ∷ take k rest) (collected m label end 0 j (drop k rest))) p

  -- in a source
  module _ (src : List ℕ) (i n : ℕ) (p : RunEnd (is_plain m) src i n) where
    pub run_after : i ≤ n
    run_after = omega (arith, p.place)

    pub run_turn : collected m label end 0 i (drop i src) ≡ onto (take (n - i) (drop i src)) (collected m label end 0 n (drop n src))
    run_turn =
        let k : run (is_plain m) (drop i src) ≡ n - i = omega (arith, p.place) in
        let q : i + (n - i) ≡ n = omega (arith, run_after) in
        collected_run i (drop i src) ∙ rw (k, drop-drop (n - i) i src, q)

-- the byte after a run does not pass its test
run_stop : (test : ℕ → Bool) (xs : List ℕ) → run test xs < length xs → test (get_or xs (run test xs) 0) ≡ false
unfolding run
run_stop test [] = λ h. absurd (omega arith)
run_stop test (b ∷ rest) = choice Stopped (test b) (suc (run test rest)) 0 (λ e h. run_stop test rest (omega arith)) (λ e h. e)
  where
    Stopped : ℕ → Type 0
    Stopped k = k < suc (length rest) → test (get_or (b ∷ rest) k 0) ≡ false

pub run_end_stop : (test : ℕ → Bool) (src : List ℕ) (i n : ℕ) → RunEnd test src i n → n < length src → test (get_or src n 0) ≡ false
run_end_stop test src i n p h =
    rw (p.place, ← get_or-drop i src (run test (drop i src)) 0) (run_stop test (drop i src) (omega (arith, p.place, length-drop i src)))
