-- The exported functions on each way through them. Assumes nothing.
use Rattle.std.specs.Prelude.{Result, Ok, Err}
use Prim.Native.Nat.{ℕ, ◌≤◌, ◌<◌}
use mathlib.Core.Path.{◌≡◌, sym, ap, ◌∙◌}
use mathlib.Core.Bool.{Bool, true, false, not, ◌&&◌}
use mathlib.Core.List.{List, []}
use native.Mathlib.Omega.{arith}
use lib.Dec.{leb}
use lib.ListN.{length, set, drop, drop_of_length-le}
use lib.Seq.{sets-eq}
use borrow.Author.Tests.{le-leb, lt-leb, leb-true, eq-eqb, ne_eqb, not-true, not-false}
use Rattle.source.specs.Cursor.{passed}
use Rattle.source.specs.Code.{Reaches}
use Rattle.source.specs.declared.Span.{Span}
use Rattle.byte.proofs.Tests.{&&-left, &&-right}
use Rattle.byte.specs.declared.Refusal.{Refusal}
use Rattle.byte.specs.Refusals.{out_of_place, too_large, bad_session}
use Rattle.puretakoi.specs.Told.{told_number, Tells}
use Rattle.puretakoi.specs.Places.{span_in, numbers_of, is_small, past_refusal, past_numbers, Past}

module _ (part span : List ℕ) where
  pub past_large : 65536 < length part → Tells (past_refusal part span) (past_numbers part span) span (Err too_large) span
  unfolding past_refusal
  past_large h =
      let e : past_refusal part span ≡ Err too_large = rw (lt-leb (length part) 65536 h) in
      record { told = sym e; holds = rw e }

  module _ (p : length part ≤ 65536) where
    pub past_short : (length span ≡ 3 → ⊥) → Tells (past_refusal part span) (past_numbers part span) span (Err out_of_place) span
    unfolding past_refusal
    past_short h =
        let e : past_refusal part span ≡ Err out_of_place = rw (le-leb (length part) 65536 p, ne_eqb (length span) 3 h) in
        record { told = sym e; holds = rw e }

    module _ (n : length span ≡ 3) (flag : Bool) (f : flag ≡ is_small (span_in span)) where
      pub past_wild : not flag ≡ true → Tells (past_refusal part span) (past_numbers part span) span (Err bad_session) span
      unfolding past_refusal
      past_wild t =
          let e : past_refusal part span ≡ Err bad_session = rw (le-leb (length part) 65536 p, eq-eqb (length span) 3 n, ← f, not-true flag t) in
          record { told = sym e; holds = rw e }

      pub past_done : (to : Span) → not flag ≡ false → to ≡ passed (span_in span) part
          → Tells (past_refusal part span) (past_numbers part span) span (Ok tt) (set (set (set span 0 to.line) 1 to.column) 2 to.position)
      unfolding past_refusal
      past_done to t q =
          let e : past_refusal part span ≡ Ok tt = rw (le-leb (length part) 65536 p, eq-eqb (length span) 3 n, ← f, not-false flag t) in
          let short : length span ≤ 3 = omega arith in
          let none : drop 3 span ≡ [] = drop_of_length-le span short in
          let w : set (set (set span 0 to.line) 1 to.column) 2 to.position ≡ numbers_of to = sets-eq (numbers_of to) span 0 (omega arith) ∙ rw none in
          record { told = sym e; holds = w ∙ rw (e, q) }

  pub past_reaches : (from : Span) (flag : Bool) → length part ≤ 65536 → flag ≡ is_small from → not flag ≡ false → Reaches from (length part)
  unfolding is_small
  past_reaches from flag p f t =
      let l = leb from.line 65537 in
      let c = leb from.column 65537 in
      let q = leb from.position 65537 in
      let small : (l && c && q) ≡ true = sym f ∙ not-false flag t in
      let first = &&-left (l && c) q small in
      record {
        line = omega (arith, leb-true from.line 65537 (&&-left l c first));
        column = omega (arith, leb-true from.column 65537 (&&-right l c first));
        position = omega (arith, leb-true from.position 65537 (&&-right (l && c) q small));
      }

pub ruleset pasts = (past_large, past_short, past_wild, past_done, past_reaches)

-- and told as a number
pub past_told : (part span : List ℕ) (told : Result (Unit {0}) Refusal) (r : ℕ) (after : List ℕ)
    → Tells (past_refusal part span) (past_numbers part span) span told after → r ≡ told_number told → Past part span r after
past_told part span told r after t e = record { answer = e ∙ ap told_number t.told; holds = t.holds }

-- two results that meet one statement are equal
pub past_one : (part span : List ℕ) (r r' : ℕ) (after after' : List ℕ) → Past part span r after → Past part span r' after'
    → (r ≡ r') × (after ≡ after')
past_one part span r r' after after' f g = (f.answer ∙ sym g.answer, f.holds ∙ sym g.holds)
