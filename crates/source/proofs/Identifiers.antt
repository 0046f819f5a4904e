-- Where the identifier at a place ends, on each way through `identifier_end` and `peek_identifier`. Assumes nothing.
use mathlib.Core.Path.{◌≡◌, sym, ◌∙◌}
use mathlib.Core.Bool.{Bool, true, false, not}
use mathlib.Core.List.{List, []}
use Prim.Native.Nat.{ℕ, ◌+◌, ◌-◌, ◌<◌, ◌≤◌}
use native.Mathlib.Omega.{arith}
use lib.ListN.{length, get_or, take, drop, drop_of_length-le}
use borrow.Author.Tests.{not-true, not-false}
use Rattle.byte.specs.Bytes.{is_start, is_identifier}
use Rattle.source.specs.Identifiers.{identifier_length, identifier_at}
use Rattle.source.specs.Code.{RunEnd, IdentifierEnd}
use Rattle.byte.proofs.Words.{drop-one}

module _ (src : List ℕ) (at : ℕ) where
  pub identifier_end_past : at ≤ length src → length src ≤ at → IdentifierEnd src at at
  unfolding identifier_length
  identifier_end_past inside past = record { place = rw (drop_of_length-le src past) (omega arith); inside = inside }

  module _ (flag : Bool) (h : at < length src) (f : flag ≡ is_start (get_or src at 0)) where
    pub identifier_end_none : not flag ≡ true → IdentifierEnd src at at
    unfolding identifier_length
    identifier_end_none t = record { place = rw (drop-one src at h, ← f, not-true flag t) (omega arith); inside = omega arith }

    pub identifier_end_some : (r : ℕ) → not flag ≡ false → RunEnd is_identifier src (at + 1) r → IdentifierEnd src at r
    unfolding identifier_length
    identifier_end_some r t e = record { place = e.place ∙ rw (drop-one src at h, ← f, not-false flag t) (omega arith); inside = e.inside }

  pub identifier_at_past : length src < at → [] ≡ identifier_at src at
  unfolding identifier_at identifier_length
  identifier_at_past h =
      let past : length src ≤ at = omega arith in
      rw (drop_of_length-le src past)

  pub identifier_at_end : (r : ℕ) → IdentifierEnd src at r → take (r - at) (drop at src) ≡ identifier_at src at
  unfolding identifier_at
  identifier_at_end r e =
      let n : r - at ≡ identifier_length (drop at src) = omega (arith, e.place) in
      rw n

pub ruleset identifiers = (identifier_end_past, identifier_end_none, identifier_end_some, identifier_at_past, identifier_at_end)

-- one place is where a run ends, and where an identifier does
pub run_end_one : (test : ℕ → Bool) (src : List ℕ) (at r r' : ℕ) → RunEnd test src at r → RunEnd test src at r' → r ≡ r'
run_end_one test src at r r' e f = e.place ∙ sym f.place

pub identifier_end_one : (src : List ℕ) (at r r' : ℕ) → IdentifierEnd src at r → IdentifierEnd src at r' → r ≡ r'
identifier_end_one src at r r' e f = e.place ∙ sym f.place
