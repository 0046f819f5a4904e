-- The gate on each way through `gate`, and through the gate with tables (crate layout). Assumes nothing.
--   gate_same   frames past the 64 places change nothing
use Rattle.std.specs.Prelude.{Result, Ok, Err, if◌then◌else◌}
use Prim.Native.Nat.{ℕ, zero, suc, ◌+◌, ◌/◌, ◌≤◌, ◌<◌}
use Rattle.byte.specs.declared.Refusal.{Refusal}
use mathlib.Core.Path.{◌≡◌, refl, sym, ◌∙◌}
use mathlib.Core.Bool.{Bool, true, false, ◌&&◌}
use mathlib.Core.List.{List}
use native.Mathlib.Omega.{arith}
use lib.ListN.{length, get_or}
use borrow.Author.Tests.{leb-true, le-leb, lt-leb}
use Rattle.std.specs.List.{list_all, range_with_len}
use Rattle.source.specs.declared.Span.{Span}
use Rattle.byte.specs.Refusals.{too_large, bad_session}
use Rattle.byte.proofs.Tests.{&&-left, &&-right, unrefused}
use Rattle.state.specs.declared.Frame.{Frame}
use Rattle.state.specs.declared.Session.{Session}
use Rattle.state.specs.Bounds.{is_frame, no_slot, are_frames, are_within, is_within, is_stack, is_good, fits_tables}
use Rattle.state.proofs.Bounds.{Within, is_within_facts, frames_stack}
use Rattle.state.specs.Calls.{span_of}
use Rattle.state.specs.Gates.{checked, source_fits, tables_fit, gate_over, gate_refusal, lent_refusal}

pub gate_depth : (size : ℕ) (p : Span) (depth : ℕ) (within : Bool) → within ≡ are_within size p depth
    → within ≡ true → depth ≤ 64
gate_depth size p depth within e t =
    leb-true _ _ (&&-right _ _ (&&-left _ _ (&&-left _ _ (&&-left _ _ (&&-left _ _ (sym e ∙ t))))))

module _ (src : List ℕ) (p : Span) (depth : ℕ) (frame : ℕ → Frame) where
  pub gate_large : 65536 < length src → Err too_large ≡ gate_over src p depth frame
  unfolding gate_over source_fits
  gate_large h = rw (lt-leb (length src) 65536 h)

  module _ (h : length src ≤ 65536) (within : Bool) (w : within ≡ are_within (length src) p depth) where
    pub gate_numbers : within ≡ false → Err bad_session ≡ gate_over src p depth frame
    unfolding gate_over source_fits
    gate_numbers t =
        let no : are_within (length src) p depth ≡ false = sym w ∙ t in
        rw (le-leb (length src) 65536 h, no)

    module _ (t : within ≡ true) (frames : Bool) (f : frames ≡ are_frames src depth frame) where
      looked_at : gate_over src p depth frame ≡ (if frames then Ok tt else Err bad_session)
      unfolding gate_over source_fits
      looked_at =
          let yes : are_within (length src) p depth ≡ true = sym w ∙ t in
          rw (le-leb (length src) 65536 h, yes, ← f)

      pub gate_frames : frames ≡ false → Err bad_session ≡ gate_over src p depth frame
      gate_frames u = rw (looked_at, u)

      pub gate_open : frames ≡ true → Ok tt ≡ gate_over src p depth frame
      gate_open u = rw (looked_at, u)

pub ruleset gates = (gate_large, gate_numbers, gate_frames, gate_open)

-- frames told in two ways, the first 64 alike
module _ (src : List ℕ) (f g : ℕ → Frame) (same : (i : ℕ) → i < 64 → f i ≡ g i) where
  frames_same : (from n : ℕ) → from + n ≤ 64
      → list_all (λ i. is_frame src (f i)) (range_with_len from n)
      ≡ list_all (λ i. is_frame src (g i)) (range_with_len from n)
  frames_same from zero h = refl
  frames_same from (suc n) h = rw (same from (omega arith), frames_same (from + 1) n (omega arith))

  -- the gate is the same: it asks for no others
  pub gate_same : (p : Span) (depth : ℕ) → gate_over src p depth f ≡ gate_over src p depth g
  unfolding gate_over are_frames
  gate_same p depth = go (are_within (length src) p depth) refl
    where
      go : (within : Bool) → within ≡ are_within (length src) p depth
          → gate_over src p depth f ≡ gate_over src p depth g
      go false e = rw (← e)
      go true e =
          let deep : 0 + depth ≤ 64 = omega (arith, gate_depth (length src) p depth true e refl) in
          rw (← e, same 0 (omega arith), frames_same 0 depth deep)

-- the gate of a session is the gate of its numbers and its frames
pub gate_session : (src : List ℕ) (s : Session) (p : Span) → p ≡ span_of s → gate_over src p s.depth (λ i. (get_or s.frames i no_slot).frame) ≡ gate_refusal src s
unfolding gate_over gate_refusal is_good is_within
gate_session src s p e = rw (e, frames_stack src s)

-- what an open gate tells
pub record Opened (src : List ℕ) (s : Session) : Type 0 where
  pub source : length src ≤ 65536
  pub numbers : Within (length src) s
  pub frames : is_stack src s ≡ true

module _ (src : List ℕ) (s : Session) where
  pub gate_opened : gate_refusal src s ≡ Ok tt → Opened src s
  unfolding gate_refusal source_fits is_good
  gate_opened e =
      let fits = unrefused (source_fits src) _ _ e in
      let good = (unrefused (is_good src s) _ _ fits.1).0 in
      record {
        source = leb-true _ _ fits.0;
        numbers = is_within_facts (length src) s (&&-left (is_within (length src) s) (is_stack src s) good);
        frames = &&-right (is_within (length src) s) (is_stack src s) good;
      }

-- a gate that is shut without tables is shut with them, and one that is open leaves the marks to be looked at
checked_shut : (fits good marks : Bool) (alone : Result (Unit {0}) Refusal) → alone ≡ checked fits good → (alone ≡ Ok tt → ⊥) → alone ≡ checked fits (good && marks)
checked_shut true true marks alone e n = absurd (n e)
checked_shut true false marks alone e n = e
checked_shut false good marks alone e n = e

checked_open : (fits good marks : Bool) (alone : Result (Unit {0}) Refusal) → alone ≡ checked fits good → alone ≡ Ok tt → checked fits (good && marks) ≡ (if marks then Ok tt else Err bad_session)
checked_open true true marks alone e z = refl
checked_open true false marks alone e z = cc
checked_open false good marks alone e z = cc

module _ (src : List ℕ) (list pool : ℕ) (s : Session) where
  pub lent_pool : 65536 < pool → Err too_large ≡ lent_refusal src list pool s
  unfolding lent_refusal tables_fit
  lent_pool h = rw (lt-leb pool 65536 h)

  module _ (p : pool ≤ 65536) where
    pub lent_list : 65537 < list / 8 → Err too_large ≡ lent_refusal src list pool s
    unfolding lent_refusal tables_fit
    lent_list h = rw (le-leb pool 65536 p, lt-leb (list / 8) 65537 h)

    module _ (l : list / 8 ≤ 65537) (alone : Result (Unit {0}) Refusal) (e : alone ≡ gate_refusal src s) where
      pub lent_shut : (alone ≡ Ok tt → ⊥) → alone ≡ lent_refusal src list pool s
      unfolding lent_refusal tables_fit gate_refusal
      lent_shut n = rw (le-leb pool 65536 p, le-leb (list / 8) 65537 l) (checked_shut (source_fits src) (is_good src s) (fits_tables list pool s) alone e n)

      lent_marks : alone ≡ Ok tt → lent_refusal src list pool s ≡ (if fits_tables list pool s then Ok tt else Err bad_session)
      unfolding lent_refusal tables_fit gate_refusal
      lent_marks z = rw (le-leb pool 65536 p, le-leb (list / 8) 65537 l) (checked_open (source_fits src) (is_good src s) (fits_tables list pool s) alone e z)

      module _ (z : alone ≡ Ok tt) where
        pub lent_tokens : list / 8 < s.tokens → Err bad_session ≡ lent_refusal src list pool s
        unfolding fits_tables
        lent_tokens h = sym (lent_marks z ∙ rw (lt-leb s.tokens (list / 8) h))

        module _ (t : s.tokens ≤ list / 8) where
          pub lent_bytes : pool < s.bytes → Err bad_session ≡ lent_refusal src list pool s
          unfolding fits_tables
          lent_bytes h = sym (lent_marks z ∙ rw (le-leb s.tokens (list / 8) t, lt-leb s.bytes pool h))

          pub lent_open : s.bytes ≤ pool → Ok tt ≡ lent_refusal src list pool s
          unfolding fits_tables
          lent_open h = sym (lent_marks z ∙ rw (le-leb s.tokens (list / 8) t, le-leb s.bytes pool h))

pub ruleset lent = (lent_pool, lent_list, lent_shut, lent_tokens, lent_bytes, lent_open)
