-- Steps in a row that only pass bytes: the loop of `pass_on`. Assumes nothing.
--   near_passed   the cursor past bytes stays near its position
--   Running       the steps left end where all of them do, and the next can be asked
--   running       the ruleset of the loop
use Rattle.std.specs.Prelude.{if◌then◌else◌}
use Prim.Native.Nat.{ℕ, zero, suc, ◌+◌, ◌-◌, ◌<◌, ◌≤◌}
use mathlib.Core.Path.{◌≡◌, refl, sym, ◌∙◌}
use mathlib.Core.Bool.{Bool, true, false}
use mathlib.Core.List.{List, [], ◌∷◌}
use native.Mathlib.Omega.{arith}
use lib.Dec.{eqb}
use lib.ListN.{length, take, drop}
use borrow.Author.Tests.{eq-eqb, ne_eqb}
use Rattle.source.specs.Code.{Reaches}
use Rattle.source.specs.Cursor.{passed_byte, passed}
use Rattle.source.specs.declared.Span.{Span}
use Rattle.state.specs.declared.Frame.{Frame}
use Rattle.outcome.specs.declared.Call.{Call}
use Rattle.plan.specs.Code.{Here}
use Rattle.modes.specs.Code.{quick, quick_on, Near}
use Rattle.modes.proofs.Passes.{quick_passes}

near_byte : (p : Span) (b : ℕ) → Near p → Near (passed_byte p b)
unfolding passed_byte
near_byte p b h = go (eqb b 10)
  where
    go : (t : Bool)
        → Near (if t then record { line = p.line + 1; column = 1; position = p.position + 1 }
        else record { line = p.line; column = p.column + 1; position = p.position + 1 })
    go true = record { line = omega (arith, h.line); column = omega arith }
    go false = record { line = omega (arith, h.line); column = omega (arith, h.column) }

near_passed : (p : Span) (xs : List ℕ) → Near p → Near (passed p xs)
unfolding passed
near_passed p [] h = h
near_passed p (b ∷ xs) h = near_passed (passed_byte p b) xs (near_byte p b h)

pub record Running (call : Call) (src : List ℕ) (f : Frame) (p : Span) (most : ℕ) (span : Span) (left : ℕ) : Type 0 where
  pub same : quick_on call src f span left ≡ quick_on call src f p most
  pub here : Here src span.position
  pub near : Near span

module _ (call : Call) (src : List ℕ) (f : Frame) (p : Span) (most : ℕ) where
  pub running_first : Here src p.position × Near p → Running call src f p most p most
  running_first h = record { same = refl; here = h.0; near = h.1 }

  module _ (span : Span) (left : ℕ) (w : Running call src f p most span left) where
    pub running_reaches : Reaches span (length src)
    running_reaches = record {
      line = omega (arith, w.near.line, w.here.inside, w.here.short);
      column = omega (arith, w.near.column, w.here.inside, w.here.short);
      position = omega (arith, w.here.inside, w.here.short);
    }

    -- none is left
    pub running_end : left ≤ 0 → record { span = span; left = left } ≡ quick_on call src f p most
    unfolding quick_on
    running_end h =
        let z : left ≡ 0 = omega arith in
        rw z (rw z at w.same)

    module _ (next : Span) (h : 0 < left) (o : next ≡ quick call src f span) where
      one : quick_on call src f span left
          ≡ (if eqb next.position span.position then record { span = span; left = left }
          else quick_on call src f next (left - 1))
      unfolding quick_on
      one = rw o (go left h)
        where
          go : (m : ℕ) → 0 < m
              → quick_on call src f span m
              ≡ (if eqb (quick call src f span).position span.position then record { span = span; left = m }
              else quick_on call src f (quick call src f span) (m - 1))
          go zero k = absurd (omega arith)
          go (suc m) k =
              let less : suc m - 1 ≡ m = omega arith in
              rw less

      pub running_stop : next.position ≡ span.position
          → record { span = span; left = left - 1 + 1 } ≡ quick_on call src f p most
      running_stop e =
          let all : left - 1 + 1 ≡ left = omega arith in
          rw all (rw (eq-eqb _ _ e) at (sym one ∙ w.same))

      pub running_on : (next.position ≡ span.position → ⊥) → Running call src f p most next (left - 1)
      running_on n =
          let passes = quick_passes call src f span w.here.inside in
          let bytes = take ((quick call src f span).position - span.position) (drop span.position src) in
          record {
            same = rw (ne_eqb _ _ n) at (sym one ∙ w.same);
            here = record { inside = rw o passes.high; short = w.here.short };
            near = rw (o, passes.span) (near_passed span bytes w.near);
          }

pub ruleset running = (running_first, running_reaches, running_end, running_stop, running_on)
