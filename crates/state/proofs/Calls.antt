-- What `skip` asks on its way past an open gate. Assumes nothing.
use Prim.Native.Nat.{ℕ, ◌+◌, ◌-◌, ◌≤◌}
use Rattle.byte.specs.declared.Refusal.{Refusal}
use mathlib.Core.Path.{◌≡◌, sym, ◌∙◌}
use mathlib.Core.List.{List}
use native.Mathlib.Omega.{arith}
use lib.ListN.{length, take, drop, length-take, length-drop}
use borrow.Author.Tests.{le-leb}
use Rattle.std.specs.Prelude.{Result, Ok}
use Rattle.source.specs.Cursor.{passed}
use Rattle.source.specs.Code.{Reaches}
use Rattle.source.specs.declared.Span.{Span}
use Rattle.state.specs.declared.Session.{Session}
use Rattle.state.specs.Gates.{gate_refusal}
use Rattle.state.proofs.Gates.{gate_opened}
use Rattle.state.specs.Calls.{span_of, done, moved, skipped}

-- what an open gate tells `skip`
module _ (src : List ℕ) (s : Session) (shut : Result (Unit {0}) Refusal) (e : shut ≡ gate_refusal src s) (opened : shut ≡ Ok tt) where
  pub open_position : s.position ≤ length src
  open_position = (gate_opened src s (sym e ∙ opened)).numbers.position

  pub open_end : (count : ℕ) → count ≤ length src - s.position → s.position + count ≤ length src
  open_end count h = omega (arith, open_position)

  pub open_reaches : (q : Span) (n at : ℕ) → q ≡ span_of s → Reaches q (length (take n (drop at src)))
  open_reaches q n at here =
      let o = gate_opened src s (sym e ∙ opened) in
      let h : length (take n (drop at src)) ≤ length src = simp (length-take, length-drop) (omega arith) in
      rw here
      (record {
        line = omega (arith, o.source, o.numbers.position, o.numbers.line_high);
        column = omega (arith, o.source, o.numbers.position, o.numbers.column_high);
        position = omega (arith, o.source, o.numbers.position);
      })

  pub skip_done : (count n : ℕ) (p q : Span) → count ≤ length src - s.position → n ≡ s.position + count - s.position → q ≡ span_of s → p ≡ passed q (take n (drop s.position src)) → done (moved s p) ≡ skipped src s count
  unfolding skipped
  skip_done count n p q h m here a =
      let k : n ≡ count = omega arith in
      let i : s.position ≤ length src = open_position in
      rw (← e, opened, a, here, k, le-leb (s.position + count) (length src) (omega arith))

pub ruleset skipping = (open_position, open_end, open_reaches, skip_done)
