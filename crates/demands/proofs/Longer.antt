-- A part and what comes after it: an outcome within the part makes the same of a session, for the part and for the longer source.
-- Assumes nothing.
--   settled_append   what an outcome comes to
--   gate_open        the gate, for a sound session and tables that are not too large
use Prim.Native.Nat.{ℕ, ◌+◌, ◌-◌, ◌/◌, ◌≤◌}
use mathlib.Core.Path.{◌≡◌, refl, ap}
use mathlib.Core.Bool.{true}
use mathlib.Core.List.{List, [], ◌∷◌, ◌++◌}
use native.Mathlib.Omega.{arith}
use lib.ListN.{length}
use borrow.Author.Tests.{le-leb}
use Rattle.std.specs.Prelude.{Ok}
use Rattle.source.specs.Cursor.{passed}
use Rattle.source.specs.declared.Span.{Span}
use Rattle.byte.proofs.Tests.{&&-both}
use Rattle.state.specs.declared.Session.{Session}
use Rattle.state.specs.Bounds.{fits_tables}
use Rattle.state.specs.Calls.{span_of}
use Rattle.state.specs.Gates.{lent_refusal, tables_fit, source_fits}
use Rattle.state.proofs.Longer.{good_append}
use Rattle.outcome.specs.Outcomes.{Piece, Outcome}
use Rattle.outcome.specs.Insides.{AllInside, Inside}
use Rattle.outcome.specs.Texts.{slice}
use Rattle.outcome.proofs.TextDemand.{slice_append}
use Rattle.commit.specs.Records.{span_at, Tables, put, reached}
use Rattle.lexer.specs.Turns.{settled}
use Rattle.demands.proofs.Good.{Sound}

module _ (part rest : List ℕ) where
  module _ (p : Span) (h : p.position ≤ length part) where
    span_at_append : (place : ℕ) → p.position ≤ place → place ≤ length part → span_at (part ++ rest) p place ≡ span_at part p place
    unfolding slice
    span_at_append place low k =
        let z : p.position - 0 ≡ p.position = omega arith in
        ap (passed p) (rw z at (slice_append 0 part rest p.position place (omega arith) low (omega arith)))

    put_append : (n after : ℕ) (pieces : List Piece) → p.position ≤ n → after ≤ length part → AllInside n after pieces
        → (tokens bytes : ℕ) (t : Tables)
        → put (part ++ rest) after (record { span = p; tokens = tokens; bytes = bytes }) t pieces
        ≡ put part after (record { span = p; tokens = tokens; bytes = bytes }) t pieces
    unfolding put
    put_append n after [] low k i tokens bytes t = refl
    put_append n after (piece ∷ more) low k i tokens bytes t =
        rw (span_at_append piece.place (omega (arith, i.0.low)) (omega (arith, i.0.high)))
        (put_append piece.place after more (omega (arith, i.0.low)) k i.1 (tokens + 1) (bytes + length piece.value) _)

  module _ (s : Session) (l q : List ℕ) (h : s.position ≤ length part) where
    pub settled_append : (o : Outcome) → Inside s.position (length part) o
        → settled (part ++ rest) s l q o ≡ settled part s l q o
    unfolding reached
    settled_append (Outcome.Told pieces after change finished) i =
        rw (
          span_at_append (span_of s) h after i.order i.inside,
          put_append (span_of s) h s.position after pieces (omega arith) i.inside i.all s.tokens s.bytes
              (record { list = l; pool = q }),
        )
    settled_append (Outcome.Refused refusal place) i = rw (span_at_append (span_of s) h place i.low i.high)
    settled_append Outcome.Wait i = refl

pub gate_open : (src : List ℕ) (list pool : ℕ) (s : Session) → Sound src list pool s → length src ≤ 65536
    → tables_fit list pool ≡ true → lent_refusal src list pool s ≡ Ok tt
unfolding lent_refusal source_fits fits_tables
gate_open src list pool s h short fit =
    let marks = &&-both _ _ (le-leb s.tokens (list / 8) h.tokens) (le-leb s.bytes pool h.bytes) in
    rw (fit, le-leb (length src) 65536 short, h.good, marks)

-- a session that is sound over a part is sound over a longer source
pub sound_append : (part rest : List ℕ) (list pool : ℕ) (s : Session) → Sound part list pool s → Sound (part ++ rest) list pool s
sound_append part rest list pool s h =
    record { good = good_append part rest s h.good; tokens = h.tokens; bytes = h.bytes }
