-- Where pieces stand that were put: the records from the list's mark on, the values from the pool's, and nothing else changes. Assumes
-- nothing.
use Prim.Native.Nat.{ℕ, ◌+◌, ◌*◌, ◌/◌, ◌≤◌}
use mathlib.Core.Path.{◌≡◌, refl, sym, ◌∙◌}
use mathlib.Core.List.{List, [], ◌∷◌}
use native.Mathlib.Omega.{arith}
use lib.Dec.{leb}
use lib.ListN.{length, length-append}
use borrow.Author.Tests.{leb-true}
use Rattle.std.specs.Prelude.{Ok}
use Rattle.byte.specs.Laid.{laid}
use Rattle.byte.proofs.Tests.{unrefused}
use Rattle.byte.proofs.Laid.{laid_nil, laid_append, length_laid}
use Rattle.token.specs.Records.{record_of, room_refusal}
use Rattle.outcome.specs.Outcomes.{Piece, values}
use Rattle.commit.specs.declared.Mark.{Mark}
use Rattle.commit.specs.Records.{token_of, Tables, put_piece, past_piece, put, records}

-- there is room
pub room_facts : (list pool tokens bytes count len : ℕ) → room_refusal list pool tokens bytes count len ≡ Ok tt
    → (tokens + count ≤ list / 8) × (bytes + len ≤ pool)
unfolding room_refusal
room_facts list pool tokens bytes count len e =
    let first = unrefused (leb (tokens + count) (list / 8)) _ _ e in
    let second = unrefused (leb (bytes + len) pool) _ _ first.1 in
    (leb-true _ _ first.0, leb-true _ _ second.0)

pub records_length : (src : List ℕ) (after : ℕ) (m : Mark) (pieces : List Piece)
    → length (records src after m pieces) ≡ length pieces * 8
unfolding records
records_length src after m [] = refl
records_length src after m (piece ∷ more) =
    let later = records_length src after (past_piece m piece) more in
    omega (arith, later)

pub put_laid : (src : List ℕ) (after : ℕ) (pieces : List Piece) (m : Mark) (t : Tables)
    → m.tokens + length pieces ≤ length t.list / 8 → m.bytes + length (values pieces) ≤ length t.pool
    → ((put src after m t pieces).list ≡ laid t.list (m.tokens * 8) (records src after m pieces))
    × ((put src after m t pieces).pool ≡ laid t.pool m.bytes (values pieces))
unfolding put records values
put_laid src after [] m t places room =
    (sym (laid_nil t.list (m.tokens * 8)), sym (laid_nil t.pool m.bytes))
put_laid src after (piece ∷ more) m t places room =
    let first = record_of (token_of src after m piece) in
    let others = records src after (past_piece m piece) more in
    let all = length-append piece.value (values more) in
    let list = length_laid t.list (m.tokens * 8) first (omega (arith, places)) in
    let pool = length_laid t.pool m.bytes piece.value (omega (arith, room, all)) in
    let later =
    put_laid src after more (past_piece m piece) (put_piece src after m t piece) (omega (arith, places, list))
    (omega (arith, room, all, pool)) in
    let size = records_length src after (past_piece m piece) more in (
      later.0 ∙ laid_append t.list (m.tokens * 8) ((m.tokens + 1) * 8) first others (omega arith) (omega (arith, places, size)),
      later.1 ∙ laid_append t.pool m.bytes _ piece.value (values more) refl (omega (arith, room, all)),
    )

-- so both keep their lengths
pub put_length : (src : List ℕ) (after : ℕ) (pieces : List Piece) (m : Mark) (t : Tables)
    → m.tokens + length pieces ≤ length t.list / 8 → m.bytes + length (values pieces) ≤ length t.pool
    → (length (put src after m t pieces).list ≡ length t.list)
    × (length (put src after m t pieces).pool ≡ length t.pool)
put_length src after pieces m t places room =
    let laid_so = put_laid src after pieces m t places room in
    let size = records_length src after m pieces in (
      rw laid_so.0 (length_laid t.list (m.tokens * 8) _ (omega (arith, places, size))),
      rw laid_so.1 (length_laid t.pool m.bytes _ room),
    )
