-- A token's record, and whether there is room for it (document 01, "Token list", refusals 7 and 8; document 02, P4).
--   record_of      its eight numbers: kind, detail, line, column, position, value start, value length, end
--   token_in       the token whose record is the one with this number in a list
--   room_refusal   7 for more tokens than places left, then 8 for more value bytes than pool left, or neither.
--                  The list has so many numbers, the pool so many bytes; both are filled up to their marks
use Rattle.std.specs.Prelude.{ℕ, Result, Ok, Err, ◌+◌, ◌*◌, ◌/◌, List, [], ◌∷◌, leb, get_or, if◌then◌else◌}
use Rattle.byte.specs.declared.Refusal.{Refusal}
use Rattle.byte.specs.Refusals.{list_full, pool_full}
use Rattle.token.specs.declared.Token.{Token}

abbrev pub record_of : Token → List ℕ
record_of t =
    t.kind ∷ t.detail ∷ t.span.line ∷ t.span.column ∷ t.span.position ∷ t.start ∷ t.len ∷ t.end ∷ []

abbrev pub token_in : List ℕ → ℕ → Token
token_in list i = record {
  kind = get_or list (i * 8) 0;
  detail = get_or list (i * 8 + 1) 0;
  span = record {
    line = get_or list (i * 8 + 2) 0;
    column = get_or list (i * 8 + 3) 0;
    position = get_or list (i * 8 + 4) 0;
  };
  start = get_or list (i * 8 + 5) 0;
  len = get_or list (i * 8 + 6) 0;
  end = get_or list (i * 8 + 7) 0;
}

unfoldable pub room_refusal : ℕ → ℕ → ℕ → ℕ → ℕ → ℕ → Result (Unit {0}) Refusal
room_refusal list pool tokens bytes count len =
    if leb (tokens + count) (list / 8) then (if leb (bytes + len) pool then Ok tt else Err pool_full) else Err list_full
