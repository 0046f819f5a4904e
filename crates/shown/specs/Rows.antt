-- The row in a record's eight numbers (document 01, "Token list").
use Rattle.std.specs.Prelude.{ℕ, List, get_or}
use Rattle.shown.specs.declared.Row.{Row}

abbrev pub row_of : List ℕ → Row
row_of numbers = record {
  kind = get_or numbers 0 0;
  detail = get_or numbers 1 0;
  span = record { line = get_or numbers 2 0; column = get_or numbers 3 0; position = get_or numbers 4 0 };
  start = get_or numbers 5 0;
  len = get_or numbers 6 0;
  end = get_or numbers 7 0;
}
