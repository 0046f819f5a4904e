-- The cursor's way over bytes (document 01, "Cursor"): position from 0, line and column from 1.
--   passed_byte   past one byte: LF adds a line and sets column 1, every other byte adds a column
--   passed        past each byte of a list
-- The code counts: it finds the start of the last line and counts the LFs before; `Passed-lines` (proofs/Counts.antt) says
-- that this gives the same.
use Rattle.std.specs.Prelude.{ℕ, ◌+◌, List, [], ◌∷◌, ◌≡◌, refl, if◌then◌else◌}
use Rattle.byte.specs.Words.{◌is◌, bytes}
use Rattle.source.specs.declared.Span.{Span}

-- where a script begins
abbrev pub origin : Span
origin = record { line = 1; column = 1; position = 0 }

unfoldable pub passed_byte : Span → ℕ → Span
passed_byte p b =
    if b is "\n" then record { line = p.line + 1; column = 1; position = p.position + 1 }
    else record { line = p.line; column = p.column + 1; position = p.position + 1 }

unfoldable pub passed : Span → List ℕ → Span
passed p [] = p
passed p (b ∷ rest) = passed (passed_byte p b) rest

-- a break and two bytes on
second_line : passed origin (bytes "a\nbc") ≡ record { line = 2; column = 3; position = 4 }
unfolding passed passed_byte bytes
second_line = refl
