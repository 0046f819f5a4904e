-- The body of a sheet block, told over its lines (document 01, "Sheet reading").
--   lines        the lines of a text, each with its break, LF or CRLF; the last may have none
--   is_over      nothing is left of a line, or only its break
--   unindented   what is left of one line, or where its first stray byte stands
--   body_text    what is left of all lines, the first stray byte first
--   unbroken     a text without its last break
use Rattle.std.specs.Prelude.{ℕ, ◌+◌, Bool, true, false, ◌&&◌, ◌||◌, List, [], ◌∷◌, ◌++◌, ◌≡◌, refl, leb, eqb, length, drop, if◌then◌else◌}
use Rattle.byte.specs.Words.{◌is◌, run, bytes}
-- a closing line's indentation: which byte, and how many
pub use Rattle.sheet.specs.declared.Indent.{Indent}

-- what is left, or the place of the first stray byte
pub data Text : Type 0 where
  Kept : List ℕ → Text
  Stray : ℕ → Text

-- a byte in front of the first line
unfoldable pub in_front : ℕ → List (List ℕ) → List (List ℕ)
in_front b [] = (b ∷ []) ∷ []
in_front b (line ∷ more) = (b ∷ line) ∷ more

unfoldable pub lines : List ℕ → List (List ℕ)
lines [] = []
lines (b ∷ rest) = if b is "\n" then (b ∷ []) ∷ lines rest else in_front b (lines rest)

unfoldable pub is_break : List ℕ → Bool
is_break [] = false
is_break (b ∷ rest) = b is "\n"

unfoldable pub is_over : List ℕ → Bool
is_over [] = true
is_over (b ∷ rest) = b is "\n" || (b is "\r" && is_break rest)

-- a line at n: its indentation comes off; one that is over before keeps its break alone; any other byte there is stray
unfoldable pub unindented : Indent → ℕ → List ℕ → Text
unindented ind n line =
    let blanks = run (eqb ind.blank) line in
    if leb ind.width blanks then Kept (drop ind.width line)
    else if is_over (drop blanks line) then Kept (drop blanks line)
    else Stray (n + blanks)

unfoldable pub followed : Text → Text → Text
followed (Kept x) (Kept y) = Kept (x ++ y)
followed (Kept x) (Stray p) = Stray p
followed (Stray p) later = Stray p

unfoldable pub body_text : Indent → ℕ → List (List ℕ) → Text
body_text ind n [] = Kept []
body_text ind n (line ∷ more) = followed (unindented ind n line) (body_text ind (n + length line) more)

unfoldable pub unbroken : List ℕ → List ℕ
unbroken [] = []
unbroken (b ∷ []) = if b is "\n" then [] else b ∷ []
unbroken (b ∷ c ∷ []) = if b is "\r" && c is "\n" then [] else b ∷ unbroken (c ∷ [])
unbroken (b ∷ c ∷ d ∷ rest) = b ∷ unbroken (c ∷ d ∷ rest)

-- worked sheet o, before the closing line, and p
two_spaces : Indent
two_spaces = record { blank = 32; width = 2 }

sheet_o : body_text two_spaces 0 (lines (bytes "  ab\n   c\n\n")) ≡ Kept (bytes "ab\n c\n\n")
unfolding body_text followed unindented is_over is_break lines in_front run bytes two_spaces
sheet_o = refl

sheet_p : body_text two_spaces 0 (lines (bytes " a\n")) ≡ Stray 1
unfolding body_text followed unindented is_over is_break lines in_front run bytes two_spaces
sheet_p = refl
