-- The sheet reading of a nowdoc block (document 01, "Sheet reading", with request P1), from the cursor on, which counts as a
-- line's start. n is the place of what is left, `end` says that the text is all there.
--   closing_label   the label, and then no identifier byte: another byte, or the announced end
--   line_kind       what a line is to the block: blanks and then such a label close it
--   block           the lines before the closing line, its indentation and where its label stands; no such line is 1,
--                   at the source's end
--   sheet_at        what contracts cite: a mixed indentation is 4, at the label, before any 13; the indentation comes
--                   off each earlier line; the last break goes
use Rattle.std.specs.Prelude.{ℕ, suc, ◌+◌, Bool, true, List, [], ◌∷◌, ◌≡◌, refl, eqb, length, if◌then◌else◌}
use Prim.Native.Char.{code}
use Rattle.byte.specs.declared.Refusal.{Refusal}
use Rattle.byte.specs.Refusals.{unexpected_end_of_file, invalid_doc_indentation, stray_indentation}
use Rattle.byte.specs.Words.{run, bytes}
use Rattle.byte.specs.Bytes.{is_blank, is_identifier}
use Rattle.unit.specs.declared.Indentation.{Indentation}
use Rattle.unit.specs.declared.Match.{Match}
use Rattle.unit.specs.declared.Stop.{Stop}
use Rattle.unit.specs.Closers.{indented}
use Rattle.unit.specs.Readings.{Reading}
use Rattle.sheet.specs.declared.Line.{Line}
use Rattle.sheet.specs.Bodies.{Text, Kept, Stray, lines, in_front, is_break, is_over, unindented, followed, body_text, unbroken}

-- the label against what is left of a line after its blanks
unfoldable pub closing_label : List ℕ → Bool → List ℕ → Match
closing_label [] end [] = if end then Match.Whole else Match.Undecided
closing_label [] end (b ∷ rest) = if is_identifier b then Match.Other else Match.Whole
closing_label (a ∷ label) end [] = Match.Undecided
closing_label (a ∷ label) end (b ∷ rest) = if eqb a b then closing_label label end rest else Match.Other

-- what it makes of the line
unfoldable pub judged_line : Match → Bool → Indentation → ℕ → Line
judged_line Match.Whole end ind amount = Line.Closes ind amount
judged_line Match.Other end ind amount = Line.Body
judged_line Match.Undecided end ind amount = if end then Line.Body else Line.Undecided

-- after so many blanks
unfoldable pub line_kind : List ℕ → Bool → Indentation → ℕ → List ℕ → Line
line_kind label end ind amount [] = judged_line (closing_label label end []) end ind amount
line_kind label end ind amount (b ∷ rest) =
    if is_blank b then line_kind label end (indented ind b) (suc amount) rest
    else judged_line (closing_label label end (b ∷ rest)) end ind amount

pub data Block : Type 0 where
  Closed : List (List ℕ) → Indentation → ℕ → ℕ → Block
  Missing : ℕ → Block
  Open : Block

-- a line of the body before what follows it
unfoldable pub with_line : List ℕ → Block → Block
with_line line (Closed body ind amount place) = Closed (line ∷ body) ind amount place
with_line line (Missing place) = Missing place
with_line line Open = Open

unfoldable pub told : Line → ℕ → List ℕ → Block → Block
told (Line.Closes ind amount) n line later = Closed [] ind amount (n + amount)
told Line.Body n line later = with_line line later
told Line.Undecided n line later = Open

unfoldable pub block : List ℕ → Bool → ℕ → List (List ℕ) → Block
block label end n [] = if end then Missing n else Open
block label end n (line ∷ more) =
    told (line_kind label end Indentation.None 0 line) n line (block label end (n + length line) more)

unfoldable pub filled : Text → Indentation → ℕ → ℕ → ℕ → Reading
filled (Kept text) ind amount place after = Reading.Text (unbroken text) (Stop.Label ind amount) place after
filled (Stray p) ind amount place after = Reading.Refused stray_indentation p

-- the lines of a body that starts at n, after which the label stands
unfoldable pub stripped : ℕ → ℕ → List (List ℕ) → Indentation → ℕ → ℕ → Reading
stripped size n body Indentation.None amount place =
    filled (body_text (record { blank = code " "; width = 0 }) n body) Indentation.None amount place (place + size)
stripped size n body Indentation.Space amount place =
    filled (body_text (record { blank = code " "; width = amount }) n body) Indentation.Space amount place (place + size)
stripped size n body Indentation.Tab amount place =
    filled (body_text (record { blank = code "\t"; width = amount }) n body) Indentation.Tab amount place (place + size)
stripped size n body Indentation.Mixed amount place = Reading.Refused invalid_doc_indentation place

unfoldable pub answered : ℕ → ℕ → Block → Reading
answered size n (Closed body ind amount place) = stripped size n body ind amount place
answered size n (Missing place) = Reading.Refused unexpected_end_of_file place
answered size n Open = Reading.Wait

unfoldable pub sheet_at : List ℕ → Bool → ℕ → List ℕ → Reading
sheet_at label end n xs = answered (length label) n (block label end n (lines xs))

-- worked sheets o and p
sheet_o : sheet_at (bytes "EOT") true 0 (bytes "  ab\n   c\n\n  EOT")
    ≡ Reading.Text (bytes "ab\n c\n") (Stop.Label Indentation.Space 2) 13 16
unfolding sheet_at answered stripped filled block told with_line line_kind judged_line closing_label indented is_blank body_text
    followed unindented unbroken is_over is_break lines in_front run bytes
sheet_o = refl

sheet_p : sheet_at (bytes "EOT") true 0 (bytes " a\n  EOT") ≡ Reading.Refused Refusal.StrayIndentation 1
unfolding sheet_at answered stripped filled block told with_line line_kind judged_line closing_label indented is_blank body_text
    followed unindented is_over is_break lines in_front run bytes
sheet_p = refl
