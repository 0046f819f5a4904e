-- The text of a nowdoc block as the PHP manual tells it ("Strings": "Heredoc", "Nowdoc"), from the line after the opening identifier on.
-- Held line by line to the facts of the manual that are known, not to its pages (docs/DECISIONS.md, 107). The text is all there.
--   Line, manual_lines   a line: its text and its break, LF or CRLF; the last may have none
--   blanks_of            the spaces and tabs that a text begins with
--   closes_at            the closing identifier of a line: after its blanks, and it ends where a name ends
--   is_pure              an indentation of spaces alone or of tabs alone
--   without              a line's text without the indentation: less of it, or a mix, is an error; an empty line needs
--                        none
--   Block, block_of      the text of a block, without the break before its closing identifier, and where that stands;
--                        or an error; or no end
--   kind_of, Agrees   a block of the manual and the reading of the same text
-- The manual does not say what a line is that has nothing but a part of the indentation: `short` says it. Document 01 takes it for an empty
-- line (`empty_line`). `sheet_whole` and `sheet_manual` (proofs/Manual.antt) join the sheet reading to this.
use Rattle.std.specs.Prelude.{ℕ, ◌+◌, ◌≤◌, ◌<◌, Bool, true, false, not, ◌&&◌, ◌||◌, List, [], ◌∷◌, ◌++◌, ◌≡◌, refl, eqb, length, take, drop, if◌then◌else◌}
use Rattle.byte.specs.Refusals.{unexpected_end_of_file, invalid_doc_indentation, stray_indentation}
use Rattle.byte.specs.Words.{◌is◌, run, every, bytes}
use Rattle.byte.specs.Bytes.{is_blank, is_identifier, is_start, is_letter, is_digit}
use Rattle.unit.specs.declared.Indentation.{Indentation}
use Rattle.unit.specs.declared.Stop.{Stop}
use Rattle.unit.specs.Readings.{Reading}

pub record Line : Type 0 where
  pub text : List ℕ
  pub newline : List ℕ

abbrev pub empty_with : List ℕ → Line
empty_with newline = record { text = []; newline = newline }

-- a byte in front of the first line
unfoldable pub before : ℕ → List Line → List Line
before b [] = record { text = b ∷ []; newline = [] } ∷ []
before b (line ∷ more) = record { text = b ∷ line.text; newline = line.newline } ∷ more

unfoldable pub manual_lines : List ℕ → List Line
manual_lines [] = []
manual_lines (b ∷ []) = if b is "\n" then empty_with (b ∷ []) ∷ [] else before b []
manual_lines (b ∷ c ∷ rest) =
    if b is "\n" then empty_with (b ∷ []) ∷ manual_lines (c ∷ rest)
    else if b is "\r" && c is "\n" then empty_with (b ∷ c ∷ []) ∷ manual_lines rest
    else before b (manual_lines (c ∷ rest))

abbrev pub blanks_of : List ℕ → List ℕ
blanks_of text = take (run is_blank text) text

-- the first list is the beginning of the second
unfoldable pub is_prefix : List ℕ → List ℕ → Bool
is_prefix [] ys = true
is_prefix (x ∷ xs) [] = false
is_prefix (x ∷ xs) (y ∷ ys) = eqb x y && is_prefix xs ys

-- no name goes on here
unfoldable pub ends_name : List ℕ → Bool
ends_name [] = true
ends_name (b ∷ rest) = not (is_identifier b)

unfoldable pub closes_at : List ℕ → List ℕ → Bool
closes_at identifier text =
    let there = drop (run is_blank text) text in
    is_prefix identifier there && ends_name (drop (length identifier) there)

unfoldable pub is_pure : List ℕ → Bool
is_pure blanks = every (λ b. b is " ") blanks || every (λ b. b is "\t") blanks

-- what is left of a text; or an error; or the manual does not say
pub data Left : Type 0 where
  Kept : List ℕ → Left
  Wrong : Left
  Unsaid : Left

unfoldable pub without : Left → List ℕ → List ℕ → Left
without short indentation text =
    if is_prefix indentation text then Kept (drop (length indentation) text)
    else if is_prefix text indentation then (if eqb (length text) 0 then Kept [] else short)
    else Wrong

-- what is left of a line, with its break, before what is left of the later ones; the first that is not kept decides
unfoldable pub joined : Left → List ℕ → Left → Left
joined (Kept text) newline (Kept later) = Kept (text ++ newline ++ later)
joined (Kept text) newline Wrong = Wrong
joined (Kept text) newline Unsaid = Unsaid
joined Wrong newline later = Wrong
joined Unsaid newline later = Unsaid

-- the lines of a body without the last one's break
unfoldable pub text_of : Left → List ℕ → List Line → Left
text_of short indentation [] = Kept []
text_of short indentation (line ∷ []) = joined (without short indentation line.text) [] (Kept [])
text_of short indentation (line ∷ next ∷ more) =
    joined (without short indentation line.text) line.newline (text_of short indentation (next ∷ more))

-- the text, the indentation, and how many bytes come before the closing identifier; or the error of a mixed indentation, before which
-- so many bytes come, or of a line; or the manual does not say; or the identifier does not come
pub data Block : Type 0 where
  Closed : List ℕ → List ℕ → ℕ → Block
  Mixed : ℕ → Block
  WrongLine : Block
  UnsaidLine : Block
  Unclosed : Block

unfoldable pub closed : Left → List ℕ → ℕ → Block
closed (Kept text) indentation place = Closed text indentation place
closed Wrong indentation place = WrongLine
closed Unsaid indentation place = UnsaidLine

-- after the lines of a body, which have k bytes
unfoldable pub block_after : Left → List ℕ → List Line → ℕ → List Line → Block
block_after short identifier body k [] = Unclosed
block_after short identifier body k (line ∷ more) =
    if closes_at identifier line.text then
    (if is_pure (blanks_of line.text)
    then closed (text_of short (blanks_of line.text) body) (blanks_of line.text) (k + length (blanks_of line.text))
    else Mixed (k + length (blanks_of line.text)))
    else block_after short identifier (body ++ (line ∷ [])) (k + length line.text + length line.newline) more

unfoldable pub block_of : Left → List ℕ → List ℕ → Block
block_of short identifier xs = block_after short identifier [] 0 (manual_lines xs)

abbrev pub empty_line : Left
empty_line = Kept []

-- an indentation of one kind in the words of the readings
unfoldable pub kind_of : List ℕ → Indentation
kind_of [] = Indentation.None
kind_of (b ∷ rest) = if b is " " then Indentation.Space else Indentation.Tab

-- a block of the manual and the reading of the same text, which starts at n and ends at hi
pub data Agrees (size n hi : ℕ) : Block → Reading → Type 0 where
  text : {value blanks : List ℕ} {place : ℕ}
      → Agrees size n hi (Closed value blanks place)
      (Reading.Text value (Stop.Label (kind_of blanks) (length blanks)) (n + place) (n + place + size))
  mixed : {place : ℕ} → Agrees size n hi (Mixed place) (Reading.Refused invalid_doc_indentation (n + place))
  wrong : {place : ℕ} → n ≤ place → place < hi → Agrees size n hi WrongLine (Reading.Refused stray_indentation place)
  unclosed : Agrees size n hi Unclosed (Reading.Refused unexpected_end_of_file hi)

-- worked sheets o and p, a mixed indentation, a line of one space where two come off, a longer name that does not close
block_examples :
    (block_of Unsaid (bytes "EOT") (bytes "  ab\n   c\n\n  EOT;") ≡ Closed (bytes "ab\n c\n") (bytes "  ") 13)
    × (block_of Unsaid (bytes "EOT") (bytes " a\n  EOT") ≡ WrongLine)
    × (block_of Unsaid (bytes "EOT") (bytes "a\n \tEOT") ≡ Mixed 4)
    × (block_of Unsaid (bytes "EOT") (bytes " \n  EOT") ≡ UnsaidLine)
    × (block_of empty_line (bytes "EOT") (bytes " \r\n  x\r\n  EOT") ≡ Closed (bytes "\r\nx") (bytes "  ") 10)
    × (block_of Unsaid (bytes "EOT") (bytes "EOT") ≡ Closed [] [] 0)
    × (block_of Unsaid (bytes "EOT") (bytes "EOTX") ≡ Unclosed)
unfolding block_of block_after closed text_of joined without is_pure is_prefix ends_name closes_at manual_lines before run every is_blank is_identifier is_start is_letter is_digit bytes
block_examples = (refl, refl, refl, refl, refl, refl, refl)
