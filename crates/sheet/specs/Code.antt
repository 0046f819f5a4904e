-- A sheet reading as the code has it: line by line, measured first, and then written.
--   line_length, LineEnd           how many bytes the first line has, and where it ends
--   indentation                    the kind of so many blanks, seen one after the other
--   found                          where a block closes, without its lines
--   offset_of                      how many bytes of indentation come off a line
--   is_stray                       the byte after them is stray
--   size_of                        how many bytes are left of a body, or the place of its first stray byte
--   break_of                       how many bytes the last break of a text has: 2, 1, or 0 where there is none. A CR
--                                  may stand before the text
--   is_line                        its one LF is its last byte
--   Body                           a part of the source that is whole lines, from a place on
--   one_blank                      the one blank of an indentation
--   blank_of, indent_of, Closing   the blank of a closing line's indentation, and what comes off each line by it
--   left_of, sheet_of              the bytes that are left of a body, and the value of a body at n: what `write_sheet`
--                                  writes
--   Left   when the value of a body may be written: it is there, and there is room
use Rattle.std.specs.Prelude.{ℕ, suc, ◌+◌, ◌≤◌, ◌<◌, min, Bool, true, false, not, List, [], ◌∷◌, ◌≡◌, leb, eqb, length, drop, if◌then◌else◌, Option, Some, None, Result, Ok, Err}
use Prim.Native.Char.{code}
use Rattle.byte.specs.Words.{◌is◌, run, every}
use Rattle.unit.specs.declared.Indentation.{Indentation}
use Rattle.unit.specs.declared.Stop.{Stop}
use Rattle.unit.specs.Closers.{indented}
use Rattle.sheet.specs.declared.Found.{Found}
use Rattle.sheet.specs.Bodies.{Indent, Text, Kept, Stray, lines, is_over, body_text, unbroken}
use Rattle.sheet.specs.Sheets.{Block, Closed, Missing, Open}

unfoldable pub line_length : List ℕ → ℕ
line_length [] = 0
line_length (b ∷ rest) = if b is "\n" then 1 else suc (line_length rest)

pub record LineEnd (src : List ℕ) (at r : ℕ) : Type 0 where
  pub place : r ≡ at + line_length (drop at src)
  pub inside : r ≤ length src
  pub on : at < r

unfoldable pub indentation : Indentation → List ℕ → Indentation
indentation ind [] = ind
indentation ind (b ∷ rest) = indentation (indented ind b) rest

unfoldable pub found : Block → Found
found (Closed body ind amount place) = Found.Closed ind amount place
found (Missing place) = Found.Missing
found Open = Found.Open

unfoldable pub offset_of : Indent → List ℕ → ℕ
offset_of ind line = min ind.width (run (eqb ind.blank) line)

unfoldable pub is_stray : Indent → List ℕ → Bool
is_stray ind line = if leb ind.width (offset_of ind line) then false else not (is_over (drop (offset_of ind line) line))

unfoldable pub size_of : Text → Result ℕ ℕ
size_of (Kept text) = Ok (length text)
size_of (Stray p) = Err p

unfoldable pub break_of : Bool → List ℕ → ℕ
break_of cr [] = 0
break_of cr (b ∷ []) = if b is "\n" then (if cr then 2 else 1) else 0
break_of cr (b ∷ c ∷ rest) = break_of (b is "\r") (c ∷ rest)

unfoldable pub is_line : List ℕ → Bool
is_line [] = false
is_line (b ∷ []) = b is "\n"
is_line (b ∷ c ∷ rest) = if b is "\n" then false else is_line (c ∷ rest)

pub record Body (part : List ℕ) (at : ℕ) : Type 0 where
  pub start : at ≤ length part
  pub short : length part ≤ 65536
  pub whole : every is_line (lines (drop at part)) ≡ true

-- a space where there is none to take off
unfoldable pub one_blank : Indentation → Option ℕ
one_blank Indentation.None = Some (code " ")
one_blank Indentation.Space = Some (code " ")
one_blank Indentation.Tab = Some (code "\t")
one_blank Indentation.Mixed = None

-- 0 where there is no one blank
unfoldable pub blank_of : Stop → ℕ
blank_of (Stop.Label Indentation.None amount) = code " "
blank_of (Stop.Label Indentation.Space amount) = code " "
blank_of (Stop.Label Indentation.Tab amount) = code "\t"
blank_of (Stop.Label Indentation.Mixed amount) = 0
blank_of Stop.Quote = 0
blank_of Stop.Interpolation = 0
blank_of Stop.DollarLeftBrace = 0
blank_of Stop.LeftBrace = 0
blank_of (Stop.Variable f) = 0

abbrev pub indent_of : Indentation → ℕ → Indent
indent_of ind amount = record { blank = blank_of (Stop.Label ind amount); width = amount }

-- a closing line after a body
pub record Closing (body : List ℕ) (ind : Indentation) (amount size : ℕ) : Type 0 where
  pub bare : ind ≡ Indentation.None → amount ≡ 0
  pub short : length body + amount ≤ 65536
  pub name : size ≤ 64

unfoldable pub left_of : Text → List ℕ
left_of (Kept text) = text
left_of (Stray p) = []

unfoldable pub sheet_of : Indent → ℕ → List ℕ → List ℕ
sheet_of ind n body = unbroken (left_of (body_text ind n (lines body)))

pub record Left (ind : Indent) (body : List ℕ) (at len room : ℕ) : Type 0 where
  pub start : at ≤ length body
  pub short : length body ≤ 65536
  pub size : len ≡ length (sheet_of ind at (drop at body))
  pub fits : len ≤ room
