-- A text reading as the code has it: measured, and its bytes gathered as they are read.
--   Here           a place of a source that is not too long
--   is_plain       a byte that stands for itself in a mode: its unit is that byte, whatever comes after it
--   bytes_of       the bytes of the value that a unit is
--   is_break       a unit that is a break, also one from an escape
--   IsPiece        what a unit that is text leaves: its bytes' number, whether it is a break, and the place after it
--   last_break     of bytes: whether the last of them is a break
--   value_length   of a text of so many bytes, the last of them a break or not: a heredoc's loses it before an
--                  interpolation
--   ended          what a unit makes of the text before it; asked only of units that are no text
--   unclosed       what a text comes to that is not closed
--   measured       a reading without its bytes
--   value_of       the value of a reading: a start of what was gathered
--   clipped        a part with some bytes from a place on, as far as it goes
--   onward         the bytes of a unit, and then those of the text after it; nothing where the unit is no text
--   gathered       the bytes of the text read so far: those of its units up to the first that is no text, or to the end
--   Reads          what `read_text` answers, and what the part holds then
--   is_searched    a nowdoc's label with a byte to look for
--   Scans          what `scan_text` answers, and what the part holds then: where the label is looked for, it stays
--   BeforeBlanks   a place before another where no blank stands
--   Searchable     a label whose first byte can be looked for
--   is_writable   a unit whose bytes may be written: a code point has at most four
use Rattle.std.specs.Prelude.{ℕ, zero, suc, ◌-◌, ◌≤◌, ◌<◌, Bool, false, not, List, [], ◌∷◌, ◌++◌, ◌≡◌, length, get_or, take, drop, if◌then◌else◌}
use Prim.Native.Char.{code}
use Rattle.byte.specs.Refusals.{unexpected_end_of_file}
use Rattle.byte.specs.Words.{◌is◌}
use Rattle.byte.specs.Bytes.{is_blank, is_no_break, is_none_of}
use Rattle.byte.specs.Laid.{laid}
use Rattle.unit.specs.declared.Mode.{Mode}
use Rattle.unit.specs.declared.Stop.{Stop}
use Rattle.unit.specs.declared.TextUnit.{TextUnit}
use Rattle.unit.specs.Digits.{utf8}
use Rattle.unit.specs.Units.{unit_at}
use Rattle.unit.specs.Readings.{Reading, Text, Refused, Wait, after_of, loses_break, text_at}
use Rattle.text.specs.declared.Piece.{Piece}
use Rattle.text.specs.declared.Scanned.{Scanned}

pub record Here (src : List ℕ) (n : ℕ) : Type 0 where
  pub inside : n < length src
  pub short : length src ≤ 65536

unfoldable pub is_plain : Mode → ℕ → Bool
is_plain Mode.Single = is_none_of (code "'") (code "\\") (code "'") (code "\\")
is_plain (Mode.Double octals) = is_none_of (code "\"") (code "\\") (code "$") (code "{")
is_plain (Mode.DoubleQuote octals) = is_none_of (code "\"") (code "\\") (code "$") (code "{")
is_plain Mode.ShellExec = is_none_of (code "`") (code "$") (code "{") (code "`")
is_plain (Mode.Heredoc octals) = is_none_of (code "\n") (code "\\") (code "$") (code "{")
is_plain Mode.Nowdoc = is_no_break

unfoldable pub bytes_of : TextUnit → List ℕ
bytes_of (TextUnit.Byte value after) = value ∷ []
bytes_of (TextUnit.Point code after) = utf8 code
bytes_of (TextUnit.Ends stop from after) = []
bytes_of (TextUnit.Fault refusal place) = []
bytes_of TextUnit.Undecided = []

unfoldable pub is_break : TextUnit → Bool
is_break (TextUnit.Byte value after) = value is "\n"
is_break (TextUnit.Point code after) = code is "\n"
is_break (TextUnit.Ends stop from after) = false
is_break (TextUnit.Fault refusal place) = false
is_break TextUnit.Undecided = false

-- what a unit that is text leaves
pub record IsPiece (u : TextUnit) (p : Piece) : Type 0 where
  pub width : p.width ≡ length (bytes_of u)
  pub some : 0 < p.width
  pub narrow : p.width ≤ 4
  pub broken : p.broken ≡ is_break u
  pub after : p.after ≡ after_of u

-- `broken` tells it of the bytes before; of no bytes it is the answer
unfoldable pub last_break : Bool → List ℕ → Bool
last_break broken [] = broken
last_break broken (b ∷ rest) = last_break (b is "\n") rest

unfoldable pub value_length : Mode → ℕ → Bool → Stop → ℕ
value_length m len broken stop = if broken then (if loses_break m stop then len - 1 else len) else len

unfoldable pub ended : Mode → ℕ → Bool → TextUnit → Scanned
ended m len broken (TextUnit.Byte value after) = Scanned.Wait
ended m len broken (TextUnit.Point code after) = Scanned.Wait
ended m len broken (TextUnit.Ends stop from after) = Scanned.Text (value_length m len broken stop) stop from after
ended m len broken (TextUnit.Fault refusal place) = Scanned.Refused refusal place
ended m len broken TextUnit.Undecided = Scanned.Wait

-- at the announced end it is refused, there
unfoldable pub unclosed : Bool → ℕ → Scanned
unclosed end place = if end then Scanned.Refused unexpected_end_of_file place else Scanned.Wait

unfoldable pub measured : Reading → Scanned
measured (Text value stop from after) = Scanned.Text (length value) stop from after
measured (Refused refusal place) = Scanned.Refused refusal place
measured Wait = Scanned.Wait

unfoldable pub value_of : Reading → List ℕ
value_of (Text value stop from after) = value
value_of (Refused refusal place) = []
value_of Wait = []

unfoldable pub clipped : List ℕ → ℕ → List ℕ → List ℕ
clipped dst at vs = laid dst at (take (length dst - at) vs)

unfoldable pub onward : TextUnit → List ℕ → List ℕ
onward (TextUnit.Byte value after) later = value ∷ later
onward (TextUnit.Point code after) later = utf8 code ++ later
onward (TextUnit.Ends stop from after) later = []
onward (TextUnit.Fault refusal place) later = []
onward TextUnit.Undecided later = []

-- from n on, where `skip` bytes of the last unit are still to be passed
unfoldable pub gathered : Mode → List ℕ → Bool → ℕ → ℕ → List ℕ → List ℕ
gathered m label end skip n [] = []
gathered m label end (suc k) n (b ∷ rest) = gathered m label end k (suc n) rest
gathered m label end zero n (b ∷ rest) =
    onward (unit_at m label end n b rest)
    (gathered m label end (after_of (unit_at m label end n b rest) - suc n) (suc n) rest)

-- the part gets as many bytes as it has places
pub record Reads (m : Mode) (src label : List ℕ) (at : ℕ) (end : Bool) (dst : List ℕ) (r : Scanned)
    (dst' : List ℕ) : Type 0 where
  pub told : r ≡ measured (text_at m label end at (drop at src))
  pub held : dst' ≡ laid dst 0 (take (length dst) (gathered m label end 0 at (drop at src)))

-- the label has bytes, and the first is no LF
unfoldable pub is_searched : Mode → List ℕ → Bool
is_searched Mode.Single label = false
is_searched (Mode.Double octals) label = false
is_searched (Mode.DoubleQuote octals) label = false
is_searched Mode.ShellExec label = false
is_searched (Mode.Heredoc octals) label = false
is_searched Mode.Nowdoc [] = false
is_searched Mode.Nowdoc (b ∷ rest) = not (b is "\n")

-- the text of a nowdoc that is found by its label is the source's own bytes
pub record Scans (m : Mode) (src label : List ℕ) (at : ℕ) (end : Bool) (dst : List ℕ) (r : Scanned)
    (dst' : List ℕ) : Type 0 where
  pub told : r ≡ measured (text_at m label end at (drop at src))
  pub held :
      dst'
      ≡ (if is_searched m label then dst
      else laid dst 0 (take (length dst) (gathered m label end 0 at (drop at src))))

-- k is such a place before n, from `from` on
pub record BeforeBlanks (src : List ℕ) (from n k : ℕ) : Type 0 where
  pub first : from ≤ k
  pub last : k < n
  pub inside : n ≤ length src
  pub other : is_blank (get_or src k 0) ≡ false

-- it has bytes, and the first is no LF
pub record Searchable (label : List ℕ) : Type 0 where
  pub some : 0 < length label
  pub short : length label ≤ 64
  pub unbroken : get_or label 0 0 ≡ code "\n" → ⊥

-- a code point of at most four bytes
unfoldable pub is_writable : TextUnit → Type 0
is_writable (TextUnit.Byte value after) = Unit {0}
is_writable (TextUnit.Point code after) = code < 0x110000
is_writable (TextUnit.Ends stop from after) = Unit {0}
is_writable (TextUnit.Fault refusal place) = Unit {0}
is_writable TextUnit.Undecided = Unit {0}
