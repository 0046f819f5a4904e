-- What the code asks and tells of places in a source.
--   RunEnd, IdentifierEnd         where a run of bytes of one class ends, and where the identifier does
--   Passing                       a place on the way to a run's end
--   Reaches                       the cursor's numbers stay numbers of 32 bits over so many bytes
--   breaks, Unbroken, LineStart   how many LFs a list has, from where on it has none, and the place after its last
--   word_of, repeated             the number that bytes are, the first of them lowest; that of n bytes which are all c
--   is_not, marks_of              any byte but c; 128 in place of each byte that fails a test, 0 in place of any other
use Rattle.std.specs.Prelude.{ℕ, zero, suc, ◌+◌, ◌-◌, ◌*◌, ◌<◌, ◌≤◌, Bool, true, false, not, List, [], ◌∷◌, ◌≡◌, eqb, length, get_or, drop, if◌then◌else◌}
use Rattle.byte.specs.Words.{◌is◌, run, every}
use Rattle.byte.specs.Bytes.{is_no_break}
use Rattle.source.specs.declared.Span.{Span}
use Rattle.source.specs.Identifiers.{identifier_length}

-- r is where the run of bytes that pass the test, from `at` on, ends
pub record RunEnd (test : ℕ → Bool) (src : List ℕ) (at r : ℕ) : Type 0 where
  pub place : r ≡ at + run test (drop at src)
  pub inside : r ≤ length src

-- the run from `at` on ends where the run from i on does
pub record Passing (test : ℕ → Bool) (src : List ℕ) (at i : ℕ) : Type 0 where
  pub inside : i ≤ length src
  pub same : at + run test (drop at src) ≡ i + run test (drop i src)

pub record IdentifierEnd (src : List ℕ) (at r : ℕ) : Type 0 where
  pub place : r ≡ at + identifier_length (drop at src)
  pub inside : r ≤ length src

pub record Reaches (p : Span) (n : ℕ) : Type 0 where
  pub line : p.line + n < 4294967296
  pub column : p.column + n < 4294967296
  pub position : p.position + n < 4294967296

unfoldable pub breaks : List ℕ → ℕ
breaks [] = 0
breaks (b ∷ rest) = if b is "\n" then suc (breaks rest) else breaks rest

-- from i on stands no LF
pub record Unbroken (part : List ℕ) (i : ℕ) : Type 0 where
  pub inside : i ≤ length part
  pub clear : every is_no_break (drop i part) ≡ true

-- r is where a part's last line starts: after its last LF, or at 0 where it has none
pub record LineStart (part : List ℕ) (r : ℕ) : Type 0 where
  pub last : Unbroken part r
  pub behind : 0 < r → get_or part (r - 1) 0 ≡ 10

unfoldable pub word_of : List ℕ → ℕ
word_of [] = 0
word_of (b ∷ bs) = word_of bs * 256 + b

unfoldable pub repeated : ℕ → ℕ → ℕ
repeated zero c = 0
repeated (suc n) c = repeated n c * 256 + c

abbrev pub is_not : ℕ → ℕ → Bool
is_not c b = not (eqb b c)

abbrev pub mark : Bool → ℕ
mark true = 0
mark false = 128

unfoldable pub marks_of : (ℕ → Bool) → List ℕ → List ℕ
marks_of test [] = []
marks_of test (b ∷ bs) = mark (test b) ∷ marks_of test bs
