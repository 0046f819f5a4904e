-- The words that definitions over bytes are written with.
--   ◌is◌, ◌from◌to◌   a byte told by its character. ASCII alone: bytes from 0x80 on are written as numbers
--   bytes             the bytes of a text in quotes
--   every             whether all that a list holds passes a test
--   run               how many bytes from the first on pass a test
--   is_one_of         whether a number stands in a list
--   announced         whether a host's number says that the end is announced: any but 0
use Rattle.std.specs.Prelude.{ℕ, suc, Bool, true, false, not, ◌||◌, ◌&&◌, List, [], ◌∷◌, leb, eqb, if◌then◌else◌}
use Prim.Native.Char.{Char, code}
use Prim.Native.String.{String}

infix 40 ◌is◌
abbrev pub ◌is◌ : ℕ → Char → Bool
b is c = eqb b (code c)

infix 40 ◌from◌to◌
abbrev pub ◌from◌to◌ : ℕ → Char → Char → Bool
b from c to d = leb (code c) b && leb b (code d)

unfoldable pub bytes : String → List ℕ
bytes String.[] = []
bytes (String.◌∷◌ c s) = code c ∷ bytes s

unfoldable pub every : {A : Type 0} → (A → Bool) → List A → Bool
every test [] = true
every test (a ∷ rest) = test a && every test rest

unfoldable pub run : (ℕ → Bool) → List ℕ → ℕ
run test [] = 0
run test (b ∷ rest) = if test b then suc (run test rest) else 0

unfoldable pub is_one_of : ℕ → List ℕ → Bool
is_one_of number [] = false
is_one_of number (n ∷ more) = eqb number n || is_one_of number more

abbrev pub announced : ℕ → Bool
announced end = not (eqb end 0)
