-- What the code of src/classes.rt computes with.
--   class_number   the number of a class, as `class_of` tells it
--   is_from        a class is one of those from the first to the last, told by their numbers
--   is_within      the same, told by the classes
--   TableOf, Table   sixteen entries in each of sixteen rows, each the class of its byte: of any entries that have
--                    numbers, and of classes
--   one            1 if a test passes, else 0
--   binary         the number whose bits say which entries of a list pass a test, the first entry's the lowest
--   Bits           a number of sixteen bits is that of the entries which have one of these classes
--   Holds          the bits of a number say which of the 64 bytes of four rows have one of these classes
use Rattle.std.specs.Prelude.{ℕ, ◌+◌, ◌*◌, ◌/◌, ◌%◌, ◌^◌, ◌<◌, Bool, ◌&&◌, List, [], ◌∷◌, ◌≡◌, leb, length, get_or, if◌then◌else◌}
use Rattle.byte.specs.declared.classes.Class.{Class}
use Rattle.byte.specs.Classes.{class_of}

abbrev pub class_number : Class → ℕ
class_number Class.S = 0
class_number Class.O = 1
class_number Class.E = 2
class_number Class.H = 3
class_number Class.L = 4
class_number Class.U = 5
class_number Class.N = 6
class_number Class.B = 7

unfoldable pub is_from : ℕ → ℕ → ℕ → Bool
is_from first last class = leb first class && leb class last

abbrev pub is_within : Class → Class → Class → Bool
is_within first last class = is_from (class_number first) (class_number last) (class_number class)

pub record TableOf {A : Type 0} (past : A) (number : A → ℕ) (rows : List (List A)) : Type 0 where
  pub wide : (row : ℕ) → row < 16 → length (get_or rows row []) ≡ 16
  pub class : (b : ℕ) → b < 256 → number (get_or (get_or rows (b / 16) []) (b % 16) past) ≡ class_of b

abbrev pub Table : List (List Class) → Type 0
Table rows = TableOf Class.S class_number rows

unfoldable pub one : Bool → ℕ
one test = if test then 1 else 0

unfoldable pub binary : {A : Type 0} → (A → Bool) → List A → ℕ
binary test [] = 0
binary test (entry ∷ rest) = one (test entry) + 2 * binary test rest

pub record Bits (first last : Class) (row : List Class) (r : ℕ) : Type 0 where
  pub number : r ≡ binary (is_within first last) row
  pub small : r < 65536

unfoldable pub Holds : Class → Class → ℕ → ℕ → Type 0
Holds first last row set =
    (place : ℕ) → place < 64
    → (set / 2 ^ place) % 2 ≡ one (is_from (class_number first) (class_number last) (class_of (16 * row + place)))
