-- Variables in double quotes and heredocs as the PHP manual tells them ("Strings": "Variable parsing"): the simple form, after its `$`.
-- Held line by line to the facts of the manual that are known, not to its pages (docs/DECISIONS.md, 107). The text is all there.
--   name_length     how many bytes the longest name has that a text begins with; 0 where it begins with none
--   digits_length   the same of decimal digits
--   offset_length   one offset: a name, a `$` and a name, or an integer, before which a minus may stand
--   Belonging       what belongs to the variable: nothing more, `[` with one offset and `]`, or an arrow and a name
--   belonging       by what follows the name
--   is_loose        a `[` that no offset and `]` follow: to the manual it is text
--   follow_of       what belongs, in the words of the reader
-- `variable_manual`, `variable_loose`, `variable_none`, `variable_found` (proofs/Variables.antt) join the reader to these.
use Rattle.std.specs.Prelude.{ℕ, suc, ◌+◌, Bool, true, false, not, ◌&&◌, List, [], ◌∷◌, ◌≡◌, refl, eqb, drop, if◌then◌else◌}
use Prim.Native.Char.{code}
use Rattle.byte.specs.Words.{◌is◌, run, bytes}
use Rattle.byte.specs.Bytes.{is_start, is_identifier, is_digit, is_letter}
use Rattle.unit.specs.declared.Follow.{Follow}

-- `[a-zA-Z_\x80-\xff][a-zA-Z0-9_\x80-\xff]*`
unfoldable pub name_length : List ℕ → ℕ
name_length [] = 0
name_length (b ∷ rest) = if is_start b then suc (run is_identifier rest) else 0

abbrev pub digits_length : List ℕ → ℕ
digits_length xs = run is_digit xs

-- this many bytes with one more before them, if there are any
abbrev pub one_more : ℕ → ℕ
one_more k = if eqb k 0 then 0 else suc k

-- 0 where there is none
unfoldable pub offset_length : List ℕ → ℕ
offset_length [] = 0
offset_length (b ∷ rest) =
    if b is "$" then one_more (name_length rest)
    else if b is "-" then one_more (digits_length rest)
    else if is_digit b then digits_length (b ∷ rest)
    else name_length (b ∷ rest)

-- with how many bytes it takes
pub data Belonging : Type 0 where
  Alone : Belonging
  Offset : ℕ → Belonging
  Property : ℕ → Belonging

-- a byte comes first
unfoldable pub begins : ℕ → List ℕ → Bool
begins c [] = false
begins c (b ∷ rest) = eqb b c

-- after `[`
unfoldable pub bracketed : List ℕ → Belonging
bracketed xs =
    if not (eqb (offset_length xs) 0) && begins (code "]") (drop (offset_length xs) xs) then Offset (2 + offset_length xs) else Alone

-- after an arrow of so many bytes
unfoldable pub pointed : ℕ → List ℕ → Belonging
pointed size xs = if eqb (name_length xs) 0 then Alone else Property (size + name_length xs)

-- after the name
unfoldable pub belonging : List ℕ → Belonging
belonging [] = Alone
belonging (b ∷ rest) =
    if b is "[" then bracketed rest
    else if b is "-" && begins (code ">") rest then pointed 2 (drop 1 rest)
    else if (b is "?" && begins (code "-") rest) && begins (code ">") (drop 1 rest) then pointed 3 (drop 2 rest)
    else Alone

unfoldable pub is_alone : Belonging → Bool
is_alone Alone = true
is_alone (Offset taken) = false
is_alone (Property taken) = false

unfoldable pub is_loose : List ℕ → Bool
is_loose xs = begins (code "[") xs && is_alone (belonging xs)

unfoldable pub follow_of : Belonging → Follow
follow_of Alone = Follow.Other
follow_of (Offset taken) = Follow.Offset
follow_of (Property taken) = Follow.Property

-- `$a[0]`, `$a[-1]`, `$a[key]`, `$a[$i]`, `$a->b`, `$a?->b`; and what is not of the variable: `$a[`, `$a[ 0]`, `$a->`, `$a.b`
belonging_examples :
    (belonging (bytes "[0]") ≡ Offset 3)
    × (belonging (bytes "[-1]") ≡ Offset 4)
    × (belonging (bytes "[key].") ≡ Offset 5)
    × (belonging (bytes "[$i]") ≡ Offset 4)
    × (belonging (bytes "->b->c") ≡ Property 3)
    × (belonging (bytes "?->b") ≡ Property 4)
    × (belonging (bytes "[") ≡ Alone)
    × (belonging (bytes "[ 0]") ≡ Alone)
    × (belonging (bytes "->") ≡ Alone)
    × (belonging (bytes ".b") ≡ Alone)
unfolding belonging bracketed pointed begins offset_length name_length run is_start is_identifier is_digit is_letter bytes
belonging_examples = (refl, refl, refl, refl, refl, refl, refl, refl, refl, refl)
