-- Interpolations in double quotes, backticks and heredocs (document 01, "Rules easily misread"). `end` says that the text is all there.
--   follow                    what follows a variable's name: `[`, or `->` or `?->` and a start byte
--   name                      the rest of a variable's name
--   dollar                    after a `$`: `${`, a variable, or the sign itself
--   brace                     after a `{`: a `$`, and only the brace is taken; or the brace itself
--   find_dollar, find_brace   the same in a literal, where an interpolation is found and not taken
use Rattle.std.specs.Prelude.{ℕ, suc, Bool, ◌||◌, List, [], ◌∷◌, if◌then◌else◌, Option, Some, None}
use Prim.Native.Char.{code}
use Rattle.byte.specs.Words.{◌is◌}
use Rattle.byte.specs.Bytes.{is_start, is_identifier}
use Rattle.unit.specs.declared.Follow.{Follow}
use Rattle.unit.specs.declared.Stop.{Stop}
use Rattle.unit.specs.declared.TextUnit.{TextUnit}
use Rattle.unit.specs.Escapes.{last}

-- the byte at n stands for itself
abbrev pub plain : ℕ → ℕ → TextUnit
plain b n = TextUnit.Byte b (suc n)

-- nothing is left after the name
abbrev pub last_look : Bool → Option Follow
last_look end = if end then Some Follow.Other else None

unfoldable pub property : Bool → List ℕ → Option Follow
property end [] = last_look end
property end (b ∷ rest) = Some (if is_start b then Follow.Property else Follow.Other)

-- after `-`, and after `?`
unfoldable pub arrow : Bool → List ℕ → Option Follow
arrow end [] = last_look end
arrow end (b ∷ rest) = if b is ">" then property end rest else Some Follow.Other

unfoldable pub question_arrow : Bool → List ℕ → Option Follow
question_arrow end [] = last_look end
question_arrow end (b ∷ rest) = if b is "-" then arrow end rest else Some Follow.Other

unfoldable pub follow : Bool → List ℕ → Option Follow
follow end [] = last_look end
follow end (b ∷ rest) =
    if b is "[" then Some Follow.Offset
    else if b is "-" then arrow end rest
    else if b is "?" then question_arrow end rest
    else Some Follow.Other

-- a variable from its `$` to n
unfoldable pub variable : ℕ → ℕ → Option Follow → TextUnit
variable from n (Some f) = TextUnit.Ends (Stop.Variable f) from n
variable from n None = TextUnit.Undecided

unfoldable pub name : Bool → ℕ → ℕ → List ℕ → TextUnit
name end from n [] = variable from n (follow end [])
name end from n (b ∷ rest) = if is_identifier b then name end from (suc n) rest else variable from n (follow end (b ∷ rest))

unfoldable pub dollar : Bool → ℕ → List ℕ → TextUnit
dollar end n [] = last end (plain (code "$") n)
dollar end n (b ∷ rest) =
    if b is "{" then TextUnit.Ends Stop.DollarLeftBrace n (suc (suc n))
    else if is_start b then name end n (suc (suc n)) rest
    else plain (code "$") n

unfoldable pub brace : Bool → ℕ → List ℕ → TextUnit
brace end n [] = last end (plain (code "{") n)
brace end n (b ∷ rest) = if b is "$" then TextUnit.Ends Stop.LeftBrace n (suc n) else plain (code "{") n

abbrev pub found : ℕ → TextUnit
found n = TextUnit.Ends Stop.Interpolation n n

unfoldable pub find_dollar : Bool → ℕ → List ℕ → TextUnit
find_dollar end n [] = last end (plain (code "$") n)
find_dollar end n (b ∷ rest) = if b is "{" || is_start b then found n else plain (code "$") n

unfoldable pub find_brace : Bool → ℕ → List ℕ → TextUnit
find_brace end n [] = last end (plain (code "{") n)
find_brace end n (b ∷ rest) = if b is "$" then found n else plain (code "{") n
