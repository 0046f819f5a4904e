-- Digits, and code points in UTF-8.
--   digit_value   the value of a digit, 0 to 9, A to F, a to f; 16 of any other byte. A digit of a base has a value
--                 below it
--   is_scalar     a code point that UTF-8 has: up to 0x10FFFF, and no surrogate
--   utf8   its bytes
use Rattle.std.specs.Prelude.{ℕ, ◌+◌, ◌-◌, ◌/◌, ◌%◌, Bool, ◌&&◌, ◌||◌, List, [], ◌∷◌, ◌≡◌, refl, leb, ltb, if◌then◌else◌}
use Prim.Native.Char.{code}
use Rattle.byte.specs.Words.{◌from◌to◌}

unfoldable pub digit_value : ℕ → ℕ
digit_value b =
    if b from "0" to "9" then b - code "0"
    else if b from "A" to "F" then b - code "A" + 10
    else if b from "a" to "f" then b - code "a" + 10
    else 16

unfoldable pub is_scalar : ℕ → Bool
is_scalar c = ltb c 0xD800 || (leb 0xE000 c && ltb c 0x110000)

unfoldable pub utf8 : ℕ → List ℕ
utf8 c =
    if ltb c 0x80 then c ∷ []
    else if ltb c 0x800 then (0xC0 + c / 64) ∷ (0x80 + c % 64) ∷ []
    else if ltb c 0x10000 then (0xE0 + c / 4096) ∷ (0x80 + c / 64 % 64) ∷ (0x80 + c % 64) ∷ []
    else (0xF0 + c / 262144) ∷ (0x80 + c / 4096 % 64) ∷ (0x80 + c / 64 % 64) ∷ (0x80 + c % 64) ∷ []

euro : utf8 0x20AC ≡ 0xE2 ∷ 0x82 ∷ 0xAC ∷ []
unfolding utf8
euro = refl
