-- The identifier at a place (document 01, "Identifiers"): a start byte and the identifier bytes after it.
--   identifier_length   its length at the head of a text; 0 where there is none
--   identifier_at       its bytes at a place of the source, a part of the source itself; empty where there is none
use Rattle.std.specs.Prelude.{ℕ, suc, List, [], ◌∷◌, ◌≡◌, refl, take, drop, if◌then◌else◌}
use Rattle.byte.specs.Words.{run, bytes}
use Rattle.byte.specs.Bytes.{is_digit, is_letter, is_start, is_identifier}

unfoldable pub identifier_length : List ℕ → ℕ
identifier_length [] = 0
identifier_length (b ∷ rest) = if is_start b then suc (run is_identifier rest) else 0

unfoldable pub identifier_at : List ℕ → ℕ → List ℕ
identifier_at src at = take (identifier_length (drop at src)) (drop at src)

behind_a_dollar : identifier_at (bytes "$kerb2;") 1 ≡ bytes "kerb2"
unfolding identifier_at identifier_length run is_identifier is_start is_letter is_digit bytes
behind_a_dollar = refl
