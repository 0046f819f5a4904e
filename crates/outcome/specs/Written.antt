-- A literal or a comment as it is written in the script (document 02, P4): what the correction desk cuts out, from its
-- token's position up to where the step ended.
--   is_literal   the kinds of literals, 17 to 20, and a comment's
--   is_closed    a text whose last byte is this quote
--   is_opened    a text that begins with this quote and is then closed by another one like it
--   is_quoted    both for a step; the public readings begin after the opening quote
--   AsWritten    a call of this kind that has the text alone, with the end announced and octal escapes read by the same
--                choice, gives the same token and passes the whole text; its quotes, its digits, its bytes are in it
-- `call_written` (proofs/Written.antt) says that every call's literals and comments are.
use Rattle.std.specs.Prelude.{ℕ, Bool, true, false, ◌&&◌, ◌||◌, List, [], ◌∷◌, ◌≡◌, eqb, length}
use Prim.Native.Char.{Char}
use Rattle.byte.specs.Words.{◌is◌, is_one_of}
use Rattle.byte.specs.declared.Octal.{Octal}
use Rattle.state.specs.declared.Reading.{Reading}
use Rattle.state.specs.declared.Frame.{Frame}
use Rattle.token.specs.Kinds.{literal_single_quoted_string, literal_double_quoted_string, literal_integer, literal_float}
use Rattle.token.specs.Kinds.{comment}
use Rattle.number.specs.Numbers.{base_of, spelled}
use Rattle.outcome.specs.declared.Call.{Call}
use Rattle.outcome.specs.declared.Change.{Change}
use Rattle.outcome.specs.Outcomes.{Outcome, piece}
use Rattle.outcome.specs.Steps.{call_at}

unfoldable pub is_literal : ℕ → Bool
is_literal kind =
    is_one_of kind
    (literal_single_quoted_string ∷ literal_double_quoted_string ∷ literal_integer ∷ literal_float ∷ comment ∷ [])

unfoldable pub is_closed : Char → List ℕ → Bool
is_closed quote [] = false
is_closed quote (b ∷ []) = b is quote
is_closed quote (b ∷ c ∷ rest) = is_closed quote (c ∷ rest)

unfoldable pub is_opened : Char → List ℕ → Bool
is_opened quote [] = false
is_opened quote (b ∷ rest) = b is quote && is_closed quote rest

unfoldable pub is_quoted : Call → Char → List ℕ → Bool
is_quoted Call.Step quote text = is_opened quote text
is_quoted Call.Number quote text = is_closed quote text
is_quoted Call.Single quote text = is_closed quote text
is_quoted Call.Double quote text = is_closed quote text

pub record AsWritten (call : Call) (octals : Octal) (kind : ℕ) (value text : List ℕ) : Type 0 where
  pub alone : (src : List ℕ) (nowdocs : Reading) (depth : ℕ)
      → call_at call Frame.Scripting src (record { nowdocs = nowdocs; octals = octals }) depth true 0 text
      ≡ Outcome.Told (piece kind 0 value ∷ []) (length text) Change.Keep false
  pub single : eqb kind literal_single_quoted_string ≡ true → is_quoted call "'" text ≡ true
  pub double : eqb kind literal_double_quoted_string ≡ true → is_quoted call "\"" text ≡ true
  pub number : (eqb kind literal_integer || eqb kind literal_float) ≡ true → value ≡ spelled (base_of text) text
  pub comment : eqb kind comment ≡ true → value ≡ text
