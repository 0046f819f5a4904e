-- A heredoc whose text holds neither escapes nor variables: it is read as a nowdoc (`heredoc_plain`, proofs/Heredocs.antt).
--   is_itself   a byte that begins neither an escape nor a variable
--   text_of     the text of a reading; where it comes to none, all that is there
use Rattle.std.specs.Prelude.{ℕ, Bool, not, ◌&&◌, List}
use Rattle.byte.specs.Words.{◌is◌}
use Rattle.unit.specs.Readings.{Reading, Text, Refused, Wait}

unfoldable pub is_itself : ℕ → Bool
is_itself b = not (b is "\\") && not (b is "$") && not (b is "{")

unfoldable pub text_of : List ℕ → Reading → List ℕ
text_of xs (Text text stop from after) = text
text_of xs (Refused refusal place) = xs
text_of xs Wait = xs
