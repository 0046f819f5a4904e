-- The mode Scripting: document 01's table, row by row, with the comments of document 02's P2 before its last row. n is the position of the
-- text's head, `end` says that the text is all there; `octals` is the session's choice.
--   point       `.` and a digit: a number
--   word        an identifier start: the whole run is passed
--   close_tag   `?>`: passed, and the top becomes Initial
--   scripting   what contracts cite
use Rattle.std.specs.Prelude.{ℕ, suc, ◌+◌, Bool, true, List, [], ◌∷◌, ltb, if◌then◌else◌, Option, Some, None}
use Prim.Native.Char.{code}
use Rattle.byte.specs.Words.{◌is◌}
use Rattle.byte.specs.Bytes.{is_digit, is_start}
use Rattle.byte.specs.declared.Octal.{Octal}
use Rattle.state.specs.declared.Frame.{Frame}
use Rattle.token.specs.Kinds.{literal_single_quoted_string, literal_double_quoted_string}
use Rattle.unit.specs.declared.Mode.{Mode}
use Rattle.unit.specs.Readings.{text_at}
use Rattle.number.specs.Numbers.{number_at}
use Rattle.outcome.specs.declared.Change.{Change}
use Rattle.outcome.specs.Outcomes.{Outcome, goes, ending}
use Rattle.outcome.specs.Openings.{opening, opened}
use Rattle.outcome.specs.Texts.{literal, numbered}
use Rattle.outcome.specs.Lookings.{named}
use Rattle.outcome.specs.Comments.{slash, hash}

unfoldable pub point : Bool → ℕ → List ℕ → Outcome
point end n [] = ending end (goes (suc n) Change.Keep)
point end n (b ∷ rest) =
    if is_digit b then numbered n (number_at end n (code "." ∷ b ∷ rest)) else goes (suc n) Change.Keep

unfoldable pub word : ℕ → Option ℕ → Outcome
word n (Some k) = goes (n + k) Change.Keep
word n None = Outcome.Wait

unfoldable pub close_tag : Bool → ℕ → List ℕ → Outcome
close_tag end n [] = ending end (goes (suc n) Change.Keep)
close_tag end n (b ∷ rest) =
    if b is ">" then goes (suc (suc n)) (Change.Swap Frame.Initial) else goes (suc n) Change.Keep

unfoldable pub scripting : Octal → ℕ → Bool → ℕ → List ℕ → Outcome
scripting octals depth end n [] = ending end (Outcome.Told [] n Change.Keep true)
scripting octals depth end n (b ∷ rest) =
    if b is "'" then literal literal_single_quoted_string n (text_at Mode.Single [] end (suc n) rest)
    else if b is "\"" then literal literal_double_quoted_string n (text_at (Mode.Double octals) [] end (suc n) rest)
    else if b is "`" then goes (suc n) (Change.Swap Frame.ShellExec)
    else if is_digit b then numbered n (number_at end n (b ∷ rest))
    else if b is "." then point end n rest
    else if is_start b then word n (named end 1 rest)
    else if b is "{" then goes (suc n) (Change.Enter Frame.Scripting)
    else if b is "}" then goes (suc n) (if ltb 1 depth then Change.Leave else Change.Keep)
    else if b is "?" then close_tag end n rest
    else if b is "<" then opened n (opening end (suc n) rest)
    else if b is "/" then slash end n (b ∷ rest) rest
    else if b is "#" then hash end n (b ∷ rest) rest
    else goes (suc n) Change.Keep
