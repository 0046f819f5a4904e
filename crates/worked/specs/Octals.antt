-- Worked cases of request P5: octal escapes as the manual has them, beside the Rust's refusal. Rows as in Sheets.antt.
--   H   `\400` is 0, `\777` is 255: the low eight bits; three digits at most; a number below 256 is the same under
--       either choice
--   I   the byte begins nothing: `\442` closes no string, `\444` begins no variable, `\573` before `$` is no `{$`
--   J   at Scripting, and after an interpolation
--   K   in a heredoc, where an LF from `\412` is lost before a variable as one from `\n` is
--   L   with more announced: two digits wait under either choice; three are refused at once, or they are settled and
--       the open string waits
-- `octals_hold` (proofs/Octals.antt) is the statement: every row finds what it says.
use Rattle.std.specs.Prelude.{ℕ, true, false, List, [], ◌∷◌, ◌++◌}
use Rattle.byte.specs.declared.Octal.{Octal}
use Rattle.byte.specs.Words.{bytes}
use Rattle.byte.specs.Refusals.{invalid_octal_escape, wait}
use Rattle.source.specs.Cursor.{origin}
use Rattle.state.specs.declared.Choices.{Choices}
use Rattle.state.specs.declared.Frame.{Frame}
use Rattle.state.specs.declared.Reading.{Reading}
use Rattle.token.specs.Kinds.{string_part, variable, end_doc_string_none, literal_double_quoted_string}
use Rattle.worked.specs.Sheets.{Call, Step, Double, Sheet, Found, ported, at, one, done, refused, row}

abbrev manual : Choices
manual = record { nowdocs = Reading.Ported; octals = Octal.Manual }

abbrev literal : ℕ → List ℕ → Found
literal after value = done after (one literal_double_quoted_string value)

-- a heredoc whose label x stands at 6
abbrev heredoc : Choices → Call
heredoc choices = Step (Frame.Heredoc (record { start = 6; len = 1 })) choices

unfoldable pub octals : List Sheet
octals =
    row "H" (Double Octal.Manual) true "\\400\"" (literal 5 (0 ∷ []))
    ∷ row "H" (Double Octal.Manual) true "\\777\"" (literal 5 (255 ∷ []))
    ∷ row "H" (Double Octal.Manual) true "\\501\"" (literal 5 (bytes "A"))
    ∷ row "H" (Double Octal.Manual) true "\\4000\"" (literal 6 (0 ∷ bytes "0"))
    ∷ row "H" (Double Octal.Manual) true "\\377\"" (literal 5 (255 ∷ []))
    ∷ row "I" (Double Octal.Manual) true "\\442\"" (literal 5 (bytes "\""))
    ∷ row "I" (Double Octal.Manual) true "\\444a\"" (literal 6 (bytes "$a"))
    ∷ row "I" (Double Octal.Manual) true "\\573$a\"" (done 4 (one string_part (bytes "{")))
    ∷ row "J" (Step Frame.Scripting manual) true "\"\\400\"" (literal 6 (0 ∷ []))
    ∷ row "J" (Step Frame.Scripting ported) true "\"\\400\"" (refused invalid_octal_escape (at 1 6 5))
    ∷ row "J" (Step Frame.DoubleQuote manual) true "\\400$a"
    (done 6 (one string_part (0 ∷ []) ++ one variable (bytes "$a")))
    ∷ row "J" (Step Frame.DoubleQuote ported) true "\\400$a" (refused invalid_octal_escape (at 1 5 4))
    ∷ row "K" (heredoc manual) true "a\\412$x;" (done 7 (one string_part (bytes "a") ++ one variable (bytes "$x")))
    ∷ row "K" (heredoc manual) true "a\\400\nx;"
    (done 7 (one string_part (bytes "a" ++ 0 ∷ []) ++ one end_doc_string_none (bytes "x")))
    ∷ row "K" (heredoc ported) true "a\\400\nx;" (refused invalid_octal_escape (at 1 6 5))
    ∷ row "L" (Double Octal.Rust) false "\\40" (refused wait origin)
    ∷ row "L" (Double Octal.Manual) false "\\40" (refused wait origin)
    ∷ row "L" (Double Octal.Rust) false "\\400" (refused invalid_octal_escape (at 1 5 4))
    ∷ row "L" (Double Octal.Manual) false "\\400" (refused wait origin)
    ∷ row "L" (Double Octal.Manual) false "\\400\"" (literal 5 (0 ∷ []))
    ∷ []
