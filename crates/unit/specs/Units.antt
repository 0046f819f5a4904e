-- What stands at a place, mode by mode: the modes differ in their units and in nothing else. The byte at n is b, the bytes after
-- it are `rest`, and `end` says that the text is all there.
use Rattle.std.specs.Prelude.{ℕ, suc, Bool, List, if◌then◌else◌}
use Rattle.byte.specs.Words.{◌is◌}
use Rattle.unit.specs.declared.Indentation.{Indentation}
use Rattle.unit.specs.declared.Mode.{Mode}
use Rattle.unit.specs.declared.Stop.{Stop}
use Rattle.unit.specs.declared.TextUnit.{TextUnit}
use Rattle.unit.specs.Escapes.{escape, quote_escape}
use Rattle.unit.specs.Interpolations.{plain, dollar, brace, find_dollar, find_brace}
use Rattle.unit.specs.Closers.{line}

abbrev pub quote : ℕ → TextUnit
quote n = TextUnit.Ends Stop.Quote n (suc n)

unfoldable pub unit_at : Mode → List ℕ → Bool → ℕ → ℕ → List ℕ → TextUnit
unit_at Mode.Single label end n b rest =
    if b is "'" then quote n
    else if b is "\\" then quote_escape end (suc n) rest
    else plain b n
unit_at (Mode.Double octals) label end n b rest =
    if b is "\"" then quote n
    else if b is "\\" then escape octals end (suc n) rest
    else if b is "$" then find_dollar end n rest
    else if b is "{" then find_brace end n rest
    else plain b n
unit_at (Mode.DoubleQuote octals) label end n b rest =
    if b is "\"" then quote n
    else if b is "\\" then escape octals end (suc n) rest
    else if b is "$" then dollar end n rest
    else if b is "{" then brace end n rest
    else plain b n
unit_at Mode.ShellExec label end n b rest =
    if b is "`" then quote n
    else if b is "$" then dollar end n rest
    else if b is "{" then brace end n rest
    else plain b n
unit_at (Mode.Heredoc octals) label end n b rest =
    if b is "\n" then line label end n Indentation.None 0 rest
    else if b is "\\" then escape octals end (suc n) rest
    else if b is "$" then dollar end n rest
    else if b is "{" then brace end n rest
    else plain b n
unit_at Mode.Nowdoc label end n b rest = if b is "\n" then line label end n Indentation.None 0 rest else plain b n
