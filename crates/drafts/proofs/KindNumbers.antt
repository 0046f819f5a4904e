-- The kinds that the code gives have the numbers of the outcome's definitions. Assumes nothing.
use mathlib.Core.Path.{◌≡◌, refl}
use Rattle.token.specs.Kinds.{kind_number}
use Rattle.unit.specs.declared.Indentation.{Indentation}
use Rattle.unit.specs.declared.Mode.{Mode}
use Rattle.unit.specs.declared.Stop.{Stop}
use Rattle.number.specs.declared.Literal.{Literal}
use Rattle.outcome.specs.Texts as outcome
use Rattle.drafts.specs.Code.{doc_kind, quote_kind, stop_kind, number_kind}

doc_numbered : (ind : Indentation) → kind_number (doc_kind ind) ≡ outcome.doc_kind ind
unfolding doc_kind outcome.doc_kind
doc_numbered Indentation.None = refl
doc_numbered Indentation.Space = refl
doc_numbered Indentation.Tab = refl
doc_numbered Indentation.Mixed = refl

quote_numbered : (mode : Mode) → kind_number (quote_kind mode) ≡ outcome.quote_kind mode
unfolding quote_kind outcome.quote_kind
quote_numbered Mode.ShellExec = refl
quote_numbered Mode.Single = refl
quote_numbered (Mode.Double octals) = refl
quote_numbered (Mode.DoubleQuote octals) = refl
quote_numbered (Mode.Heredoc octals) = refl
quote_numbered Mode.Nowdoc = refl

pub stop_numbered : (mode : Mode) (stop : Stop) → kind_number (stop_kind mode stop) ≡ outcome.stop_kind mode stop
unfolding stop_kind outcome.stop_kind
stop_numbered mode Stop.Quote = quote_numbered mode
stop_numbered mode Stop.Interpolation = refl
stop_numbered mode Stop.DollarLeftBrace = refl
stop_numbered mode Stop.LeftBrace = refl
stop_numbered mode (Stop.Variable f) = refl
stop_numbered mode (Stop.Label ind amount) = doc_numbered ind

pub number_numbered : (literal : Literal) → kind_number (number_kind literal) ≡ outcome.number_kind literal
unfolding number_kind outcome.number_kind
number_numbered Literal.Integer = refl
number_numbered Literal.Float = refl
