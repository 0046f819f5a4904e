-- What the theorems ask of a text block's label (document 01, refusal 12): an empty label would be told before all its blanks are
-- seen.
--   Label      one byte or more, all of them identifier bytes
--   Labelled   heredoc and nowdoc have one; the other modes don't look at it
use Rattle.std.specs.Prelude.{ℕ, ◌<◌, true, List, ◌≡◌, refl, length}
use Rattle.std.proofs.Common.{lit<}
use Rattle.byte.specs.Words.{every, bytes}
use Rattle.byte.specs.Bytes.{is_identifier, is_start, is_letter, is_digit}
use Rattle.byte.specs.Demand.{is_byte}
use Rattle.unit.specs.declared.Mode.{Mode}

pub record Label (label : List ℕ) : Type 0 where
  pub some : 0 < length label
  pub identifiers : every is_identifier label ≡ true
  pub bytes : every is_byte label ≡ true

abbrev pub Labelled : Mode → List ℕ → Type 0
Labelled Mode.Single label = Unit {0}
Labelled (Mode.Double octals) label = Unit {0}
Labelled (Mode.DoubleQuote octals) label = Unit {0}
Labelled Mode.ShellExec label = Unit {0}
Labelled (Mode.Heredoc octals) label = Label label
Labelled Mode.Nowdoc label = Label label

end_of_text : Label (bytes "EOT")
unfolding bytes every is_identifier is_start is_letter is_digit
end_of_text = record { some = lit< tt; identifiers = refl; bytes = refl }
