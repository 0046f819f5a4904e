-- The two choices for octal escapes beside each other, and in every mode that has them (document 02, P5).
-- `text_chosen` (proofs/Octals.antt) says: where the Rust's does not give 3, the manual's gives the same. `unit_manual`
-- and `unit_overflow` say what a backslash means in such a mode.
--   with_octals     the mode with this choice
--   reads_escapes   the modes with octal escapes: a double-quoted literal, what comes after its interpolation, a
--                   heredoc
use Rattle.std.specs.Prelude.{Bool, true, false}
use Rattle.byte.specs.declared.Octal.{Octal}
use Rattle.unit.specs.declared.Mode.{Mode}

unfoldable pub with_octals : Octal → Mode → Mode
with_octals octals Mode.Single = Mode.Single
with_octals octals (Mode.Double other) = Mode.Double octals
with_octals octals (Mode.DoubleQuote other) = Mode.DoubleQuote octals
with_octals octals Mode.ShellExec = Mode.ShellExec
with_octals octals (Mode.Heredoc other) = Mode.Heredoc octals
with_octals octals Mode.Nowdoc = Mode.Nowdoc

unfoldable pub reads_escapes : Mode → Bool
reads_escapes Mode.Single = false
reads_escapes (Mode.Double octals) = true
reads_escapes (Mode.DoubleQuote octals) = true
reads_escapes Mode.ShellExec = false
reads_escapes (Mode.Heredoc octals) = true
reads_escapes Mode.Nowdoc = false
