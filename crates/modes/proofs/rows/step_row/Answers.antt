-- `modes::rows::step_row` meets its contract: each of these returns is a law of `Calls`. Assumes nothing.
use Rattle.modes.proofs.Calls.{step_rows}
use Rattle.modes.proofs.rows.step_row.Goals as goal

pub returns-in-Initial : goal.returns-in-Initial
returns-in-Initial c = search step_rows

pub returns-in-Scripting : goal.returns-in-Scripting
returns-in-Scripting c = search step_rows

pub returns-in-DoubleQuote : goal.returns-in-DoubleQuote
returns-in-DoubleQuote c = search step_rows

pub returns-in-ShellExec : goal.returns-in-ShellExec
returns-in-ShellExec c = search step_rows

pub returns-in-Heredoc : goal.returns-in-Heredoc
returns-in-Heredoc c = search step_rows

pub returns-in-Nowdoc : goal.returns-in-Nowdoc
returns-in-Nowdoc c = search step_rows

pub returns-in-LookingForVarname : goal.returns-in-LookingForVarname
returns-in-LookingForVarname c = search step_rows

pub returns-in-LookingForProperty : goal.returns-in-LookingForProperty
returns-in-LookingForProperty c = search step_rows

pub returns-in-VarOffset : goal.returns-in-VarOffset
returns-in-VarOffset c = search step_rows
