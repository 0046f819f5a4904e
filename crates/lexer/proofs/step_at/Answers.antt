-- What `commit` gives of the plan is what the call comes to: a law of `Calls`.
use Rattle.std.proofs.Common.{rules}
use Rattle.lexer.proofs.Calls.{steps}
use Rattle.lexer.proofs.step_at.Goals as goal

pub returns : goal.returns
returns c = search (steps, rules)
