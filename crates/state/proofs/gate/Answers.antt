use Rattle.std.proofs.Common.{◌∙◌}
use Rattle.state.proofs.Gates.{gate_session}
use Rattle.state.proofs.gate.Goals as goal

pub returns : goal.returns
returns c = c.gate_over.ensures ∙ gate_session c.args.src.now c.args.s _ c.span_of.ensures
