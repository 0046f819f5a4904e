use Rattle.std.proofs.Common.{rules}
use Rattle.state.proofs.Bounds.{is_label_bytes}
use Rattle.state.proofs.is_label.Goals as goal

pub returns : goal.returns
returns c = is_label_bytes _ _ c.if-len-lt1.false c.if-len-gt64.false _ _ c.if-src-end.false (search rules) c.run_end.ensures
