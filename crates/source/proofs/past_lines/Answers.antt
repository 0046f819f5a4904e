use Rattle.source.proofs.Counts.{passing_lines}
use Rattle.source.proofs.past_lines.Goals as goal

pub overflow_add-result : goal.overflow_add-result
overflow_add-result c = search passing_lines

pub overflow_add-result-2 : goal.overflow_add-result-2
overflow_add-result-2 c = search passing_lines
