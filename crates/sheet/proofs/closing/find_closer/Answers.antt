-- `sheet::closing::find_closer` meets its contract: the loop keeps `Finding`. Assumes nothing.

use Rattle.sheet.proofs.Turns.{finding}
use Rattle.sheet.proofs.closing.find_closer.Goals as goal

pub loop-i-init : goal.loop-i-init
loop-i-init c = search finding

pub returns-in-Closes : goal.returns-in-Closes
returns-in-Closes c = search finding

pub returns-in-Undecided : goal.returns-in-Undecided
returns-in-Undecided c = search finding

pub loop-i-preserved : goal.loop-i-preserved
loop-i-preserved c = search finding

pub returns-then-end : goal.returns-then-end
returns-then-end c = search finding

pub returns-else-end : goal.returns-else-end
returns-else-end c = search finding

pub overflow_add-result : goal.overflow_add-result
overflow_add-result c = search finding
