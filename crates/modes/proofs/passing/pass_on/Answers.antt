-- `modes::passing::pass_on` meets its contract: each of these is a law of `Runs`. Assumes nothing.
use Rattle.modes.proofs.Runs.{running}
use Rattle.modes.proofs.passing.pass_on.Goals as goal

pub returns-then-next-span : goal.returns-then-next-span
returns-then-next-span c = search running

pub loop-left-preserved : goal.loop-left-preserved
loop-left-preserved c = search running
