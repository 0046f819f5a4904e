-- By the last byte, where there is one. Assumes nothing.
use Rattle.text.proofs.Scans.{last_break_none, last_break_end}
use Rattle.text.proofs.last_break.Goals as goal

pub returns-in-empty : goal.returns-in-empty
returns-in-empty c = last_break_none c.args.broken c.args.run.now c.in-empty.len_below

pub returns-in-len1-up : goal.returns-in-len1-up
returns-in-len1-up c = last_break_end c.args.broken c.args.run.now c.in-len1-up.len_at_least
