-- A look at the middle record leaves the records after it, or those before.
use Rattle.std.proofs.Common.{rules}
use Rattle.lookup.proofs.Lookups.{searching}
use Rattle.lookup.proofs.search.Goals as goal

pub loop-low-preserved-then-at-list : goal.loop-low-preserved-then-at-list
loop-low-preserved-then-at-list c = search (searching, rules)

pub loop-low-preserved : goal.loop-low-preserved
loop-low-preserved c = search (searching, rules)

pub returns : goal.returns
returns c = search (searching, rules)
