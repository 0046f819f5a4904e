-- What can be taken is measured.
use Rattle.std.proofs.Common.{rules}
use Rattle.probe.proofs.Probes.{askings}
use Rattle.probe.proofs.scanned.Goals as goal

pub returns : goal.returns
returns c = search (askings, rules)
