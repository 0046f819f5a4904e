-- Each answer of the scan is a clause of the reading.
use Rattle.std.proofs.Common.{rules}
use Rattle.probe.proofs.Probes.{valuings}
use Rattle.probe.proofs.puretakoi_probe_value.Goals as goal

pub returns-then-value-len : goal.returns-then-value-len
returns-then-value-len c = search (valuings, rules)

pub returns-else-value-len : goal.returns-else-value-len
returns-else-value-len c = search (valuings, rules)

pub returns-in-Refused : goal.returns-in-Refused
returns-in-Refused c = search (valuings, rules)

pub returns-in-Wait : goal.returns-in-Wait
returns-in-Wait c = search (valuings, rules)

pub read_text-requires : goal.read_text-requires
read_text-requires c = search (valuings, rules)
