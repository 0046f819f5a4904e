-- Each way through the match is a law of `Nexts`.
use Rattle.std.proofs.Common.{rules}
use Rattle.commit.proofs.Nexts.{commits}
use Rattle.commit.proofs.commit.Goals as goal

pub write_work-requires-clause-works : goal.write_work-requires-clause-works
write_work-requires-clause-works g c = search (commits, rules)

pub span_at-span-requires : goal.span_at-span-requires
span_at-span-requires g c = search (commits, rules)

pub returns-else-is_full : goal.returns-else-is_full
returns-else-is_full g c = search (commits, rules)

pub returns-in-Refused : goal.returns-in-Refused
returns-in-Refused g c = search (commits, rules)

pub returns-then-is_full : goal.returns-then-is_full
returns-then-is_full g c = search (commits, rules)

pub returns-in-Wait : goal.returns-in-Wait
returns-in-Wait g c = search (commits, rules)
