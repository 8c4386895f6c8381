use Rattle.std.proofs.Common.{[]}
use Rattle.region.proofs.Order.{append_none}
use Rattle.region.proofs.walks.push_optional.Goals as goal

pub returns-in-Some-clause-runs : goal.returns-in-Some-clause-runs
returns-in-Some-clause-runs c = rw (append_none c.push_run.new.runs.items) at (c.push_run.ensures.runs [] (rw c.in-Some.is at c.requires.optional, tt, tt))
