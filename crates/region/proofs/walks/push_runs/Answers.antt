use Rattle.std.proofs.Common.{arith}
use Rattle.std.proofs.Math.Bool.{or_assoc}
use Rattle.region.specs.Runs.{in_run, in_runs}
use Rattle.region.proofs.Splits.{in_runs-append, HaveEnded-append}
use Rattle.region.proofs.walks.push_runs.Goals as goal

pub returns-then-not-is_empty-clause-cells : goal.returns-then-not-is_empty-clause-cells
returns-then-not-is_empty-clause-cells c q =
    let fits = c.extend_from_slice.ensures.succeeds (omega
    (arith, c.requires.room, c.push_run.ensures.len, c.push_run.ensures.capacity, c.in-Some.ensures.cases.1)) in
    rw (
      c.extend_from_slice.ensures.items,
      fits,
      c.in-Some.ensures.cases.0,
      in_runs-append c.push_run.new.runs.items c.in-Some.others.now q,
      c.push_run.ensures.cells q,
    ) (or_assoc (in_runs c.args.out.now.items q) (in_run c.in-Some.first.now q) (in_runs c.in-Some.others.now q))

pub returns-then-not-is_empty-clause-ended : goal.returns-then-not-is_empty-clause-ended
returns-then-not-is_empty-clause-ended c q h k =
    let fits = c.extend_from_slice.ensures.succeeds (omega
    (arith, c.requires.room, c.push_run.ensures.len, c.push_run.ensures.capacity, c.in-Some.ensures.cases.1)) in
    let both = rw c.in-Some.ensures.cases.0 at k in
    rw (c.extend_from_slice.ensures.items, fits) (HaveEnded-append c.push_run.new.runs.items c.in-Some.others.now q (c.push_run.ensures.ended q h both.0)
    both.1)
