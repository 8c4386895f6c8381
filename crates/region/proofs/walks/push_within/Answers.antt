use Rattle.region.proofs.Shared.{shared_order, each_after, within_cells, within_order}
use Rattle.region.proofs.walks.push_within.Goals as goal

pub push_optional-requires-clause-order : goal.push_optional-requires-clause-order
push_optional-requires-clause-order c =
    shared_order c.args.out.now.items c.shared.result c.in-Some.first.now c.args.other c.shared.ensures.first c.shared.ensures.second
    (rw c.in-Some.ensures.cases.0 at c.requires.order)

pub push_runs-requires-clause-order : goal.push_runs-requires-clause-order
push_runs-requires-clause-order c =
    let is = c.in-Some.ensures.cases.0 in
    within_order c.in-Some.first.now c.in-Some.others.now c.args.other c.requires.other (rw is at c.requires.second) (rw is at c.requires.lasts)
    (rw is at c.requires.within)
    c.args.out.now.items c.push_optional.new.out.items c.shared.result c.shared.ensures.first (rw is at c.requires.order) c.push_optional.ensures.ended

pub returns-in-Some-clause-cells : goal.returns-in-Some-clause-cells
returns-in-Some-clause-cells c q =
    let is = c.in-Some.ensures.cases.0 in
    rw is
    (within_cells c.in-Some.first.now c.in-Some.others.now c.args.other c.requires.other (rw is at c.requires.second) (rw is at c.requires.lasts)
    (rw is at c.requires.within)
    c.args.out.now.items c.push_optional.new.out.items c.push_runs.new.out.items c.shared.result q (c.push_optional.ensures.cells q)
    (c.push_runs.ensures.cells q) (c.shared.ensures.cells q))

pub returns-in-Some-clause-ended : goal.returns-in-Some-clause-ended
returns-in-Some-clause-ended c q h k =
    let all = rw c.in-Some.ensures.cases.0 at k in
    c.push_runs.ensures.ended q (c.push_optional.ensures.ended q h (each_after c.shared.result c.in-Some.first.now q c.shared.ensures.first all.0)) all.1
