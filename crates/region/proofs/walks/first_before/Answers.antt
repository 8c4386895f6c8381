use Rattle.std.proofs.Common.{◌∙◌}
use Rattle.region.proofs.Before.{first_only, within_order_of}
use Rattle.region.proofs.walks.first_before.Goals as goal

pub returns-clause-cells : goal.returns-clause-cells
returns-clause-cells c q =
    let is = c.in_ok-first.ensures.cases.0 in
    rw is (c.before-2.ensures.cells q ∙ first_only c.in_ok-first.first.now c.in_ok-first.field-0-1.now c.args.other q (rw is at c.requires.runs)
    (rw is at c.requires.lasts))

pub returns-clause-order : goal.returns-clause-order
returns-clause-order c out h = within_order_of out c.before-2.result c.in_ok-first.first.now c.before-2.ensures.within (rw c.in_ok-first.ensures.cases.0 at h)
