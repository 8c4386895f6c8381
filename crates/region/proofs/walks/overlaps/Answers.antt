use Rattle.std.proofs.Common.{◌≡◌, Bool, false, ◌||◌, ◌&&◌, ◌∙◌, arith}
use Rattle.std.proofs.lemmas.List.{nil_from_length}
use Rattle.region.specs.Runs.{IsMaximalRuns, in_runs}
use Rattle.region.proofs.Order.{IsMaximalRuns-back}
use Rattle.region.proofs.Shared.{share_cells, and_turned}
use Rattle.region.proofs.walks.overlaps.Goals as goal

pub push_shared-first-requires-clause-order : goal.push_shared-first-requires-clause-order
push_shared-first-requires-clause-order c q from_second from = c.loop-next.invariant.order q from (rw c.in-Some.ensures.cases.0 from_second)

pub returns-in_default-split_first-clause-cells : goal.returns-in_default-split_first-clause-cells
returns-in_default-split_first-clause-cells c q =
    let inv = c.loop-next.invariant in
    let one = c.push_shared-first.ensures in
    let given = share_cells c.loop-next.out.items c.push_shared-first.new.out.items c.loop-next.first.now one.left.0 c.push_shared-first.result.now
    c.loop-next.second.now c.in-Some.next.now
    c.in-Some.field-0-1.now c.in-Some.ensures.cases.0 inv.second one.left.1 q (one.cells q) (one.within q) in
    let all = nil_from_length c.push_shared-first.result.now c.in_default-split_first.ensures.cases in
    or-false (in_runs c.push_shared-first.new.out.items q) ∙ rw all at given ∙ inv.cells q
  where
    or-false : (b : Bool) → b ≡ (b || false)
    or-false b = grind arith

pub push_shared-second-requires-clause-other : goal.push_shared-second-requires-clause-other
push_shared-second-requires-clause-other c =
    let left = c.push_shared-first.ensures.left in
    let rest : IsMaximalRuns c.push_shared-first.result.now =
    IsMaximalRuns-back left.0 c.push_shared-first.result.now (rw left.1.whole at c.loop-next.invariant.first) in
    (rw c.in-Some-split_first.ensures.cases.0 at rest).0

pub push_shared-second-requires-clause-order : goal.push_shared-second-requires-clause-order
push_shared-second-requires-clause-order c q from from_second =
    c.push_shared-first.ensures.order q (rw c.in-Some.ensures.cases.0 at from_second) (rw c.in-Some-split_first.ensures.cases.0 from)

pub loop-next-preserved : goal.loop-next-preserved
loop-next-preserved c =
    let inv = c.loop-next.invariant in
    let one = c.push_shared-first.ensures in
    let two = c.push_shared-second.ensures in
    let is = c.in-Some-split_first.ensures.cases.0 in
    let first : IsMaximalRuns c.push_shared-first.result.now =
    IsMaximalRuns-back one.left.0 c.push_shared-first.result.now (rw one.left.1.whole at inv.first) in
    record {
      room = omega (arith, inv.room, one.len, one.capacity, two.len, two.capacity);
      out = two.runs;
      first = first;
      second = IsMaximalRuns-back two.left.0 c.push_shared-second.result.now (rw two.left.1.whole at inv.second);
      order = λ q from from_second. two.order q (rw is at from) from_second;
      cells = λ q.
          and_turned (in_runs c.push_shared-second.new.out.items q) (in_runs c.push_shared-first.result.now q) (in_runs c.push_shared-second.result.now q)
          ∙ share_cells c.push_shared-first.new.out.items c.push_shared-second.new.out.items c.loop-next.second.now two.left.0 c.push_shared-second.result.now
          c.push_shared-first.result.now
          c.in-Some-split_first.next.now c.in-Some-split_first.field-0-1.now is first two.left.1 q (two.cells q) (two.within q)
          ∙ and_turned (in_runs c.push_shared-first.new.out.items q) (in_runs c.loop-next.second.now q) (in_runs c.push_shared-first.result.now q)
          ∙ share_cells c.loop-next.out.items c.push_shared-first.new.out.items c.loop-next.first.now one.left.0 c.push_shared-first.result.now
          c.loop-next.second.now c.in-Some.next.now
          c.in-Some.field-0-1.now c.in-Some.ensures.cases.0 inv.second one.left.1 q (one.cells q) (one.within q)
          ∙ inv.cells q;
    }

pub returns-clause-cells : goal.returns-clause-cells
returns-clause-cells c q =
    let all = nil_from_length c.loop-next.second.now c.in_default.ensures.cases in
    none_left (in_runs c.loop-next.out.items q) (in_runs c.loop-next.first.now q) ∙ rw all at (c.loop-next.invariant.cells q)
  where
    none_left : (o f : Bool) → o ≡ (o || (f && false))
    none_left o f = grind arith
