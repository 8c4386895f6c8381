use Rattle.std.proofs.Common.{◌≡◌, Bool, false, ◌||◌, ◌∙◌, arith}
use Rattle.std.proofs.lemmas.List.{nil_from_length}
use Rattle.region.specs.Runs.{IsMaximalRuns, in_runs}
use Rattle.region.specs.Walks.{HaveEnded}
use Rattle.region.proofs.Gaps.{either_cells, last_cells}
use Rattle.region.proofs.Order.{IsMaximalRuns-back}
use Rattle.region.proofs.walks.merged.Goals as goal

pub returns-in_default-split_first-clause-cells : goal.returns-in_default-split_first-clause-cells
returns-in_default-split_first-clause-cells c q =
    let inv = c.loop-next.invariant in
    c.push_runs.ensures.cells q
    ∙ last_cells c.loop-next.out.items c.push_before-first.new.out.items c.loop-next.first.now c.push_before-first.result.now c.loop-next.second.now
    c.in-Some.next.now c.in-Some.field-0-1.now q (nil_from_length c.push_before-first.result.now c.in_default-split_first.ensures.cases)
    c.in-Some.ensures.cases.0 (c.push_before-first.ensures.cells q)
    ∙ inv.cells q

pub push_before-second-requires-clause-other : goal.push_before-second-requires-clause-other
push_before-second-requires-clause-other c =
    let left = c.push_before-first.ensures.left in
    let rest : IsMaximalRuns c.push_before-first.result.now =
    IsMaximalRuns-back left.0 c.push_before-first.result.now (rw left.1.whole at c.loop-next.invariant.first) in
    (rw c.in-Some-split_first.ensures.cases.0 at rest).0

pub loop-next-preserved : goal.loop-next-preserved
loop-next-preserved c =
    let inv = c.loop-next.invariant in
    let one = c.push_before-first.ensures in
    let two = c.push_before-second.ensures in
    let is = c.in-Some-split_first.ensures.cases.0 in
    let r = c.in-Some-split_first.next.now in
    let ended : HaveEnded (r.x, r.y) c.push_before-first.new.out.items = rw is at one.order in
    record {
      room = omega (arith, inv.room, one.len, one.capacity, two.len, two.capacity);
      out = two.runs;
      first = IsMaximalRuns-back one.left.0 c.push_before-first.result.now (rw one.left.1.whole at inv.first);
      second = IsMaximalRuns-back two.left.0 c.push_before-second.result.now (rw two.left.1.whole at inv.second);
      before_first = rw is (two.ended ended);
      before_second = two.order;
      cells = λ q.
          either_cells c.loop-next.out.items c.push_before-first.new.out.items c.push_before-second.new.out.items c.loop-next.first.now
          c.push_before-first.result.now c.loop-next.second.now
          c.push_before-second.result.now r c.in-Some.next.now c.in-Some-split_first.field-0-1.now c.in-Some.field-0-1.now q is c.in-Some.ensures.cases.0
          (one.cells q) (two.cells q)
          ∙ inv.cells q;
    }

pub returns-clause-cells : goal.returns-clause-cells
returns-clause-cells c q =
    let all = nil_from_length c.loop-next.second.now c.in_default.ensures.cases in
    c.push_runs-2.ensures.cells q ∙ none_left (in_runs c.loop-next.out.items q) (in_runs c.loop-next.first.now q) ∙ rw all at (c.loop-next.invariant.cells q)
  where
    none_left : (o f : Bool) → (o || f) ≡ (o || (f || false))
    none_left o f = grind arith
