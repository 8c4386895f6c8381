use Rattle.std.proofs.Common.{◌≡◌, ◌∷◌, Bool, true, false, ◌||◌, ◌&&◌, ◌∙◌, arith}
use Rattle.std.proofs.lemmas.List.{nil_from_length}
use Rattle.region.specs.Runs.{IsMaximalRuns, in_runs}
use Rattle.region.proofs.Gaps.{prefix_cells, gap_cells, next_order}
use Rattle.region.proofs.Order.{IsMaximalRuns-back}
use Rattle.region.proofs.walks.remainders.Goals as goal

pub returns-in_default-split_first-clause-cells : goal.returns-in_default-split_first-clause-cells
returns-in_default-split_first-clause-cells c q =
    let inv = c.loop-cut.invariant in
    let given = prefix_cells c.loop-cut.out.items c.push_before-rest.new.out.items c.loop-cut.runs.now c.push_before-rest.result.now c.loop-cut.cuts.now
    c.in-Some.cut.now c.in-Some.field-0-1.now
    c.in-Some.ensures.cases.0 inv.second q (c.push_before-rest.ensures.cells q) (c.push_before-rest.ensures.before q) in
    let all = nil_from_length c.push_before-rest.result.now c.in_default-split_first.ensures.cases in
    or-false (in_runs c.push_before-rest.new.out.items q) ∙ rw all at given ∙ inv.cells q
  where
    or-false : (b : Bool) → b ≡ (b || false)
    or-false b = grind arith

pub push_gaps-cuts-requires-clause-run : goal.push_gaps-cuts-requires-clause-run
push_gaps-cuts-requires-clause-run c =
    let left = c.push_before-rest.ensures.left in
    let rest : IsMaximalRuns c.push_before-rest.result.now =
    IsMaximalRuns-back left.0 c.push_before-rest.result.now (rw left.1.whole at c.loop-cut.invariant.first) in
    (rw c.in-Some-split_first.ensures.cases.0 at rest).0

pub loop-cut-preserved : goal.loop-cut-preserved
loop-cut-preserved c =
    let inv = c.loop-cut.invariant in
    let before = c.push_before-rest.ensures in
    let gaps = c.push_gaps-cuts.ensures in
    let is = c.in-Some-split_first.ensures.cases.0 in
    let run = c.in-Some-split_first.run'.now in
    let others = c.in-Some-split_first.others.now in
    let rest : IsMaximalRuns c.push_before-rest.result.now =
    IsMaximalRuns-back before.left.0 c.push_before-rest.result.now (rw before.left.1.whole at inv.first) in
    let left : IsMaximalRuns (run ∷ others) = rw is at rest in
    record {
      room = omega (arith, inv.room, before.len, before.capacity, gaps.len, gaps.capacity, c.in-Some-split_first.ensures.cases.1);
      out = gaps.runs;
      first = left.2;
      second = gaps.rest;
      order = next_order c.push_gaps-cuts.new.out.items run others left gaps.ended;
      cells = λ q.
          gap_cells c.push_before-rest.new.out.items c.push_gaps-cuts.new.out.items c.push_before-rest.result.now c.loop-cut.cuts.now
          c.push_gaps-cuts.result.now run others is left q (gaps.cells q) (gaps.later q)
          ∙ prefix_cells c.loop-cut.out.items c.push_before-rest.new.out.items c.loop-cut.runs.now c.push_before-rest.result.now c.loop-cut.cuts.now
          c.in-Some.cut.now c.in-Some.field-0-1.now
          c.in-Some.ensures.cases.0 inv.second q (before.cells q) (before.before q)
          ∙ inv.cells q;
    }

pub returns-clause-cells : goal.returns-clause-cells
returns-clause-cells c q =
    let all = nil_from_length c.loop-cut.cuts.now c.in_default.ensures.cases in
    c.push_runs.ensures.cells q ∙ none_cut (in_runs c.loop-cut.out.items q) (in_runs c.loop-cut.runs.now q) ∙ rw all at (c.loop-cut.invariant.cells q)
  where
    none_cut : (o r : Bool) → (o || r) ≡ (o || (r && true))
    none_cut o r = grind arith
