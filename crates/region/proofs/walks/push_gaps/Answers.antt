use Rattle.std.proofs.Common.{ℕ, ◌+◌, ◌∷◌, ◌∙◌, sym, ap, length, length-append, arith}
use Rattle.region.specs.Runs.{IsMaximalRuns}
use Rattle.region.proofs.Before.{within_order_of}
use Rattle.region.proofs.Gaps.{option_len, within_itself, within_trans, within_ended, end_from, each_ended, start_cells, cut_cells, done_cells, gone_later}
use Rattle.region.proofs.Gaps.{left_order, end_to_start}
use Rattle.region.proofs.Order.{IsMaximalRuns-back}
use Rattle.region.proofs.Splits.{in_runs-from, HaveEnded-later}
use Rattle.region.proofs.walks.push_gaps.Goals as goal

pub loop-cut-init : goal.loop-cut-init
loop-cut-init c =
    let prefix = c.split_at_start.result.0.now in
    let rest = c.split_at_start.result.1.now in
    let run = c.args.run in
    record {
      room = omega (arith, length-append prefix rest, ap length c.split_at_start.ensures.whole);
      capacity = omega arith;
      runs = c.requires.first;
      others = IsMaximalRuns-back prefix rest (rw c.split_at_start.ensures.whole at c.requires.second);
      within = within_itself run c.requires.run;
      order = c.requires.order;
      cells = λ q. start_cells c.args.others.now prefix rest run _ q c.split_at_start.ensures;
      later = λ q from. sym (in_runs-from q (run.x, run.y) c.args.others.now prefix rest c.split_at_start.ensures (end_to_start run q from));
    }

pub push_optional-requires-clause-order : goal.push_optional-requires-clause-order
push_optional-requires-clause-order c = within_order_of c.loop-cut.out.items c.before-in-Some.result c.loop-cut.left c.before-in-Some.ensures.within
    c.loop-cut.invariant.order

pub loop-cut-preserved : goal.loop-cut-preserved
loop-cut-preserved c =
    let inv = c.loop-cut.invariant in
    let is = c.in-Some.ensures.cases.0 in
    let pushed = c.push_optional.ensures in
    let before = c.before-in-Some.ensures in
    let after = c.in-Some-after.ensures in
    let left = c.loop-cut.left in
    let cut = c.in-Some.cut.now in
    let behind = c.in-Some.behind.now in
    let others : IsMaximalRuns (cut ∷ behind) = rw is at inv.others in
    let within = within_trans c.in-Some-after.after left c.args.run after.within inv.within in
    record {
      room = omega (arith, inv.room, pushed.len, option_len c.before-in-Some.result, c.in-Some.ensures.cases.1);
      capacity = omega (arith, inv.capacity, pushed.capacity);
      runs = pushed.runs;
      others = others.2;
      within = within;
      order = left_order c.loop-cut.out.items c.push_optional.new.out.items c.before-in-Some.result left c.in-Some-after.after cut others.0 before.within
          before.order after.within after.order inv.order
          (pushed.ended (c.in-Some-after.after.x, c.in-Some-after.after.y));
      cells = λ q. cut_cells c.loop-cut.out.items c.push_optional.new.out.items c.before-in-Some.result left cut behind others pushed.cells before.cells
          c.in-Some-after.after q (after.cells q)
          ∙ rw is at (inv.cells q);
      later = λ q from. gone_later cut c.in-Some-after.after c.args.run behind _ q after.order within from (rw is at (inv.later q from));
    }

pub returns-in-None-clause-cells : goal.returns-in-None-clause-cells
returns-in-None-clause-cells c q =
    let inv = c.loop-cut.invariant in
    let is = c.in-Some.ensures.cases.0 in
    let others : IsMaximalRuns (c.in-Some.cut.now ∷ c.in-Some.behind.now) = rw is at inv.others in
    done_cells c.loop-cut.out.items c.push_optional.new.out.items c.before-in-Some.result c.loop-cut.left c.in-Some.cut.now c.in-Some.behind.now others
    c.push_optional.ensures.cells c.before-in-Some.ensures.cells q
    (c.in-None.ensures.cells q) ∙ rw is at (inv.cells q)

pub returns-in-None-clause-ended : goal.returns-in-None-clause-ended
returns-in-None-clause-ended c =
    let inv = c.loop-cut.invariant in
    let left = c.loop-cut.left in
    let end : ℕ × ℕ = (c.args.run.x + c.args.run.len, c.args.run.y) in
    c.push_optional.ensures.ended end (HaveEnded-later c.loop-cut.out.items (left.x, left.y) end inv.order (end_from left c.args.run inv.within))
    (each_ended c.before-in-Some.result left c.args.run c.before-in-Some.ensures.within inv.within)

pub returns-clause-ended : goal.returns-clause-ended
returns-clause-ended c =
    let inv = c.loop-cut.invariant in
    let left = c.loop-cut.left in
    let end : ℕ × ℕ = (c.args.run.x + c.args.run.len, c.args.run.y) in
    c.push_run.ensures.ended end (HaveEnded-later c.loop-cut.out.items (left.x, left.y) end inv.order (end_from left c.args.run inv.within))
    (within_ended left c.args.run inv.within)
