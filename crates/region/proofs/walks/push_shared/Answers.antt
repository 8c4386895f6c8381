use Rattle.std.proofs.Common.{◌≡◌, Bool, ◌+◌, refl, false, ◌||◌, ◌&&◌, ◌++◌, ◌∙◌, arith}
use Rattle.region.specs.Runs.{IsMaximalRuns, in_runs}
use Rattle.region.proofs.Before.{whole, taken, shared_cells}
use Rattle.region.proofs.Order.{IsMaximalRuns-prefix, IsMaximalRuns-back}
use Rattle.region.proofs.Shared.{from_first, from_prefix, prefix_ended}
use Rattle.region.proofs.Splits.{HaveEnded-back}
use Rattle.region.proofs.walks.push_shared.Goals as goal

pub split_at_end-requires-clause-runs : goal.split_at_end-requires-clause-runs
split_at_end-requires-clause-runs c = IsMaximalRuns-back c.split_at_start.result.0.now c.split_at_start.result.1.now
    (rw c.split_at_start.ensures.whole at c.requires.second)

pub push_within-requires-clause-second : goal.push_within-requires-clause-second
push_within-requires-clause-second c =
    IsMaximalRuns-prefix c.split_at_end.result.0.now c.split_at_end.result.1.now
    (rw c.split_at_end.ensures.whole at (IsMaximalRuns-back c.split_at_start.result.0.now c.split_at_start.result.1.now
    (rw c.split_at_start.ensures.whole at c.requires.second)))

pub push_within-requires-clause-order : goal.push_within-requires-clause-order
push_within-requires-clause-order c q from_other from_shared =
    let prefix = c.split_at_start.result.0.now in
    let shared = c.split_at_end.result.0.now in
    let rest = c.split_at_end.result.1.now in
    let is = whole c.args.runs.now prefix shared c.split_at_start.result.1.now rest c.args.other
    (c.args.other.x + c.args.other.len) c.requires.other refl c.split_at_start.ensures c.split_at_end.ensures in
    let from_all = from_first prefix (shared ++ rest) q (rw is at c.requires.second) (from_prefix shared rest q from_shared) in
    c.requires.order q from_other (rw is from_all)

pub returns-clause-cells : goal.returns-clause-cells
returns-clause-cells c q =
    shared_cells c.args.runs.now c.split_at_start.result.0.now c.split_at_end.result.0.now c.split_at_start.result.1.now c.split_at_end.result.1.now
    c.args.other (c.args.other.x + c.args.other.len) c.requires.other
    refl c.split_at_start.ensures c.split_at_end.ensures c.args.out.now.items c.push_within.new.out.items q (c.push_within.ensures.cells q)

pub returns-clause-within : goal.returns-clause-within
returns-clause-within c q outside = c.push_within.ensures.cells q ∙ rw outside (none (in_runs c.args.out.now.items q) (in_runs c.split_at_end.result.0.now q))
  where
    none : (o s : Bool) → (o || (s && false)) ≡ o
    none o s = grind arith

pub returns-clause-left : goal.returns-clause-left
returns-clause-left c =
    let prefix = c.split_at_start.result.0.now in
    let shared = c.split_at_end.result.0.now in (
      prefix ++ shared,
      taken c.args.runs.now prefix shared c.split_at_start.result.1.now c.split_at_end.result.1.now c.args.other
          (c.args.other.x + c.args.other.len) c.requires.other refl c.split_at_start.ensures
          c.split_at_end.ensures,
    )

pub returns-clause-order : goal.returns-clause-order
returns-clause-order c q from_other from_rest =
    let prefix = c.split_at_start.result.0.now in
    let shared = c.split_at_end.result.0.now in
    let rest = c.split_at_end.result.1.now in
    let is =
    (taken c.args.runs.now prefix shared c.split_at_start.result.1.now rest c.args.other
    (c.args.other.x + c.args.other.len) c.requires.other refl c.split_at_start.ensures c.split_at_end.ensures).whole in
    let runs : IsMaximalRuns ((prefix ++ shared) ++ rest) = rw is at c.requires.second in
    let from_all = from_first (prefix ++ shared) rest q runs from_rest in
    c.push_within.ensures.ended q (c.requires.order q from_other (rw is from_all))
    (HaveEnded-back prefix shared q (prefix_ended (prefix ++ shared) rest q runs from_rest))
