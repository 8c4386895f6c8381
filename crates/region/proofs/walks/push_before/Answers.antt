use Rattle.std.proofs.Common.{◌≡◌, ℕ, ◌+◌, ◌++◌, refl, ◌∙◌, ◌||◌, ◌&&◌}
use Rattle.region.specs.Runs.{in_runs}
use Rattle.region.specs.Walks.{is_before}
use Rattle.region.proofs.Before.{whole, taken, before_cells, before_none}
use Rattle.region.proofs.Order.{IsMaximalRuns-prefix, IsMaximalRuns-back}
use Rattle.region.proofs.Splits.{advanced, EndBeforeFirst-prefix}
use Rattle.region.proofs.walks.push_before.Goals as goal

pub push_runs-requires-clause-second : goal.push_runs-requires-clause-second
push_runs-requires-clause-second c = IsMaximalRuns-prefix c.split_at_start.result.0.now c.split_at_start.result.1.now
    (rw c.split_at_start.ensures.whole at c.requires.second)

pub split_at_end-requires-clause-runs : goal.split_at_end-requires-clause-runs
split_at_end-requires-clause-runs c = IsMaximalRuns-back c.split_at_start.result.0.now c.split_at_start.result.1.now
    (rw c.split_at_start.ensures.whole at c.requires.second)

pub first_before-requires-clause-runs : goal.first_before-requires-clause-runs
first_before-requires-clause-runs c =
    IsMaximalRuns-prefix c.split_at_end.result.0.now c.split_at_end.result.1.now
    (rw c.split_at_end.ensures.whole at (IsMaximalRuns-back c.split_at_start.result.0.now c.split_at_start.result.1.now
    (rw c.split_at_start.ensures.whole at c.requires.second)))

pub push_optional-requires-clause-order : goal.push_optional-requires-clause-order
push_optional-requires-clause-order c =
    let prefix = c.split_at_start.result.0.now in
    let cut = c.split_at_end.result.0.now in
    let rest = c.split_at_end.result.1.now in
    let is = whole c.args.runs.now prefix cut c.split_at_start.result.1.now rest c.args.other
    (c.args.other.x + c.args.other.len) c.requires.other refl c.split_at_start.ensures c.split_at_end.ensures in
    c.first_before.ensures.order c.push_runs.new.out.items
    (EndBeforeFirst-prefix c.push_runs.new.out.items cut rest
    (advanced c.args.out.now.items c.push_runs.new.out.items prefix (cut ++ rest) (rw is at c.requires.second) (rw is at c.requires.order)
    c.push_runs.ensures.ended))

pub returns-clause-cells : goal.returns-clause-cells
returns-clause-cells c q =
    let prefix = c.split_at_start.result.0.now in
    let cut = c.split_at_end.result.0.now in
    let given : in_runs c.push_optional.new.out.items q ≡ ((in_runs c.args.out.now.items q || in_runs prefix q) ||
    (in_runs cut q && is_before q c.args.other)) =
    c.push_optional.ensures.cells q ∙ rw (c.push_runs.ensures.cells q, c.first_before.ensures.cells q) refl in
    before_cells c.args.runs.now prefix cut c.split_at_start.result.1.now c.split_at_end.result.1.now c.args.other
    (c.args.other.x + c.args.other.len) c.requires.other refl c.split_at_start.ensures c.split_at_end.ensures
    c.args.out.now.items c.push_optional.new.out.items q given

pub returns-clause-before : goal.returns-clause-before
returns-clause-before c q from =
    let prefix = c.split_at_start.result.0.now in
    let cut = c.split_at_end.result.0.now in
    let given : in_runs c.push_optional.new.out.items q ≡ ((in_runs c.args.out.now.items q || in_runs prefix q) ||
    (in_runs cut q && is_before q c.args.other)) =
    c.push_optional.ensures.cells q ∙ rw (c.push_runs.ensures.cells q, c.first_before.ensures.cells q) refl in
    before_none c.args.runs.now prefix cut c.split_at_start.result.1.now c.split_at_end.result.1.now c.args.other
    (c.args.other.x + c.args.other.len) c.requires.other refl c.split_at_start.ensures c.split_at_end.ensures
    c.args.out.now.items c.push_optional.new.out.items q given from

pub returns-clause-left : goal.returns-clause-left
returns-clause-left c =
    let prefix = c.split_at_start.result.0.now in
    let cut = c.split_at_end.result.0.now in (
      prefix ++ cut,
      taken c.args.runs.now prefix cut c.split_at_start.result.1.now c.split_at_end.result.1.now c.args.other
          (c.args.other.x + c.args.other.len) c.requires.other refl c.split_at_start.ensures c.split_at_end.ensures,
    )

pub returns-clause-order : goal.returns-clause-order
returns-clause-order c =
    let prefix = c.split_at_start.result.0.now in
    let cut = c.split_at_end.result.0.now in
    let rest = c.split_at_end.result.1.now in
    let is = whole c.args.runs.now prefix cut c.split_at_start.result.1.now rest c.args.other
    (c.args.other.x + c.args.other.len) c.requires.other refl c.split_at_start.ensures c.split_at_end.ensures in
    let behind = advanced c.args.out.now.items c.push_runs.new.out.items prefix (cut ++ rest) (rw is at c.requires.second)
    (rw is at c.requires.order) c.push_runs.ensures.ended in
    advanced c.push_runs.new.out.items c.push_optional.new.out.items cut rest (IsMaximalRuns-back prefix (cut ++ rest) (rw is at c.requires.second)) behind
    (λ q h k. c.push_optional.ensures.ended q h (c.first_before.ensures.ended q k))

pub returns-clause-ended : goal.returns-clause-ended
returns-clause-ended c h =
    let q : ℕ × ℕ = (c.args.other.x, c.args.other.y) in
    c.push_optional.ensures.ended q (c.push_runs.ensures.ended q h c.split_at_start.ensures.ended) c.first_before.ensures.before
