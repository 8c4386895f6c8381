use Rattle.std.proofs.Common.{ℕ, take, drop, sym, ap, ◌∙◌}
use Rattle.std.proofs.lemmas.List.{take-append-drop}
use Rattle.region.specs.Walks.{LastsTo, is_after}
use Rattle.region.proofs.Order.{IsMaximalRuns-prefix}
use Rattle.region.proofs.Splits.{split_on, lasts_at, lasts_past}
use Rattle.region.proofs.walks.split_far.Goals as goal
use Rattle.region.proofs.walks.split_far.Goals.{then-loop-window-test+else-ends_before, else-loop-window-test}

pub split_ended-requires : goal.split_ended-requires
split_ended-requires c = IsMaximalRuns-prefix (take c.loop-window.window c.args.runs.now) (drop c.loop-window.window c.args.runs.now)
    (rw (take-append-drop c.loop-window.window c.args.runs.now) c.requires)

pub returns : goal.returns
returns c =
    let q : ℕ × ℕ = (c.args.x, c.args.y) in
    let runs = c.args.runs.now in
    let lasts : LastsTo q (drop c.loop-window.window runs) = elim c.loop-window-test.branch [
      | then-loop-window-test+else-ends_before w ↦ lasts_at q runs c.loop-window.window w.index-runs-window.result w.loop-window-test.true
          (ap (is_after q) (sym w.index-runs-window.is) ∙ sym w.ends_before.ensures ∙ w.if-ends_before.false)
      | else-loop-window-test w ↦ lasts_past q runs c.loop-window.window w.loop-window-test.false
    ] in
    rw (c.split_at.ensures.front, c.split_at.ensures.back) (split_on q runs c.split_ended.result.0.now c.split_ended.result.1.now c.loop-window.window
    c.split_ended.ensures lasts)
