use Rattle.std.proofs.Common.{◌≡◌, ◌||◌, Bool, false, [], refl, ◌∙◌, arith, add-one, drop, drop_of_length-le}
use mir.Syntax.{w32}
use mir.Val.{of_z, to_z}
use Rattle.std.proofs.lemmas.Int.{to_z-of_z}
use Rattle.region.specs.Runs.{in_runs}
use Rattle.region.proofs.Moving.{clear-none, moved_order, moved_clear, moved_step}
use Rattle.region.proofs.Pushes.{run_at}
use Rattle.region.proofs.walks.moved_runs.Goals as goal

pub loop-run-init : goal.loop-run-init
loop-run-init c =
    let empty = c.in_ok-out.ensures.items in
    record {
      room = omega (arith, c.in_ok-out.ensures.len, c.in_ok-out.ensures.capacity);
      order = rw empty tt;
      clear = rw empty (clear-none _ _ c.args.runs.now);
      cells = λ q. rw empty refl;
    }

pub moved-requires-clause-run : goal.moved-requires-clause-run
moved-requires-clause-run c = rw c.run-item.is (run_at c.args.runs.now c.loop-run.run-index c.run-item.result c.loop-run-test.true c.requires.runs)

pub loop-run-preserved : goal.loop-run-preserved
loop-run-preserved c =
    let item = c.run-item.result in
    let inv = c.loop-run.invariant in
    let within = rw c.run-item.is at c.moved.ensures.within in
    let fits = c.moved.ensures.fits in
    let pushed = c.push_some.ensures in
    record {
      room = omega (arith, inv.room, pushed.len, pushed.capacity, c.loop-run-test.true);
      order = moved_order _ _ c.args.runs.now c.loop-run.out.items c.push_some.new.runs.items c.loop-run.run-index item c.moved.result c.loop-run-test.true
          c.requires.runs pushed.items
          within fits inv.order inv.clear;
      clear = rw add-one (moved_clear _ _ c.args.runs.now c.loop-run.out.items c.push_some.new.runs.items c.loop-run.run-index item c.moved.result
          c.loop-run-test.true c.requires.runs pushed.items
          within fits inv.order inv.clear);
      cells = λ q. rw add-one (moved_step _ _ c.args.runs.now c.loop-run.out.items c.push_some.new.runs.items c.loop-run.run-index item c.moved.result
          c.loop-run-test.true c.requires.runs pushed.items
          within fits inv.order inv.clear c.args.w c.args.h q (rw c.run-item.is at (c.moved.ensures.cells q)) ∙ inv.cells q);
    }

or-false : (b : Bool) → b ≡ (b || false)
or-false b = grind arith

pub returns-clause-cells : goal.returns-clause-cells
returns-clause-cells c q =
    let all : drop c.loop-run.run-index c.args.runs.now ≡ [] = drop_of_length-le c.args.runs.now (omega arith) in
    let dx : to_z w32 (of_z w32 c.args.dx) ≡ c.args.dx = to_z-of_z w32 c.args.dx c.ranges.dx in
    let dy : to_z w32 (of_z w32 c.args.dy) ≡ c.args.dy = to_z-of_z w32 c.args.dy c.ranges.dy in
    let cells = simp (dx, dy, all) at (c.loop-run.invariant.cells q) in
    or-false (in_runs c.loop-run.out.items q) ∙ cells
