use Rattle.std.proofs.Common.{◌≡◌, ℕ, ◌+◌, ◌*◌, ◌/◌, ◌<◌, ◌||◌}
use Rattle.std.specs.FinSet as set
use Rattle.region.specs.Runs.{IsMaximalRuns, in_runs}
use Rattle.edits.specs.Marks.{is_marked, room}
use Rattle.edits.proofs.ground.selected_numbers.Given as goal

-- the cells of the runs so far are marked
abbrev pub invariant-loop-run : goal.invariant-loop-run
invariant-loop-run l =
    (goal.iterator-loop-run).can_next l.run-iterator × (goal.iterator-loop-run).is_finite l.run-iterator
    × (room l.marks ≡ 64 * (l.height * l.width / 64 + 1))
    × IsMaximalRuns l.run-iterator
    × ((x y : ℕ) → x < l.width → y < l.height → (is_marked l.marks (y * l.width + x) || in_runs l.run-iterator (x, y)) ≡ set.contains l.selection (x, y))
