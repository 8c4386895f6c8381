use Rattle.std.proofs.Common.{◌≡◌, ◌+◌, ◌-◌, ◌<◌, ◌≤◌, length, get_or}
use Rattle.std.specs.declared.cmp.Ordering.TheVariants.{Less}
use Rattle.region.specs.Cells.{cell_cmp}
use Rattle.map_model.specs.CellEdits.{cell}
use Rattle.edits.proofs.merging.numbers_around.Given as goal

-- the cell in front of the low number comes before the newer one; the next step is at most one more than what is passed after this one
abbrev pub invariant-loop-step : goal.invariant-loop-step
invariant-loop-step l =
    (l.low ≤ length l.older) × (1 ≤ l.step) × (1 ≤ l.next) × (l.next ≤ l.low + l.step + 1)
    × (0 < l.low → cell_cmp (cell (get_or l.older (l.low - 1) l.newer)) (cell l.newer) ≡ Less)

abbrev pub decreases-loop-step : goal.decreases-loop-step
decreases-loop-step l = length l.older - l.low
