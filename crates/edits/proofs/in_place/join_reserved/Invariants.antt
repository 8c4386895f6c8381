use Rattle.std.proofs.Common.{◌≡◌, ◌+◌, ◌-◌, ◌≤◌, ◌++◌, length, take, drop}
use Rattle.map_model.specs.CellEdits.{AreInRowOrder}
use Rattle.edits.specs.Merging.{joined}
use Rattle.edits.proofs.in_place.join_reserved.Given as goal

-- what stands in front of the gap, and the join of what is left, is the whole join; and there is room for what is left
abbrev pub invariant-loop-at : goal.invariant-loop-at
invariant-loop-at l = record {
  done : take l.front l.cells.items ++ joined (drop l.back l.cells.items) (drop l.at l.newer) ≡ joined l.fn.cells.items l.newer;
  ordered : AreInRowOrder (drop l.back l.cells.items);
  order : l.front ≤ l.back;
  within : l.back ≤ l.cells.len;
  room : l.cells.len + (length l.newer - l.at) ≤ l.cells.cap + (l.back - l.front);
}
