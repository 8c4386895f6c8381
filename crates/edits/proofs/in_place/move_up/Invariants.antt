use Rattle.std.proofs.Common.{◌≡◌, ◌+◌, ◌-◌, ◌≤◌, ◌++◌, take, drop}
use Rattle.edits.proofs.in_place.move_up.Given as goal

-- the cells from the end on are moved
abbrev pub invariant-loop-end : goal.invariant-loop-end
invariant-loop-end l = record {
  least : l.at ≤ l.end;
  most : l.end + l.by ≤ l.fn.cells.len;
  items : l.cells.items ≡ take (l.end + l.by) l.fn.cells.items ++ drop l.end (take (l.fn.cells.len - l.by) l.fn.cells.items);
  len : l.cells.len ≡ l.fn.cells.len;
  cap : l.cells.cap ≡ l.fn.cells.cap;
}

abbrev pub decreases-loop-end : goal.decreases-loop-end
decreases-loop-end l = l.end - l.at
