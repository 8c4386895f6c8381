use Rattle.std.proofs.Common.{◌≡◌}
use Rattle.undo_group.proofs.Shifting.{IsShifted}
use Rattle.undo_group.proofs.order.Order.remove.Given as goal

-- the places of the numbers before this one are written
abbrev pub invariant-loop-at : goal.invariant-loop-at
invariant-loop-at l = IsShifted l.self.entries.items l.self.places.items l.last l.at × (l.self.entries.items ≡ l.initial.self.entries.items)
