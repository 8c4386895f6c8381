use Rattle.std.proofs.Common.{◌≡◌, ℕ, true}
use Rattle.edits.specs.Flooding.{IsClosed, IsSound, taken_at, work_left}
use Rattle.edits.proofs.flood.Spread.take_joined.Given as goal

abbrev pub invariant-loop-from : goal.invariant-loop-from
invariant-loop-from l = record {
  sound : IsSound l.ground l.self;
  closed : IsClosed l.ground l.self l.self.pending.items;
  keeps : (p : ℕ) → taken_at l.initial.self p ≡ true → taken_at l.self p ≡ true;
}

abbrev pub decreases-loop-from : goal.decreases-loop-from
decreases-loop-from l = work_left l.ground l.self
