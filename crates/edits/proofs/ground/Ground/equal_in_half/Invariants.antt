use Rattle.std.proofs.Common.{◌≡◌, ℕ, ◌+◌, ◌<◌, ◌&&◌, nat_eq, nat_lt}
use Rattle.std.specs.List.{slice_get}
use Rattle.std.specs.Int.{bit_at}
use Rattle.edits.specs.Joining.{is_value}
use Rattle.edits.proofs.ground.Ground.equal_in_half.Given as goal

abbrev pub invariant-loop-i : goal.invariant-loop-i
invariant-loop-i l = (j : ℕ) → j < 32 → nat_eq (bit_at l.bits j) 1 ≡ (nat_lt j l.i && is_value (slice_get l.self.tiles.now (l.first + j)) l.self.value)
