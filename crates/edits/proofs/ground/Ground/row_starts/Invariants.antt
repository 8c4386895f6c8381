use Rattle.std.proofs.Common.{◌≡◌, ℕ, ◌+◌, ◌-◌, ◌*◌, ◌%◌, ◌<◌, ◌&&◌, nat_eq, nat_lt}
use Rattle.std.specs.Int.{bit_at}
use Rattle.edits.proofs.ground.Ground.row_starts.Given as goal

-- the number is that of a row's start, and the starts before it are found
abbrev pub invariant-loop-number : goal.invariant-loop-number
invariant-loop-number l =
    ((k : ℕ) × (64 * l.word + l.number ≡ k * l.self.width))
    × ((i : ℕ) → i < 64 → nat_eq (bit_at l.starts i) 1 ≡ (nat_lt i l.number && nat_eq ((64 * l.word + i) % l.self.width) 0))

abbrev pub decreases-loop-number : goal.decreases-loop-number
decreases-loop-number l = 64 - l.number
