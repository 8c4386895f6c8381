use Rattle.std.proofs.Common.{◌≡◌, ℕ, ◌+◌, ◌-◌, ◌*◌, ◌<◌, ◌≤◌, ◌^◌}
use Rattle.std.specs.Int.{bit_at}
use Rattle.edits.specs.Flooding.{AreSideBySide, IsLed}
use Rattle.edits.proofs.ground.Ground.joined_bits.Given as goal

abbrev pub invariant-loop-next : goal.invariant-loop-next
invariant-loop-next l = record {
  seeds : (i : ℕ) → i < 64 → bit_at l.seeds i ≡ 1 → bit_at l.next i ≡ 1;
  led : (i : ℕ) → i < 64 → bit_at l.next i ≡ 1 → (bit_at l.mask i ≡ 1) × IsLed l.self (64 * l.word + i);
  closed : (i j : ℕ) → i < 64 → j < 64 → AreSideBySide l.self (64 * l.word + i) (64 * l.word + j) → bit_at l.bits i ≡ 1 → bit_at l.mask j ≡ 1
      → bit_at l.next j ≡ 1;
  more : l.bits ≤ l.next;
}

abbrev pub decreases-loop-next : goal.decreases-loop-next
decreases-loop-next l = 2 ^ 64 - l.bits
