use Rattle.std.proofs.Common.{◌≡◌, ℕ, ◌+◌, ◌-◌, ◌*◌, ◌<◌, ◌≤◌}
use Rattle.std.specs.Int.{bit_at}
use Rattle.edits.specs.Flooding.{IsLed}
use Rattle.edits.proofs.ground.Ground.led_bits.Given as goal

abbrev pub invariant-loop-step : goal.invariant-loop-step
invariant-loop-step l = record {
  some : 1 ≤ l.step;
  seeds : (i : ℕ) → i < 64 → bit_at l.seeds i ≡ 1 → bit_at l.bits i ≡ 1;
  led : (i : ℕ) → i < 64 → bit_at l.bits i ≡ 1 → (bit_at l.mask i ≡ 1) × IsLed l.self (64 * l.word + i);
  rises : (i : ℕ) → i < 64 → bit_at l.rises i ≡ 1 → (bit_at l.mask i ≡ 1)
      × ((k : ℕ) → k + l.step ≡ i → IsLed l.self (64 * l.word + k) → IsLed l.self (64 * l.word + i));
  falls : (i : ℕ) → i < 64 → bit_at l.falls i ≡ 1 → (bit_at l.mask i ≡ 1)
      × ((k : ℕ) → i + l.step ≡ k → IsLed l.self (64 * l.word + k) → IsLed l.self (64 * l.word + i));
}

abbrev pub decreases-loop-step : goal.decreases-loop-step
decreases-loop-step l = 64 - l.step
