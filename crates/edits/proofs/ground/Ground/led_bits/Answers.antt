use Rattle.std.proofs.Common.{◌≡◌, ◌≢◌, inl, inr, ℕ, ◌+◌, ◌-◌, ◌*◌, ◌/◌, ◌%◌, ◌^◌, ◌<◌, subst, arith}
use Rattle.std.specs.Prelude.{bit_and, bit_or}
use Rattle.std.proofs.lemmas.Nat.{and_le_l}
use Rattle.edits.proofs.Flooded.{IsLed-step}
use Rattle.edits.proofs.Marking.{and_bits, or_bits, or_keeps}
use Rattle.edits.proofs.Reaching.{down_from, up_from}
use Rattle.edits.proofs.ground.Ground.led_bits.Goals as goal

pub loop-step-init : goal.loop-step-init
loop-step-init c =
    let g = c.args.self.now in
    let first = 64 * c.args.word in
    let mask = c.args.mask in
    let inner = c.args.inner in
    let some : 0 < g.width = omega (arith, c.requires.ground.column) in
    let fits : bit_and mask inner < 2 ^ 64 = omega (arith, and_le_l mask inner) in
    record {
      some = omega arith;
      seeds = λ i l e. e;
      led = c.requires.seeds;
      rises = λ i l e.
          let both = and_bits (bit_and mask (mask * 2 ^ 1 % 2 ^ 64)) inner i e in
          let own = and_bits mask (mask * 2 ^ 1 % 2 ^ 64) i both.0 in (
            own.0,
            λ k at led. IsLed-step g some (first + k) (first + i) led (inr (inr (inl (omega arith, c.requires.inner i l both.1))))
                (c.requires.free i l own.0),
          );
      falls = λ i l e.
          let own = and_bits mask (bit_and mask inner / 2 ^ 1) i e in
          let down = down_from (bit_and mask inner) 1 i fits own.1 in
          let both = and_bits mask inner (1 + i) down.1 in (
            own.0,
            λ k at led.
                let next : 1 + i ≡ k = omega arith in
                let begins : (first + k) % g.width ≢ 0 = subst (λ n. (first + n) % g.width ≢ 0) next (c.requires.inner (1 + i) down.0 both.1) in
                IsLed-step g some (first + k) (first + i) led (inr (inr (inr (omega arith, begins)))) (c.requires.free i l own.0),
          );
    }

pub loop-step-preserved : goal.loop-step-preserved
loop-step-preserved c =
    let step = c.loop-step.step in
    let bits = c.loop-step.bits in
    let rises = c.loop-step.rises in
    let falls = c.loop-step.falls in
    let inv = c.loop-step.invariant in
    let ups : ℕ = bit_and (bits * 2 ^ step % 2 ^ 64) rises in
    let downs : ℕ = bit_and (bits / 2 ^ step) falls in
    record {
      some = omega (arith, inv.some);
      seeds = λ i l e. or_keeps bits (bit_or ups downs) i (inv.seeds i l e);
      led = λ i l e. elim (or_bits bits (bit_or ups downs) i e) [
        | inl own ↦ inv.led i l own
        | inr new ↦ elim (or_bits ups downs i new) [
          | inl up ↦
              let both = and_bits (bits * 2 ^ step % 2 ^ 64) rises i up in
              let from = up_from bits step i l both.0 in
              let r = inv.rises i l both.1 in
              (r.0, r.1 (i - step) (omega (arith, from.0)) (inv.led (i - step) (omega arith) from.1).1)
          | inr down ↦
              let both = and_bits (bits / 2 ^ step) falls i down in
              let from = down_from bits step i (omega arith) both.0 in
              let f = inv.falls i l both.1 in
              (f.0, f.1 (step + i) (omega arith) (inv.led (step + i) from.0 from.1).1)
        ]
      ];
      rises = λ i l e.
          let both = and_bits rises (rises * 2 ^ step % 2 ^ 64) i e in
          let from = up_from rises step i l both.1 in
          let r = inv.rises i l both.0 in
          let before = inv.rises (i - step) (omega arith) from.1 in
          (r.0, λ k at led. r.1 (i - step) (omega (arith, from.0)) (before.1 k (omega (arith, from.0, at)) led));
      falls = λ i l e.
          let both = and_bits falls (falls / 2 ^ step) i e in
          let from = down_from falls step i (omega arith) both.1 in
          let f = inv.falls i l both.0 in
          let behind = inv.falls (step + i) from.0 from.1 in
          (f.0, λ k at led. f.1 (step + i) (omega arith) (behind.1 k (omega (arith, at)) led));
    }
