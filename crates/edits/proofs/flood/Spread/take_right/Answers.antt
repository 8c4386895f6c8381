use Rattle.std.proofs.Common.{◌≡◌, inl, inr, ◌+◌, ◌*◌, ◌%◌, ap, ◌∙◌, sym, arith}
use Rattle.std.specs.Int.{bit_at}
use Rattle.std.proofs.lemmas.Bool.{cases_eq}
use Rattle.std.proofs.lemmas.Nat.Bits.{bit_at-pow_other}
use Rattle.edits.proofs.Reaching.{IsLed-batch}
use Rattle.edits.proofs.flood.Spread.take_right.Goals as goal

pub reach-requires-clause-led : goal.reach-requires-clause-led
reach-requires-clause-led c i l e = elim (cases_eq i 0) [
  | inr other ↦ absurd (omega (arith, e, bit_at-pow_other 0 i other))
  | inl first ↦
      let from = c.args.from in
      let next : 64 * (from.word + 1) + i ≡ (from.word + 1) * 64 = omega arith in
      let set : bit_at from.bits 63 ≡ 1 = omega (arith, c.if-from-eq0.false) in
      IsLed-batch c.args.ground.now c.args.self.now from c.requires.ground c.requires.sound c.requires.batch 63 _ (omega arith) set
      (inr (inr (inl (omega (arith, first), λ h. c.if-from-ground-eq0.false (ap (λ n. n % c.args.ground.now.width) (sym next) ∙ h)))))
]
