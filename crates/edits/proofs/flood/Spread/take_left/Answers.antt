use Rattle.std.proofs.Common.{◌≡◌, inl, inr, ◌+◌, ◌*◌, ◌%◌, ap, ◌∙◌, sym, arith}
use Rattle.std.specs.Int.{bit_at}
use Rattle.std.proofs.lemmas.Bool.{cases_eq}
use Rattle.std.proofs.lemmas.Nat.Bits.{and_pow, bit_at-lt, bit_at-pow_other}
use Rattle.edits.proofs.Reaching.{IsLed-batch}
use Rattle.edits.proofs.flood.Spread.take_left.Goals as goal

pub reach-requires-clause-led : goal.reach-requires-clause-led
reach-requires-clause-led c i l e = elim (cases_eq i 63) [
  | inr other ↦ absurd (omega (arith, e, bit_at-pow_other 63 i other))
  | inl last ↦
      let from = c.args.from in
      let first : 64 * from.word + 0 ≡ from.word * 64 = omega arith in
      let set : bit_at from.bits 0 ≡ 1 = omega (arith, c.if-from-eq0.false, and_pow from.bits 0, bit_at-lt from.bits 0) in
      IsLed-batch c.args.ground.now c.args.self.now from c.requires.ground c.requires.sound c.requires.batch 0 _ (omega arith) set
      (inr (inr (inr (omega (arith, last), λ h. c.if-from-ground-eq0.false (ap (λ n. n % c.args.ground.now.width) (sym first) ∙ h)))))
]
