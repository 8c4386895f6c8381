use Rattle.std.proofs.Common.{◌≡◌, inl, inr, ◌+◌, ◌-◌, ◌*◌, ◌/◌, ◌%◌, ◌^◌, ap, ◌∙◌, arith}
use Rattle.std.specs.Int.{bit_at}
use Rattle.std.proofs.lemmas.Bool.{cases_lt}
use Rattle.edits.proofs.Marking.{shl_high, shr_bit}
use Rattle.edits.proofs.Reaching.{IsLed-batch, down_from, reached_at, up_from}
use Rattle.edits.proofs.flood.Spread.take_below.Goals as goal

pub reach-requires-clause-led : goal.reach-requires-clause-led
reach-requires-clause-led c i l e =
    let w = c.args.ground.now.width in
    let up = up_from c.args.from.bits (w % 64) i l e in
    IsLed-batch c.args.ground.now c.args.self.now c.args.from c.requires.ground c.requires.sound c.requires.batch (i - w % 64) _ (omega arith) up.1
    (inl (omega (arith, up.0)))

pub reach-requires-then-shift-ne0-clause-led : goal.reach-requires-then-shift-ne0-clause-led
reach-requires-then-shift-ne0-clause-led c i l e =
    let w = c.args.ground.now.width in
    let down = down_from c.args.from.bits (64 - w % 64) i (omega arith) e in
    IsLed-batch c.args.ground.now c.args.self.now c.args.from c.requires.ground c.requires.sound c.requires.batch (64 - w % 64 + i) _ down.0 down.1
    (inl (omega (arith, down.0)))

pub returns-in_ok-reach-2-clause-covers : goal.returns-in_ok-reach-2-clause-covers
returns-in_ok-reach-2-clause-covers c p b free =
    let g = c.args.ground.now in
    let w = g.width in
    let j = p % 64 in
    let from = c.args.from in
    elim (cases_lt (j + w % 64) 64) [
      | inl l ↦
          let i = j + w % 64 in
          let own : i - w % 64 ≡ j = omega arith in
          let set : bit_at (from.bits * 2 ^ (w % 64) % 2 ^ 64) i ≡ 1 = shl_high from.bits (w % 64) i l (omega arith) ∙ ap (bit_at from.bits) own ∙ b.1 in
          c.in_ok-reach-2.ensures.spreads.keeps _
          (reached_at g c.reach.new.self (64 * (from.word + w / 64) + i) (p + w) (omega (arith, b.0)) (c.in_ok-reach.ensures.covers i l set) free)
      | inr past ↦
          let i = j + w % 64 - 64 in
          let own : 64 - w % 64 + i ≡ j = omega arith in
          let set : bit_at (from.bits / 2 ^ (64 - w % 64)) i ≡ 1 = shr_bit from.bits (64 - w % 64) i ∙ ap (bit_at from.bits) own ∙ b.1 in
          reached_at g c.reach-then-shift-ne0.new.self (64 * (from.word + w / 64 + 1) + i) (p + w) (omega (arith, b.0))
          (c.in_ok-reach-2.ensures.covers i (omega arith) set) free
    ]
