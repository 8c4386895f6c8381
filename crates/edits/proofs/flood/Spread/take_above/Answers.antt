use Rattle.std.proofs.Common.{◌≡◌, inl, inr, true, ◌+◌, ◌-◌, ◌*◌, ◌/◌, ◌%◌, ◌^◌, ◌≤◌, ap, sym, subst, ◌∙◌, arith}
use Rattle.std.specs.Int.{bit_at}
use Rattle.std.proofs.lemmas.Bool.{cases_lt}
use Rattle.edits.specs.declared.flood.Spread.{Spread}
use Rattle.edits.specs.Flooding.{taken_at}
use Rattle.edits.proofs.Marking.{shl_high, shr_bit}
use Rattle.edits.proofs.Reaching.{IsLed-batch, down_from, reached_at, up_from}
use Rattle.edits.proofs.flood.Spread.take_above.Goals as goal
use Rattle.edits.proofs.flood.Spread.take_above.Goals.{then-from-words+in_ok-reach, else-from-words, else-shift-ne0-via-then-shift-ne0+else-from-words-2}
use Rattle.edits.proofs.flood.Spread.take_above.Goals.{else-shift-ne0-via-else-shift-ne0}

pub reach-requires-clause-led : goal.reach-requires-clause-led
reach-requires-clause-led c i l e =
    let w = c.args.ground.now.width in
    let down = down_from c.args.from.bits (w % 64) i (omega arith) e in
    IsLed-batch c.args.ground.now c.args.self.now c.args.from c.requires.ground c.requires.sound c.requires.batch (w % 64 + i) _ down.0 down.1
    (inr (inl (omega (arith, down.0))))

pub reach-requires-then-from-words-2-clause-led : goal.reach-requires-then-from-words-2-clause-led
reach-requires-then-from-words-2-clause-led c i l e =
    let w = c.args.ground.now.width in
    let up = up_from c.args.from.bits (64 - w % 64) i l e in
    IsLed-batch c.args.ground.now c.args.self.now c.args.from c.requires.ground c.requires.sound c.requires.batch (i - (64 - w % 64)) _ (omega arith) up.1
    (inr (inl (omega (arith, up.0))))

pub returns-in_ok-reach-2-clause-covers : goal.returns-in_ok-reach-2-clause-covers
returns-in_ok-reach-2-clause-covers c p b free =
    let g = c.args.ground.now in
    let w = g.width in
    let j = (p + w) % 64 in
    let from = c.args.from in
    elim (cases_lt j (w % 64)) [
      | inr stays ↦
          let i = j - w % 64 in
          let own : w % 64 + i ≡ j = omega arith in
          let set : bit_at (from.bits / 2 ^ (w % 64)) i ≡ 1 = shr_bit from.bits (w % 64) i ∙ ap (bit_at from.bits) own ∙ b.1 in
          c.in_ok-reach-2.ensures.spreads.keeps p (elim c.if-from-words.branch [
            | then-from-words+in_ok-reach v ↦ subst (λ (s : Spread). taken_at s p ≡ true) (sym v.self-is)
                (reached_at g v.reach.new.self (64 * (from.word - w / 64) + i) p (omega (arith, b.0)) (v.in_ok-reach.ensures.covers i (omega arith) set) free)
            | else-from-words v ↦ absurd (omega (arith, b.0, v.if-from-words.false))
          ])
      | inl past ↦
          let i = j + (64 - w % 64) in
          let own : i - (64 - w % 64) ≡ j = omega arith in
          let set : bit_at (from.bits * 2 ^ (64 - w % 64) % 2 ^ 64) i ≡ 1 = shl_high from.bits (64 - w % 64) i (omega arith) (omega arith)
          ∙ ap (bit_at from.bits) own ∙ b.1 in
          reached_at g c.reach-then-from-words-2.new.self (64 * (from.word - w / 64 - 1) + i) p (omega (arith, b.0))
          (c.in_ok-reach-2.ensures.covers i (omega arith) set) free
    ]

pub returns-else-shift-ne0-clause-covers : goal.returns-else-shift-ne0-clause-covers
returns-else-shift-ne0-clause-covers c p b free =
    let g = c.args.ground.now in
    let w = g.width in
    let j = (p + w) % 64 in
    let from = c.args.from in
    let stays : w % 64 ≤ j = elim c.else-shift-ne0.branch [
      | else-shift-ne0-via-then-shift-ne0+else-from-words-2 v ↦ omega (arith, b.0, v.if-from-words-2.false)
      | else-shift-ne0-via-else-shift-ne0 v ↦ omega (arith, v.if-shift-ne0.false)
    ] in
    let i = j - w % 64 in
    let own : w % 64 + i ≡ j = omega arith in
    let set : bit_at (from.bits / 2 ^ (w % 64)) i ≡ 1 = shr_bit from.bits (w % 64) i ∙ ap (bit_at from.bits) own ∙ b.1 in
    elim c.if-from-words.branch [
      | then-from-words+in_ok-reach v ↦ subst (λ (s : Spread). taken_at s p ≡ true) (sym v.self-is)
          (reached_at g v.reach.new.self (64 * (from.word - w / 64) + i) p (omega (arith, b.0)) (v.in_ok-reach.ensures.covers i (omega arith) set) free)
      | else-from-words v ↦ absurd (omega (arith, b.0, v.if-from-words.false))
    ]
