use Rattle.std.proofs.Common.{◌≡◌, ℕ, ◌+◌, ◌*◌, ◌<◌, ap, ◌∙◌, sym, arith}
use Rattle.std.specs.Prelude.{bit_and}
use Rattle.std.specs.Int.{bit_at}
use Rattle.std.proofs.lemmas.Bool.{eq-eqb}
use Rattle.std.proofs.lemmas.Nat.Bits.{bit_at-lt, bit_at-zero, bit_at_and}
use Rattle.edits.proofs.Spreading.{IsSound-taken, Spreads-taken, Spreads-then, covers-closed, free-opened, taken-covers}
use Rattle.edits.proofs.flood.Spread.take.Goals as goal

pub joined_bits-bits-requires-clause-seeds : goal.joined_bits-bits-requires-clause-seeds
joined_bits-bits-requires-clause-seeds c i l e =
    let s = c.look_at.new.self in
    let p = 64 * c.args.word + i in
    let bits = c.word-open.result in
    let both = bit_at_and c.args.seeds bits i in
    let on : bit_at bits i ≡ 1 = omega (arith, e, both, bit_at-lt bits i, bit_at-lt c.args.seeds i) in
    let seed : bit_at c.args.seeds i ≡ 1 = omega (arith, e, both, bit_at-lt bits i, bit_at-lt c.args.seeds i) in (
      on,
      c.requires.led i l seed (free-opened c.args.ground.now s p (c.look_at.ensures.sound.numbers p) (c.look_at.ensures.seen i l)
          (sym (c.word-open.ensures i l) ∙ eq-eqb (bit_at bits i) 1 on)),
    )

pub returns-then-bits-eq0-clause-covers : goal.returns-then-bits-eq0-clause-covers
returns-then-bits-eq0-clause-covers c =
    let none = λ (i : ℕ) (l : i < 64) (e : bit_at (bit_and c.args.seeds c.word-open.result) i ≡ 1).
    let set : bit_at c.joined_bits-bits.result i ≡ 1 = c.joined_bits-bits.ensures.seeds i l e in
    let clear : bit_at c.joined_bits-bits.result i ≡ 0 = ap (λ n. bit_at n i) c.if-bits-eq0.true ∙ bit_at-zero i in
    absurd (omega (arith, set, clear)) in
    covers-closed c.args.ground.now c.look_at.new.self c.args.word c.word-open.result c.args.seeds c.word-open.ensures c.look_at.ensures.sound.numbers none

pub returns-clause-sound : goal.returns-clause-sound
returns-clause-sound c =
    IsSound-taken c.args.ground.now c.look_at.new.self _ c.args.word c.word-open.result c.word-taken.result c.joined_bits-bits.result (omega arith)
    (omega (arith, c.requires.ground.column)) c.if-bits-eq0.false
    c.word-open.ensures c.word-taken.ensures c.look_at.ensures.seen c.joined_bits-bits.ensures.led c.joined_bits-bits.ensures.closed c.set_word.ensures.marks
    c.set_word-2.ensures.marks
    c.set_word.ensures.room c.set_word-2.ensures.room c.in_ok-push.ensures.items c.min-self.ensures c.max-self.ensures
    (omega (arith, c.requires.within, c.look_at.ensures.room)) c.look_at.ensures.sound

pub returns-clause-spreads : goal.returns-clause-spreads
returns-clause-spreads c =
    Spreads-then c.args.ground.now c.args.self.now c.look_at.new.self _ c.look_at.ensures.spreads
    (Spreads-taken c.args.ground.now c.look_at.new.self _ c.args.word c.word-open.result c.word-taken.result c.joined_bits-bits.result (omega arith)
    (omega (arith, c.requires.ground.column)) c.if-bits-eq0.false
    c.word-open.ensures c.word-taken.ensures c.look_at.ensures.seen c.joined_bits-bits.ensures.led c.joined_bits-bits.ensures.closed c.set_word.ensures.marks
    c.set_word-2.ensures.marks
    c.set_word.ensures.room c.set_word-2.ensures.room c.in_ok-push.ensures.items c.min-self.ensures c.max-self.ensures
    (omega (arith, c.requires.within, c.look_at.ensures.room)) c.look_at.ensures.sound)

pub returns-clause-covers : goal.returns-clause-covers
returns-clause-covers c =
    taken-covers c.args.ground.now c.look_at.new.self _ c.args.word c.word-open.result c.word-taken.result c.joined_bits-bits.result (omega arith)
    (omega (arith, c.requires.ground.column)) c.if-bits-eq0.false
    c.word-open.ensures c.word-taken.ensures c.look_at.ensures.seen c.joined_bits-bits.ensures.led c.joined_bits-bits.ensures.closed c.set_word.ensures.marks
    c.set_word-2.ensures.marks
    c.set_word.ensures.room c.set_word-2.ensures.room c.in_ok-push.ensures.items c.min-self.ensures c.max-self.ensures
    (omega (arith, c.requires.within, c.look_at.ensures.room)) c.look_at.ensures.sound
    c.args.seeds c.joined_bits-bits.ensures.seeds
