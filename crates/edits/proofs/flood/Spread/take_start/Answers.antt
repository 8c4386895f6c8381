use Rattle.std.proofs.Common.{◌≡◌, inl, inr, ◌+◌, ◌*◌, ◌/◌, ◌%◌, ◌^◌, true, ap, subst, ◌∙◌, sym, arith}
use Rattle.std.specs.Int.{bit_at}
use Rattle.std.proofs.lemmas.Bool.{cases_eq}
use Rattle.std.proofs.lemmas.Nat.{one_shl}
use Rattle.std.proofs.lemmas.Nat.Bits.{bit_at-pow_other, bit_at-pow_same}
use Rattle.edits.specs.Flooding.{IsLed, free_at}
use Rattle.edits.proofs.Flooded.{free_in-at, is_taken-at}
use Rattle.edits.proofs.Reaching.{IsLed-start, reached_at}
use Rattle.edits.proofs.flood.Spread.take_start.Goals as goal

pub reach-requires-clause-led : goal.reach-requires-clause-led
reach-requires-clause-led c i l e free =
    let g = c.args.ground.now in
    let number = g.start.1 * g.width + g.start.0 in
    elim (cases_eq i (number % 64)) [
      | inr other ↦ absurd (omega (arith, e, ap (λ n. bit_at n i) (one_shl (number % 64) 64 (omega arith)), bit_at-pow_other (number % 64) i other))
      | inl here ↦
          let at : number ≡ 64 * (number / 64) + i = omega (arith, here) in
          subst (IsLed g) at (IsLed-start g c.requires.ground (subst (λ n. free_at g n ≡ true) (sym at) free))
    ]

pub returns-clause-start : goal.returns-clause-start
returns-clause-start c free =
    let g = c.args.ground.now in
    let number = g.start.1 * g.width + g.start.0 in
    let set : bit_at (1 * 2 ^ (number % 64) % 2 ^ 64) (number % 64) ≡ 1 = ap (λ n. bit_at n (number % 64)) (one_shl (number % 64) 64 (omega arith))
    ∙ bit_at-pow_same (number % 64) in
    is_taken-at g c.reach.new.self g.start.0 g.start.1 c.requires.ground.column
    ∙ reached_at g c.reach.new.self (64 * (number / 64) + number % 64) number (omega arith) (c.in_ok-reach.ensures.covers (number % 64) (omega arith) set)
    (sym (free_in-at g g.start.0 g.start.1 c.requires.ground.column) ∙ free)
