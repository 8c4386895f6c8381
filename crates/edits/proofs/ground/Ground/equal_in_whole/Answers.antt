use Rattle.std.proofs.Common.{◌≡◌, inl, inr, ℕ, ◌+◌, ◌-◌, ◌*◌, ◌%◌, ◌^◌, ◌||◌, nat_eq, ap, ◌∙◌, arith}
use Rattle.std.proofs.Math.Bool.{or-false}
use Rattle.std.specs.List.{slice_get}
use Rattle.std.specs.Int.{bit_at}
use Rattle.std.proofs.lemmas.Bool.{cases_lt}
use Rattle.std.proofs.lemmas.Nat.Bits.{bit_at_above}
use Rattle.edits.specs.Joining.{is_value}
use Rattle.edits.proofs.Marking.{has_or, shl_high, shl_low}
use Rattle.edits.proofs.ground.Ground.equal_in_whole.Goals as goal

pub returns : goal.returns
returns c i l =
    let g = c.args.self.now in
    let first = c.args.first in
    let low = c.from.result in
    let high = c.from-2.result in
    let up : ℕ = high * 2 ^ 32 % 2 ^ 64 in
    has_or low up i
    ∙ elim (cases_lt i 32) [
      | inl here ↦
          ap (λ n. nat_eq (bit_at low i) 1 || nat_eq n 1) (shl_low high 32 i l here) ∙ or-false (nat_eq (bit_at low i) 1)
          ∙ ap (λ n. nat_eq (bit_at n i) 1) c.from.ensures ∙ c.equal_in_half-low.ensures i here
      | inr there ↦
          let at : first + 32 + (i - 32) ≡ first + i = omega arith in
          ap (λ n. nat_eq n 1 || nat_eq (bit_at up i) 1) (bit_at_above low 32 i (omega (arith, c.from.ensures)) there)
          ∙ ap (λ n. nat_eq n 1) (shl_high high 32 i l there)
          ∙ ap (λ n. nat_eq (bit_at n (i - 32)) 1) c.from-2.ensures ∙ c.equal_in_half-high.ensures (i - 32) (omega arith)
          ∙ ap (λ k. is_value (slice_get g.tiles.now k) g.value) at
    ]
