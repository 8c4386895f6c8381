use Rattle.std.proofs.Common.{◌≡◌, ℕ, suc, ◌+◌, ◌*◌, ◌/◌, ◌%◌, ◌<◌, ◌||◌, false, nat_eq, nat_lt, ap, ◌∙◌, arith}
use Rattle.std.proofs.lemmas.Bool.{eqb-true, ltb-true, lt-ltb}
use Rattle.std.proofs.lemmas.Bool.Decides.{nat_tests}
use Rattle.std.proofs.lemmas.Nat.{div-add-mod', mod_below}
use Rattle.std.proofs.lemmas.Nat.Bits.{bit_at-zero}
use Rattle.edits.proofs.Flooded.{row_start, no_row_start}
use Rattle.edits.proofs.Marking.{found-more, found-none, has_one}
use Rattle.edits.proofs.ground.Ground.row_starts.Goals as goal
use Rattle.edits.proofs.ground.Ground.row_starts.Goals.{then-past-eq0, else-past-eq0}

pub loop-number-init : goal.loop-number-init
loop-number-init c =
    let w = c.args.self.now.width in
    let first = 64 * c.args.word in
    let y = c.args.word * 64 / w in
    let own = div-add-mod' (c.args.word * 64) w in
    let past = mod_below (c.args.word * 64) w (omega (arith, c.requires.ground.column)) in
    let number = c.if-past-eq0.number in
    let at : ((k : ℕ) × (first + number ≡ k * w)) × ((i : ℕ) → i < number → (y * w < first + i) × (first + i < y * w + w)) =
    elim c.if-past-eq0.branch [
      | then-past-eq0 v ↦ let here = v.if-past-eq0.true in let zero = v.number-is in ((y, omega (arith, own, here, zero)), λ i l. absurd (omega (arith, zero)))
      | else-past-eq0 v ↦ let here = v.if-past-eq0.false in let next = v.number-is in
          ((suc y, omega (arith, own, past, next)), λ i l. (omega (arith, own, past, here, next), omega (arith, own, past, next)))
    ] in (
      at.0,
      λ i l. ap (λ b. nat_eq b 1) (bit_at-zero i)
          ∙ found-none (nat_lt i number) (nat_eq ((first + i) % w) 0) (λ h. let b = at.1 i (ltb-true i number h) in no_row_start w (first + i) y b.0 b.1),
    )

pub loop-number-preserved : goal.loop-number-preserved
loop-number-preserved c =
    let w = c.args.self.now.width in
    let first = 64 * c.args.word in
    let number = c.loop-number.number in
    let y = c.loop-number.invariant.0.0 in
    let here : first + number ≡ y * w = c.loop-number.invariant.0.1 in
    let some : 0 < w = omega (arith, c.requires.ground.column) in (
      (suc y, omega (arith, here)),
      λ i l. has_one c.loop-number.starts number i (omega arith) l
          ∙ ap (λ b. b || nat_eq number i) (c.loop-number.invariant.1 i l)
          ∙ found-more (nat_lt i number) (nat_eq ((first + i) % w) 0) (nat_eq number i) (nat_lt i (number + w))
          (λ h. let before = ltb-true i number h in (
            let differ : nat_eq number i ≡ false = grind (arith, nat_tests) in differ,
            lt-ltb i (number + w)
                (omega arith),
          ))
          (λ h. let same = eqb-true number i h in (row_start w (first + i) y some (omega (arith, here)), lt-ltb i (number + w) (omega arith)))
          (λ a e b. let under = ltb-true i (number + w) b in
          let past : number < i = grind (arith, nat_tests) in
          no_row_start w (first + i) y (omega (arith, here)) (omega (arith, here))),
    )
