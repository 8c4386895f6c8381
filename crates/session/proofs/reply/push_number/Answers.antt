use Rattle.std.proofs.Common.{◌/◌, ◌<◌, ◌≤◌, ◌^◌, ◌++◌, decimal, ap, sym, ◌∙◌, arith}
use Rattle.std.proofs.lemmas.List.{append_assoc}
use Rattle.session.proofs.LastDigits.{decimal-three_last, three_digits}
use Rattle.session.proofs.reply.push_number.Goals as goal

pub returns-then-number-lt1000000-clause-value : goal.returns-then-number-lt1000000-clause-value
returns-then-number-lt1000000-clause-value c =
    let n = c.args.number in
    let many : 1000 ≤ n = omega (arith, c.if-number-lt1000.false) in
    let few : n < 2 ^ 64 = omega (arith, c.if-number-lt1000000.true) in
    c.push_three_digits.ensures.value
    ∙ ap (λ ds. ds ++ three_digits n) c.push_small_number-then-number-lt1000000.ensures.value
    ∙ append_assoc c.args.head.now.bytes (decimal (n / 1000)) (three_digits n)
    ∙ ap (λ ds. c.args.head.now.bytes ++ ds) (sym (decimal-three_last n many few))
