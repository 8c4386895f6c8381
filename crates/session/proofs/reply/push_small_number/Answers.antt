use Rattle.std.proofs.Common.{◌+◌, ◌/◌, ◌%◌, ◌∷◌, [], ◌++◌, ap, sym, ◌∙◌, arith}
use Rattle.std.proofs.lemmas.Fmt.{decimal_digit}
use Rattle.std.proofs.lemmas.List.{append_assoc}
use Rattle.session.proofs.LastDigits.{decimal-two, decimal-three}
use Rattle.session.proofs.reply.push_small_number.Goals as goal

pub returns-then-number-ge100-clause-value : goal.returns-then-number-ge100-clause-value
returns-then-number-ge100-clause-value c =
    c.push_three_digits.ensures.value ∙ ap (λ ds. c.args.head.now.bytes ++ ds)
    (sym (decimal-three c.args.number (omega (arith, c.if-number-ge100.true)) c.requires.small))

pub returns-then-small-lt10-clause-value : goal.returns-then-small-lt10-clause-value
returns-then-small-lt10-clause-value c =
    c.push_digit.ensures.value ∙ ap (λ ds. c.args.head.now.bytes ++ ds) (sym (decimal_digit c.args.number (omega (arith, c.if-small-lt10.true))))

pub returns-clause-value : goal.returns-clause-value
returns-clause-value c =
    let n = c.args.number in
    c.push_digit-3.ensures.value
    ∙ ap (λ ds. ds ++ (48 + n % 10) ∷ []) c.push_digit-2.ensures.value
    ∙ append_assoc c.args.head.now.bytes ((48 + n / 10) ∷ []) ((48 + n % 10) ∷ [])
    ∙ ap (λ ds. c.args.head.now.bytes ++ ds) (sym (decimal-two n (omega (arith, c.if-small-lt10.false)) (omega (arith, c.if-number-ge100.false))))
