use Rattle.std.proofs.Common.{◌≡◌, ◌+◌, ◌-◌, ◌*◌, ◌≤◌, ◌%◌, ◌^◌, arith, sym, take, ◌∙◌}
use Rattle.std.specs.Str.Parse.{digits_value}
use Rattle.session.proofs.Digits.{digits_step, few_digits}
use Rattle.session.proofs.FirstNumbers.{step_digits}
use Rattle.session.proofs.words.few_digits.Goals as goal

pub loop-len-preserved : goal.loop-len-preserved
loop-len-preserved c =
    let bytes = c.args.bytes.now in
    let n = c.loop-len.value in
    let is = sym c.is_ascii_digit.ensures.value ∙ c.if-is_ascii_digit.true in
    let digits = c.loop-len.invariant.digits in
    let value : c.loop-len.len + 1 ≤ 9 → (n * 10 % 2 ^ 32 + (c.from-digit.result - 48)) % 2 ^ 32 ≡ digits_value 10 (take (c.loop-len.len + 1) bytes) = λ few.
    let whole = c.loop-len.invariant.value (omega (arith, few)) in
    let small = few_digits bytes c.loop-len.len n (omega (arith, few)) digits whole in
    let step = digits_step bytes c.loop-len.len n c.loop-len-test.true is whole in
    omega (arith, small, step, c.from-digit.ensures) in
    record {
      some = omega arith;
      within = omega (arith, c.loop-len-test.true);
      value = value;
      digits = step_digits bytes c.loop-len.len c.loop-len-test.true is digits;
    }
