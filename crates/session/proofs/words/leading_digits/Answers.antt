use Rattle.std.proofs.Common.{◌+◌, arith, sym, ◌∙◌}
use Rattle.session.proofs.Digits.{digits_step}
use Rattle.session.proofs.FirstNumbers.{step_digits}
use Rattle.session.proofs.words.leading_digits.Goals as goal

pub returns-then-n-gt-MAX-clause-none : goal.returns-then-n-gt-MAX-clause-none
returns-then-n-gt-MAX-clause-none c =
    let is = sym c.is_ascii_digit.ensures.value ∙ c.if-not-is_ascii_digit.false in
    let step = digits_step c.args.bytes.now c.loop-b.b-index c.loop-b.n c.loop-b-test.true is c.loop-b.invariant.value in
    record {
      len = c.loop-b.b-index + 1;
      within = omega (arith, c.loop-b-test.true);
      digits = step_digits c.args.bytes.now c.loop-b.b-index c.loop-b-test.true is c.loop-b.invariant.digits;
      large = omega (arith, step, c.if-n-gt-MAX.true, c.from.ensures);
    }

pub loop-b-preserved : goal.loop-b-preserved
loop-b-preserved c =
    let is = sym c.is_ascii_digit.ensures.value ∙ c.if-not-is_ascii_digit.false in
    let step = digits_step c.args.bytes.now c.loop-b.b-index c.loop-b.n c.loop-b-test.true is c.loop-b.invariant.value in
    record {
      count = omega (arith, c.loop-b.invariant.count);
      value = omega (arith, step, c.from.ensures);
      small = omega (arith, c.if-n-gt-MAX.false);
      digits = step_digits c.args.bytes.now c.loop-b.b-index c.loop-b-test.true is c.loop-b.invariant.digits;
    }
