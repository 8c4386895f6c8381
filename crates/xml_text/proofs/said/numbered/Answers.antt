use Rattle.std.proofs.Common.{◌≡◌, ◌<◌, ◌+◌, min, drop, length, get_or, ap, ◌∙◌, arith}
use Rattle.std.specs.Char.{digit_value}
use Rattle.xml_text.specs.Said.{number_from}
use Rattle.xml_text.proofs.SaidLaws.{step, digits_step, some_base, other_way}
use Rattle.xml_text.proofs.said.numbered.Goals as goal

pub loop-digit-preserved : goal.loop-digit-preserved
loop-digit-preserved c =
    let invariant = c.loop-digit.invariant in
    let i = c.loop-digit.digit-index in
    let digits = c.args.digits.now in
    let inside : i < length digits = omega (arith, c.loop-digit-test.true, c.as_bytes-digit-items.ensures.len) in
    let value : c.value_of-value.result ≡ digit_value (get_or digits i 0) =
    c.value_of-value.ensures ∙ ap (λ ds. digit_value (get_or ds i 0)) c.as_bytes-digit-items.ensures.value in
    let number = other_way _ _ _ c.min-number.ensures in
    record {
      few = omega (arith, c.min-number.ensures);
      same =
          ap (λ m. min 0x110000 (number_from c.args.base m (drop (i + 1) digits))) number
          ∙ step c.args.base c.loop-digit.number c.value_of-value.result i digits (some_base c.args.base c.requires) inside value ∙ invariant.same;
      digits = digits_step c.args.base c.value_of-value.result i digits inside value c.if-value-base.false ∙ invariant.digits;
    }
