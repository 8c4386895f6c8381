use Rattle.std.proofs.Common.{◌≡◌, ℕ, ◌+◌, ◌-◌, drop, get_or, length-set, ap, ◌∙◌, arith}
use Rattle.std.proofs.lemmas.Fmt.{length-decimal-le}
use Rattle.map_values.proofs.NumberTexts.{below_limit, one_before}
use Rattle.map_values.proofs.numbers.write_numbers.Goals as goal

pub write_digits-start-requires : goal.write_digits-start-requires
write_digits-start-requires c =
    let number : c.from.result ≡ get_or c.args.numbers.now (c.loop-left.left - 1) c.index-numbers-left.result = c.from.ensures
    ∙ (c.number.view_is ∙ c.index-numbers-left.is) in
    let small = below_limit c.args.numbers.now (c.loop-left.left - 1) c.index-numbers-left.result (omega arith) c.requires.values in
    let short = length-decimal-le 10 c.from.result (omega arith) (omega arith) (omega arith) in
    (omega (arith, short), omega arith)

pub overflow_sub-start : goal.overflow_sub-start
overflow_sub-start c =
    let number : c.from.result ≡ get_or c.args.numbers.now (c.loop-left.left - 1) c.index-numbers-left.result = c.from.ensures
    ∙ (c.number.view_is ∙ c.index-numbers-left.is) in
    let small = below_limit c.args.numbers.now (c.loop-left.left - 1) c.index-numbers-left.result (omega arith) c.requires.values in
    let short = length-decimal-le 10 c.from.result (omega arith) (omega arith) (omega arith) in
    omega (arith, short)

pub loop-left-preserved : goal.loop-left-preserved
loop-left-preserved c =
    let l = c.loop-left in
    let w = c.write_digits-start in
    let n = c.from.result in
    let d = c.index-numbers-left.result in
    let number : n ≡ get_or c.args.numbers.now (l.left - 1) d = c.from.ensures ∙ (c.number.view_is ∙ c.index-numbers-left.is) in
    let small = below_limit c.args.numbers.now (l.left - 1) d (omega arith) c.requires.values in
    let short = length-decimal-le 10 n (omega arith) (omega arith) (omega arith) in
    record {
      text = one_before c.args.numbers.now l.buffer w.new.buf (l.left - 1) l.left l.start (w.result - 1) n d (omega arith) (omega arith) number l.invariant.text
          (omega (arith, short)) (ap (λ k. drop k w.new.buf) {x = w.result - 1 + 1} {y = w.result} (omega (arith, short)) ∙ w.ensures.written);
      room = omega (arith, short);
      start = omega (arith, short, length-set {A = ℕ});
      few = omega arith;
    }
