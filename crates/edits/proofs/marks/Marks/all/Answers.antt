use Rattle.std.proofs.Common.{◌≡◌, ◌/◌, ◌+◌, ◌^◌, ◌-◌, ap, ◌∙◌, replicate, arith}
use Rattle.std.proofs.Math.Seq.{take-nil}
use Rattle.edits.specs.Marks.{has_bit}
use Rattle.edits.proofs.Marking.{has_bit-ones}
use Rattle.edits.proofs.marks.Marks.all.Goals as goal

pub returns-clause-all : goal.returns-clause-all
returns-clause-all c k l =
    let n = c.args.numbers / 64 + 1 in
    let all : c.resize.new.self.items ≡ replicate n (2 ^ 64 - 1) = let h = c.in_ok-resize.ensures.items in let e = c.new-words.ensures.items in
    let l = c.new-words.ensures.len in rw h (rw (e, l, take-nil) (ap (λ k. replicate k (2 ^ 64 - 1)) (omega arith))) in
    ap (λ ws. has_bit ws k) all ∙ has_bit-ones n k (omega (arith, c.in_ok-resize.ensures.len))
