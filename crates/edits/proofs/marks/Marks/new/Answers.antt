use Rattle.std.proofs.Common.{◌≡◌, ◌/◌, ◌+◌, ap, ◌∙◌, replicate, arith}
use Rattle.std.proofs.Math.Seq.{take-nil}
use Rattle.edits.specs.Marks.{has_bit}
use Rattle.edits.proofs.Marking.{has_bit-zeros}
use Rattle.edits.proofs.marks.Marks.new.Goals as goal

pub returns-clause-none : goal.returns-clause-none
returns-clause-none c k =
    let all : c.resize.new.self.items ≡ replicate (c.args.numbers / 64 + 1) 0 = let h = c.in_ok-resize.ensures.items in let e = c.new-words.ensures.items in
    let l = c.new-words.ensures.len in rw h (rw (e, l, take-nil) (ap (λ k. replicate k 0) (omega arith))) in
    ap (λ ws. has_bit ws k) all ∙ has_bit-zeros (c.args.numbers / 64 + 1) k
