use Rattle.std.proofs.Common.{◌+◌, ◌*◌, add-zero, ap, sym, subst, ◌∙◌, arith}
use Rattle.edits.specs.Flooding.{changes_below}
use Rattle.edits.proofs.Fills.{changes-unmarked}
use Rattle.edits.proofs.WordBits.{IsLeft, none-left}
use Rattle.edits.proofs.filled.push_word.Goals as goal

pub returns-then-taken-eq0 : goal.returns-then-taken-eq0
returns-then-taken-eq0 c =
    let g = c.args.ground.now in
    let s = c.args.spread.now in
    let word = c.args.word in
    let bits : IsLeft s word 0 c.taken_bits-taken.result = record
    { within = omega arith; gone = λ i l. absurd (omega arith); rest = λ i l m. c.taken_bits-taken.ensures i l } in
    let none = subst (IsLeft s word 0) c.if-taken-eq0.true bits in
    c.requires.so_far
    ∙ ap (changes_below g s c.args.value) (sym (add-zero (64 * word)))
    ∙ sym (changes-unmarked g s c.args.value (64 * word + 0) (64 * word + 64) (omega (arith, c.requires.ground.column)) (omega arith) (none-left s word 0 none))
