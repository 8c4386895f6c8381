use Rattle.std.proofs.Common.{◌≡◌, ◌+◌, IsTrue, nat_eq, arith}
use Rattle.std.proofs.lemmas.Bool.Decides.{nat_tests}
use Rattle.map_model.proofs.SideBySide.{row_to}
use Rattle.map_model.proofs.alike.is_row_to.Goals as goal

columns : (x y : Rattle.std.proofs.Common.ℕ) → IsTrue (nat_eq x y) → x ≡ y
columns x y t = grind (arith, nat_tests)

pub returns-then-to-from : goal.returns-then-to-from
returns-then-to-from c t =
    let from = c.index-edits-0.result in
    let to = c.index-edits-last.result in
    row_to c.args.edits.now c.args.last from to c.requires.ordered c.requires.within c.index-edits-0.is c.index-edits-last.is c.if-to-from.true
    (columns to.x (from.x + c.args.last) t)
