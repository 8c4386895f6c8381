use Rattle.std.proofs.Common.{◌≡◌, ◌+◌, ◌-◌, drop, arith}
use Rattle.std.proofs.lemmas.List.{length-drop}
use Rattle.edits.proofs.InPlace.{pasted_back}
use Rattle.edits.proofs.in_place.move_down.Goals as goal

pub returns-clause-back : goal.returns-clause-back
returns-clause-back c =
    let front = c.args.front in
    let back = c.args.back in
    let count = c.args.count in
    let xs = c.args.cells.now.items in
    let same : back + count - back ≡ count = omega arith in
    rw (c.copy_within.ensures.items, same) (pasted_back xs (drop back xs) front count (back + count) (omega arith)
    (omega (arith, length-drop back xs)) (omega arith))
