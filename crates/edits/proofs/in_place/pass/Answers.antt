use Rattle.std.proofs.Common.{◌≡◌, arith}
use Rattle.edits.proofs.InPlace.{take_both}
use Rattle.edits.proofs.in_place.pass.Goals as goal

pub returns-else-front-back-clause-front : goal.returns-else-front-back-clause-front
returns-else-front-back-clause-front c =
    let same : c.args.back ≡ c.args.front = omega arith in
    rw same (take_both c.args.front c.args.count c.args.cells.now.items)
