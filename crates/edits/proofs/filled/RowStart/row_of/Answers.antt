use Rattle.std.proofs.Common.{arith}
use Rattle.std.proofs.lemmas.Nat.{div-add-mod', mod_below}
use Rattle.edits.proofs.filled.RowStart.row_of.Goals as goal

pub returns-clause-row : goal.returns-clause-row
returns-clause-row c = omega (arith, div-add-mod' c.args.number c.args.ground.now.width)

pub returns-clause-to : goal.returns-clause-to
returns-clause-to c = omega (
  arith,
  div-add-mod' c.args.number c.args.ground.now.width,
  mod_below c.args.number c.args.ground.now.width
      (omega (arith, c.requires.ground.column)),
)
