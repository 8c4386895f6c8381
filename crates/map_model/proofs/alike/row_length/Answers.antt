use Rattle.std.proofs.Common.{List, [], ◌∷◌, take, zero, suc}
use Rattle.map_model.specs.declared.edit.CellEdit.{CellEdit}
use Rattle.map_model.specs.Alike.{AreSideBySide}
use Rattle.map_model.proofs.alike.row_length.Goals as goal

-- one cell is a row
one_row : (es : List CellEdit) → AreSideBySide (take (suc zero) es)
one_row [] = tt
one_row (e ∷ es) = (tt, tt)

pub loop-step-init : goal.loop-step-init
loop-step-init c = record { within = c.requires.some; row = one_row c.args.edits.now }
