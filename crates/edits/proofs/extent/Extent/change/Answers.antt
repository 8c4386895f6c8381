use Rattle.std.proofs.Common.{List, length, sym, subst, arith}
use Rattle.map_model.specs.declared.edit.CellEdit.{CellEdit}
use Rattle.map_model.specs.CellEdits.{AreInRowOrder}
use Rattle.edits.specs.Covering.{covered, where_selected}
use Rattle.edits.proofs.RowOrder.{difference-AreInRowOrder}
use Rattle.edits.proofs.extent.Extent.change.Goals as goal

pub of_list-requires : goal.of_list-requires
of_list-requires g c =
    let r = c.args.self.now in
    let P : List CellEdit → Type 0 = AreInRowOrder in
    subst P (sym c.in-Ok.ensures)
    (difference-AreInRowOrder r.width r.tiles.now (covered r.width (where_selected r.selection.now (g.C.Cover.over c.args.cover.now)) r.tiles.now)
    (length r.tiles.now) (omega (arith, c.requires.layer.wide)))
