-- What is told of a paint's cells covers its change.
use Rattle.std.proofs.Common.{◌≡◌, ℕ, ◌<◌, List, Bool, refl, sym, ◌∙◌, subst}
use Rattle.map_model.specs.declared.edit.CellEdit.{CellEdit}
use Rattle.map_model.specs.declared.limits.TheConstants.{MAX_SIDE}
use Rattle.map_model.specs.CellEdits.{put_values}
use Rattle.map_model.specs.Difference.{difference_in}
use Rattle.map_model.specs.Document.{DocumentParts, painted}
use Rattle.map_model.specs.Lists.{Each}
use Rattle.paint_commands.specs.declared.paint.PaintCommand.{PaintCommand}
use Rattle.paint_commands.specs.Painting.{IsDifference, paint_change, painted_layer, side_of}
use Rattle.paint_commands.proofs.Paints.{cells-within, difference-after, difference-before}
use Rattle.document_lines.specs.declared.differences.Cells.{Cells}
use Rattle.document_lines.specs.Differing.{Covers, DifferWithin, IsOneOf, cells_differ}
use Rattle.document_lines.proofs.KeptOutlines.{outline_of-with_tiles}
use Rattle.document_lines.proofs.PaintedCells.{Each-told, painted-ids, painted-others}

-- the cells of a layer that any map can have are all told
abbrev pub AreTold : Cells → ℕ → List CellEdit → Type 0
AreTold told layer es = Each (λ e. e.x < MAX_SIDE → IsOneOf told layer e.x e.y) es

painted-within : (told : Cells) (made : Bool) (layer : ℕ) (cells : List CellEdit) (d : DocumentParts) → IsDifference made layer cells d
    → AreTold told layer cells → DifferWithin (cells_differ told) d (painted layer cells (side_of made) d)
painted-within told made layer cells d is are =
    let within = cells-within made layer cells d is in
    record {
      outline = λ not. outline_of-with_tiles d.map layer (put_values d.map.width (side_of made) cells);
      selection = λ not. refl;
      layers = λ not. record { width = refl; height = refl; ids = painted-ids d.map layer (side_of made) cells };
      cells = painted-others d.map layer (IsOneOf told) (side_of made) cells within
          (Each-told (λ e. IsOneOf told layer e.x e.y) d.map cells is.well_formed.size within are);
    }

pub paint-covers : (c : PaintCommand) (told : Cells) (es : List CellEdit)
    → ((d : DocumentParts) → (paint_change c).fits_redo d → es ≡ difference_in (painted_layer c) d.map ((paint_change c).redone d).map)
    → ((d : DocumentParts) → (paint_change c).fits_undo d → es ≡ difference_in (painted_layer c) ((paint_change c).undone d).map d.map)
    → AreTold told (painted_layer c) es → Covers (cells_differ told) (paint_change c)
paint-covers c told es redo undo are = record {
  redo = λ d h.
      let same : es ≡ c.cells = redo d h ∙ sym (difference-after c.is_made c.layer c.cells d h.0 h.1.fits) in
      painted-within told c.is_made c.layer c.cells d h.1.fits (subst (AreTold told c.layer) same are);
  undo = λ d h.
      let same : es ≡ c.cells = undo d h ∙ sym (difference-before c.is_made c.layer c.cells d h.0 h.1.fits) in
      painted-within told c.is_made c.layer c.cells d h.1.fits (subst (AreTold told c.layer) same are);
}
