-- What a paint command is and does.
use Rattle.std.specs.Prelude.{◌≡◌, ℕ, List, Some, Bool, true, false, length, nat_eq}
use Rattle.map_model.specs.declared.edit.CellEdit.{CellEdit}
use Rattle.map_model.specs.declared.edit.Side.{Side}
use Rattle.map_model.specs.declared.edit.Side.TheVariants.{Before, After}
use Rattle.map_model.specs.declared.parts.MapParts.{MapParts}
use Rattle.map_model.specs.Document.{DocumentParts, painted}
use Rattle.map_model.specs.Lookups.{HasTiles}
use Rattle.map_model.specs.WellFormed.{IsWellFormed}
use Rattle.edits.specs.declared.change.CellChange.{CellChange}
use Rattle.map_model.specs.Difference.{difference_in}
use Rattle.command_api.specs.Exchange.{Exchange, change_of}
use Rattle.command_api.specs.Law.{Change}
use Rattle.command_api.specs.Names.{Names}
use Rattle.command_api.specs.Offers.{Shown, Nothing, Cells}
use Rattle.command_api.specs.declared.ids.TheConstants.{STAMP_ID, ERASE_ID}
use Rattle.paint_commands.specs.declared.paint.PaintCommand.{PaintCommand}
use Rattle.paint_commands.specs.declared.paint.PaintKind.{PaintKind}
use Rattle.paint_commands.specs.declared.paint.PaintKind.TheVariants.{Stamp, Erase, Fill}
use Rattle.paint_commands.specs.Names.{stamp_names, erase_names, fill_names}

-- what a paint of this kind is called; a fill has no tag and follows nothing
abbrev pub paint_names : PaintKind → ℕ → Bool → Names
paint_names Stamp layer follows = stamp_names layer follows
paint_names Erase layer follows = erase_names layer follows
paint_names Fill layer follows = fill_names

-- the side to which the cells are set next
abbrev pub side_of : Bool → Side
side_of false = After
side_of true = Before

-- the difference of the map here and the map that a turn leads to, which is the one before where the paint is made
abbrev pub difference_by : Bool → ℕ → MapParts → MapParts → List CellEdit
difference_by false layer here there = difference_in layer here there
difference_by true layer here there = difference_in layer there here

-- the well-formed document has the tile layer, and the cells are the difference of it and the turned one there; that of
-- a paint that is made, the one before it, is well formed too
pub record IsDifference (made : Bool) (layer : ℕ) (cells : List CellEdit) (d : DocumentParts) : Type 0 where
  pub well_formed : IsWellFormed d.map
  pub tiles : HasTiles d.map layer
  pub exact : cells ≡ difference_by made layer d.map (painted layer cells (side_of made) d).map
  pub back : made ≡ true → IsWellFormed (painted layer cells (side_of made) d).map

-- what a paint command does: it fits the documents of which its cells are the difference to the turned one
abbrev pub paint_exchange : PaintCommand → Exchange
paint_exchange c = record {
  names = paint_names c.kind c.layer c.follows;
  obsolete = nat_eq (length c.cells) 0;
  made = Some c.is_made;
  exchanged = painted c.layer c.cells (side_of c.is_made);
  fits = IsDifference c.is_made c.layer c.cells;
}

abbrev pub paint_change : PaintCommand → Change
paint_change c = change_of (paint_exchange c)

-- what a paint of this kind shows: its cells where it follows, and a fill nothing
abbrev pub shown_cells : PaintKind → Bool → ℕ → List CellEdit → Shown
shown_cells Stamp false layer cells = Nothing
shown_cells Stamp true layer cells = Cells STAMP_ID layer cells
shown_cells Erase false layer cells = Nothing
shown_cells Erase true layer cells = Cells ERASE_ID layer cells
shown_cells Fill follows layer cells = Nothing

abbrev pub paint_shown : PaintCommand → Shown
paint_shown c = shown_cells c.kind c.follows c.layer c.cells

-- the layer that a command paints
abbrev pub painted_layer : PaintCommand → ℕ
painted_layer c = c.layer

-- the command of a change, not made yet
abbrev pub new_paint : PaintKind → Bool → CellChange → PaintCommand
new_paint kind follows change = record { kind = kind; layer = change.layer; follows = follows; is_made = false; cells = change.cells }
