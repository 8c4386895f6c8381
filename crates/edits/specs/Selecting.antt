-- What an edit of the selection does.
use Rattle.std.specs.Prelude.{Result, Ok}
use Rattle.std.specs.FinSet as set
use Rattle.region.specs.Cells.{cell_cmp, rectangle}
use Rattle.map_model.specs.declared.parts.MapParts.{MapParts}
use Rattle.map_model.specs.declared.selection.SelectionMode.{SelectionMode}
use Rattle.map_model.specs.declared.selection.SelectionMode.TheVariants.{Replace, Add, Subtract, Intersect}
use Rattle.map_model.specs.Document.{DocumentParts, with_selection}
use Rattle.refusals.specs.declared.edit_fault.EditFault.{EditFault}
use Rattle.edits.specs.declared.area.Area.{Area}
use Rattle.edits.specs.declared.selecting.Selecting.{Selecting}
use Rattle.edits.specs.declared.selecting.Selecting.TheVariants.{Nothing, Rectangle}
use Rattle.edits.specs.Blocks.{in_area}

-- the cells of a map that lie in an area
abbrev pub cells_in : MapParts → Area → set.FinSet cell_cmp
cells_in m area = set.retain (rectangle 0 0 m.width m.height) (λ q. in_area area q.0 q.1)

-- a selection and other cells together
abbrev pub combined : SelectionMode → set.FinSet cell_cmp → set.FinSet cell_cmp → set.FinSet cell_cmp
combined Replace selection cells = cells
combined Add selection cells = set.union selection cells
combined Subtract selection cells = set.difference selection cells
combined Intersect selection cells = set.intersection selection cells

-- the selection after an edit of it
abbrev pub selected : DocumentParts → Selecting → set.FinSet cell_cmp
selected d Nothing = set.empty
selected d (Rectangle mode area) = combined mode d.selection (cells_in d.map area)

-- the document after an edit of its selection, which is never refused
abbrev pub after_select : DocumentParts → Selecting → Result DocumentParts EditFault
after_select d edit = Ok (with_selection (selected d edit) d)
