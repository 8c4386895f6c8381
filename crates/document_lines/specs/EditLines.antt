-- The lines that are edits of the active document, by what they edit.
use Rattle.std.specs.Prelude.{⊤}
use Rattle.session.specs.declared.line.Line.{Line}
use Rattle.session.specs.declared.line.Line.TheVariants.{Stamp, Erase, Fill, Select, SelectNone, AddLayer, RemoveLayer, RenameLayer, ShowLayer, MoveLayer}
use Rattle.session.specs.declared.line.Line.TheVariants.{Resize, AddObject, MoveObject, ResizeObject, RemoveObject, SetProperty, RemoveProperty, AddTileset}
use Rattle.session.specs.declared.line.Line.TheVariants.{RemoveTileset}
use Rattle.session.specs.declared.more_line.MoreLine.{MoreLine}
use Rattle.session.specs.declared.more_line.MoreLine.TheVariants.{SetMember, PutMembers, RemoveMember}

-- a stamp, which is planned before all others
abbrev pub IsStamp : Line → Type 0
IsStamp (Stamp layer x y width values follows) = ⊤
IsStamp line = ⊥

-- an edit of cells or of the selection, but for a stamp
abbrev pub IsOfCells : Line → Type 0
IsOfCells (Erase layer x y width height follows) = ⊤
IsOfCells (Fill layer x y value) = ⊤
IsOfCells (Select mode x y width height) = ⊤
IsOfCells SelectNone = ⊤
IsOfCells line = ⊥

-- one of layers or of the map's size
abbrev pub IsOfLayers : Line → Type 0
IsOfLayers (AddLayer kind name) = ⊤
IsOfLayers (RemoveLayer layer) = ⊤
IsOfLayers (RenameLayer layer name) = ⊤
IsOfLayers (ShowLayer layer visible) = ⊤
IsOfLayers (MoveLayer layer place) = ⊤
IsOfLayers (Resize width height dx dy) = ⊤
IsOfLayers line = ⊥

-- one of objects
abbrev pub IsOfObjects : Line → Type 0
IsOfObjects (AddObject layer x y width height name) = ⊤
IsOfObjects (MoveObject object x y follows) = ⊤
IsOfObjects (ResizeObject object width height) = ⊤
IsOfObjects (RemoveObject object) = ⊤
IsOfObjects line = ⊥

-- one of properties or tilesets
abbrev pub IsOfProperties : Line → Type 0
IsOfProperties (SetProperty owner name value follows) = ⊤
IsOfProperties (RemoveProperty owner name) = ⊤
IsOfProperties (AddTileset first_id source) = ⊤
IsOfProperties (RemoveTileset first_id) = ⊤
IsOfProperties line = ⊥

-- one of own members
abbrev pub IsOfMembers : MoreLine → Type 0
IsOfMembers (SetMember owner name json follows) = ⊤
IsOfMembers (PutMembers owner json follows) = ⊤
IsOfMembers (RemoveMember owner name) = ⊤
IsOfMembers line = ⊥
