-- One arm after the other, each by what its command says: a search at every arm takes far longer.
use Rattle.std.proofs.Common.{sym}
use Rattle.document_lines.proofs.edit_command.redo_any.Goals as goal

pub redo-requires : goal.redo-requires
redo-requires c = rw c.in-Paint.is at c.requires

pub returns-in-Paint : goal.returns-in-Paint
returns-in-Paint c = rw c.in-Paint.is c.redo.ensures

pub redo-requires-in-AddLayer : goal.redo-requires-in-AddLayer
redo-requires-in-AddLayer c = rw c.in-AddLayer.is at c.requires

pub returns-in-AddLayer : goal.returns-in-AddLayer
returns-in-AddLayer c = rw c.in-AddLayer.is c.redo-in-AddLayer.ensures

pub redo-requires-in-RemoveLayer : goal.redo-requires-in-RemoveLayer
redo-requires-in-RemoveLayer c = rw c.in-RemoveLayer.is at c.requires

pub returns-in-RemoveLayer : goal.returns-in-RemoveLayer
returns-in-RemoveLayer c = rw c.in-RemoveLayer.is c.redo-in-RemoveLayer.ensures

pub redo-requires-in-RenameLayer : goal.redo-requires-in-RenameLayer
redo-requires-in-RenameLayer c = rw c.in-RenameLayer.is at c.requires

pub returns-in-RenameLayer : goal.returns-in-RenameLayer
returns-in-RenameLayer c = rw c.in-RenameLayer.is c.redo-in-RenameLayer.ensures

pub redo-requires-in-ShowLayer : goal.redo-requires-in-ShowLayer
redo-requires-in-ShowLayer c = rw c.in-ShowLayer.is at c.requires

pub returns-in-ShowLayer : goal.returns-in-ShowLayer
returns-in-ShowLayer c = rw c.in-ShowLayer.is c.redo-in-ShowLayer.ensures

pub redo-requires-in-MoveLayer : goal.redo-requires-in-MoveLayer
redo-requires-in-MoveLayer c = rw c.in-MoveLayer.is at c.requires

pub returns-in-MoveLayer : goal.returns-in-MoveLayer
returns-in-MoveLayer c = rw c.in-MoveLayer.is c.redo-in-MoveLayer.ensures

pub redo-requires-in-Select : goal.redo-requires-in-Select
redo-requires-in-Select c = rw c.in-Select.is at c.requires

pub returns-in-Select : goal.returns-in-Select
returns-in-Select c = rw c.in-Select.is c.redo-in-Select.ensures

pub redo-requires-in-ResizeMap : goal.redo-requires-in-ResizeMap
redo-requires-in-ResizeMap c = rw c.in-ResizeMap.is at c.requires

pub returns-in-ResizeMap : goal.returns-in-ResizeMap
returns-in-ResizeMap c = rw c.in-ResizeMap.is c.redo-in-ResizeMap.ensures

pub redo-requires-in-AddObject : goal.redo-requires-in-AddObject
redo-requires-in-AddObject c = rw c.in-AddObject.is at c.requires

pub returns-in-AddObject : goal.returns-in-AddObject
returns-in-AddObject c = rw c.in-AddObject.is c.redo-in-AddObject.ensures

pub redo-requires-in-RemoveObject : goal.redo-requires-in-RemoveObject
redo-requires-in-RemoveObject c = rw c.in-RemoveObject.is at c.requires

pub returns-in-RemoveObject : goal.returns-in-RemoveObject
returns-in-RemoveObject c = rw c.in-RemoveObject.is c.redo-in-RemoveObject.ensures

pub redo-requires-in-PlaceObject : goal.redo-requires-in-PlaceObject
redo-requires-in-PlaceObject c = rw c.in-PlaceObject.is at c.requires

pub returns-in-PlaceObject : goal.returns-in-PlaceObject
returns-in-PlaceObject c = rw c.in-PlaceObject.is c.redo-in-PlaceObject.ensures

pub redo-requires-in-SetProperty : goal.redo-requires-in-SetProperty
redo-requires-in-SetProperty c = rw c.in-SetProperty.is at c.requires

pub returns-in-SetProperty : goal.returns-in-SetProperty
returns-in-SetProperty c = rw c.in-SetProperty.is c.redo-in-SetProperty.ensures

pub redo-requires-in-RemoveProperty : goal.redo-requires-in-RemoveProperty
redo-requires-in-RemoveProperty c = rw c.in-RemoveProperty.is at c.requires

pub returns-in-RemoveProperty : goal.returns-in-RemoveProperty
returns-in-RemoveProperty c = rw c.in-RemoveProperty.is c.redo-in-RemoveProperty.ensures

pub redo-requires-in-AddTileset : goal.redo-requires-in-AddTileset
redo-requires-in-AddTileset c = rw c.in-AddTileset.is at c.requires

pub returns-in-AddTileset : goal.returns-in-AddTileset
returns-in-AddTileset c = rw c.in-AddTileset.is c.redo-in-AddTileset.ensures

pub redo-requires-in-RemoveTileset : goal.redo-requires-in-RemoveTileset
redo-requires-in-RemoveTileset c = rw c.in-RemoveTileset.is at c.requires

pub returns-in-RemoveTileset : goal.returns-in-RemoveTileset
returns-in-RemoveTileset c = rw c.in-RemoveTileset.is c.redo-in-RemoveTileset.ensures

pub redo-requires-in-ReparentObject : goal.redo-requires-in-ReparentObject
redo-requires-in-ReparentObject c = rw c.in-ReparentObject.is at c.requires

pub returns-in-ReparentObject : goal.returns-in-ReparentObject
returns-in-ReparentObject c = rw c.in-ReparentObject.is c.redo-in-ReparentObject.ensures

pub redo-requires-in-PutProperty : goal.redo-requires-in-PutProperty
redo-requires-in-PutProperty c = rw c.in-PutProperty.is at c.requires

pub returns-in-PutProperty : goal.returns-in-PutProperty
returns-in-PutProperty c = rw c.in-PutProperty.is c.redo-in-PutProperty.ensures

pub redo-requires-in-NumberTileset : goal.redo-requires-in-NumberTileset
redo-requires-in-NumberTileset c = rw c.in-NumberTileset.is at c.requires

pub returns-in-NumberTileset : goal.returns-in-NumberTileset
returns-in-NumberTileset c = rw c.in-NumberTileset.is c.redo-in-NumberTileset.ensures

pub redo-requires-in-SetTilesetMember : goal.redo-requires-in-SetTilesetMember
redo-requires-in-SetTilesetMember c = rw c.deref_mut-in-SetTilesetMember.ensures.value (rw c.in-SetTilesetMember.is at c.requires)

pub returns-in-SetTilesetMember : goal.returns-in-SetTilesetMember
returns-in-SetTilesetMember c = rw (c.in-SetTilesetMember.is, sym c.deref_mut-in-SetTilesetMember.ensures.value) c.redo-in-SetTilesetMember.ensures
