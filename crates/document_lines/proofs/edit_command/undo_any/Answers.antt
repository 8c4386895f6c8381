-- One arm after the other, each by what its command says: a search at every arm takes far longer.
use Rattle.std.proofs.Common.{sym}
use Rattle.document_lines.proofs.edit_command.undo_any.Goals as goal

pub undo-requires : goal.undo-requires
undo-requires c = rw c.in-Paint.is at c.requires

pub returns-in-Paint : goal.returns-in-Paint
returns-in-Paint c = rw c.in-Paint.is c.undo.ensures

pub undo-requires-in-AddLayer : goal.undo-requires-in-AddLayer
undo-requires-in-AddLayer c = rw c.in-AddLayer.is at c.requires

pub returns-in-AddLayer : goal.returns-in-AddLayer
returns-in-AddLayer c = rw c.in-AddLayer.is c.undo-in-AddLayer.ensures

pub undo-requires-in-RemoveLayer : goal.undo-requires-in-RemoveLayer
undo-requires-in-RemoveLayer c = rw c.in-RemoveLayer.is at c.requires

pub returns-in-RemoveLayer : goal.returns-in-RemoveLayer
returns-in-RemoveLayer c = rw c.in-RemoveLayer.is c.undo-in-RemoveLayer.ensures

pub undo-requires-in-RenameLayer : goal.undo-requires-in-RenameLayer
undo-requires-in-RenameLayer c = rw c.in-RenameLayer.is at c.requires

pub returns-in-RenameLayer : goal.returns-in-RenameLayer
returns-in-RenameLayer c = rw c.in-RenameLayer.is c.undo-in-RenameLayer.ensures

pub undo-requires-in-ShowLayer : goal.undo-requires-in-ShowLayer
undo-requires-in-ShowLayer c = rw c.in-ShowLayer.is at c.requires

pub returns-in-ShowLayer : goal.returns-in-ShowLayer
returns-in-ShowLayer c = rw c.in-ShowLayer.is c.undo-in-ShowLayer.ensures

pub undo-requires-in-MoveLayer : goal.undo-requires-in-MoveLayer
undo-requires-in-MoveLayer c = rw c.in-MoveLayer.is at c.requires

pub returns-in-MoveLayer : goal.returns-in-MoveLayer
returns-in-MoveLayer c = rw c.in-MoveLayer.is c.undo-in-MoveLayer.ensures

pub undo-requires-in-Select : goal.undo-requires-in-Select
undo-requires-in-Select c = rw c.in-Select.is at c.requires

pub returns-in-Select : goal.returns-in-Select
returns-in-Select c = rw c.in-Select.is c.undo-in-Select.ensures

pub undo-requires-in-ResizeMap : goal.undo-requires-in-ResizeMap
undo-requires-in-ResizeMap c = rw c.in-ResizeMap.is at c.requires

pub returns-in-ResizeMap : goal.returns-in-ResizeMap
returns-in-ResizeMap c = rw c.in-ResizeMap.is c.undo-in-ResizeMap.ensures

pub undo-requires-in-AddObject : goal.undo-requires-in-AddObject
undo-requires-in-AddObject c = rw c.in-AddObject.is at c.requires

pub returns-in-AddObject : goal.returns-in-AddObject
returns-in-AddObject c = rw c.in-AddObject.is c.undo-in-AddObject.ensures

pub undo-requires-in-RemoveObject : goal.undo-requires-in-RemoveObject
undo-requires-in-RemoveObject c = rw c.in-RemoveObject.is at c.requires

pub returns-in-RemoveObject : goal.returns-in-RemoveObject
returns-in-RemoveObject c = rw c.in-RemoveObject.is c.undo-in-RemoveObject.ensures

pub undo-requires-in-PlaceObject : goal.undo-requires-in-PlaceObject
undo-requires-in-PlaceObject c = rw c.in-PlaceObject.is at c.requires

pub returns-in-PlaceObject : goal.returns-in-PlaceObject
returns-in-PlaceObject c = rw c.in-PlaceObject.is c.undo-in-PlaceObject.ensures

pub undo-requires-in-SetProperty : goal.undo-requires-in-SetProperty
undo-requires-in-SetProperty c = rw c.in-SetProperty.is at c.requires

pub returns-in-SetProperty : goal.returns-in-SetProperty
returns-in-SetProperty c = rw c.in-SetProperty.is c.undo-in-SetProperty.ensures

pub undo-requires-in-RemoveProperty : goal.undo-requires-in-RemoveProperty
undo-requires-in-RemoveProperty c = rw c.in-RemoveProperty.is at c.requires

pub returns-in-RemoveProperty : goal.returns-in-RemoveProperty
returns-in-RemoveProperty c = rw c.in-RemoveProperty.is c.undo-in-RemoveProperty.ensures

pub undo-requires-in-AddTileset : goal.undo-requires-in-AddTileset
undo-requires-in-AddTileset c = rw c.in-AddTileset.is at c.requires

pub returns-in-AddTileset : goal.returns-in-AddTileset
returns-in-AddTileset c = rw c.in-AddTileset.is c.undo-in-AddTileset.ensures

pub undo-requires-in-RemoveTileset : goal.undo-requires-in-RemoveTileset
undo-requires-in-RemoveTileset c = rw c.in-RemoveTileset.is at c.requires

pub returns-in-RemoveTileset : goal.returns-in-RemoveTileset
returns-in-RemoveTileset c = rw c.in-RemoveTileset.is c.undo-in-RemoveTileset.ensures

pub undo-requires-in-ReparentObject : goal.undo-requires-in-ReparentObject
undo-requires-in-ReparentObject c = rw c.in-ReparentObject.is at c.requires

pub returns-in-ReparentObject : goal.returns-in-ReparentObject
returns-in-ReparentObject c = rw c.in-ReparentObject.is c.undo-in-ReparentObject.ensures

pub undo-requires-in-PutProperty : goal.undo-requires-in-PutProperty
undo-requires-in-PutProperty c = rw c.in-PutProperty.is at c.requires

pub returns-in-PutProperty : goal.returns-in-PutProperty
returns-in-PutProperty c = rw c.in-PutProperty.is c.undo-in-PutProperty.ensures

pub undo-requires-in-NumberTileset : goal.undo-requires-in-NumberTileset
undo-requires-in-NumberTileset c = rw c.in-NumberTileset.is at c.requires

pub returns-in-NumberTileset : goal.returns-in-NumberTileset
returns-in-NumberTileset c = rw c.in-NumberTileset.is c.undo-in-NumberTileset.ensures

pub undo-requires-in-SetTilesetMember : goal.undo-requires-in-SetTilesetMember
undo-requires-in-SetTilesetMember c = rw c.deref_mut-in-SetTilesetMember.ensures.value (rw c.in-SetTilesetMember.is at c.requires)

pub returns-in-SetTilesetMember : goal.returns-in-SetTilesetMember
returns-in-SetTilesetMember c = rw (c.in-SetTilesetMember.is, sym c.deref_mut-in-SetTilesetMember.ensures.value) c.undo-in-SetTilesetMember.ensures
