use Rattle.std.proofs.Common.{sym}
use Rattle.document_lines.proofs.edit_command.EditCommand.merge.Goals as goal

pub returns-in-AddLayer-clause-unchanged : goal.returns-in-AddLayer-clause-unchanged
returns-in-AddLayer-clause-unchanged c = rw c.in-AddLayer.is c.merge-in-AddLayer.ensures.unchanged

pub returns-in-RemoveLayer-clause-unchanged : goal.returns-in-RemoveLayer-clause-unchanged
returns-in-RemoveLayer-clause-unchanged c = rw c.in-RemoveLayer.is c.merge-in-RemoveLayer.ensures.unchanged

pub returns-in-MoveLayer-clause-unchanged : goal.returns-in-MoveLayer-clause-unchanged
returns-in-MoveLayer-clause-unchanged c = rw c.in-MoveLayer.is c.merge-in-MoveLayer.ensures.unchanged

pub returns-in-AddObject-clause-unchanged : goal.returns-in-AddObject-clause-unchanged
returns-in-AddObject-clause-unchanged c = rw c.in-AddObject.is c.merge-in-AddObject.ensures.unchanged

pub returns-in-RemoveObject-clause-unchanged : goal.returns-in-RemoveObject-clause-unchanged
returns-in-RemoveObject-clause-unchanged c = rw c.in-RemoveObject.is c.merge-in-RemoveObject.ensures.unchanged

pub returns-in-PlaceObject-clause-unchanged : goal.returns-in-PlaceObject-clause-unchanged
returns-in-PlaceObject-clause-unchanged c = rw c.in-PlaceObject.is c.merge-in-PlaceObject.ensures.unchanged

pub returns-in-RemoveProperty-clause-unchanged : goal.returns-in-RemoveProperty-clause-unchanged
returns-in-RemoveProperty-clause-unchanged c = rw c.in-RemoveProperty.is c.merge-in-RemoveProperty.ensures.unchanged

pub returns-in-AddTileset-clause-unchanged : goal.returns-in-AddTileset-clause-unchanged
returns-in-AddTileset-clause-unchanged c = rw c.in-AddTileset.is c.merge-in-AddTileset.ensures.unchanged

pub returns-in-RemoveTileset-clause-unchanged : goal.returns-in-RemoveTileset-clause-unchanged
returns-in-RemoveTileset-clause-unchanged c = rw c.in-RemoveTileset.is c.merge-in-RemoveTileset.ensures.unchanged

pub returns-in-SetObjectHead-clause-unchanged : goal.returns-in-SetObjectHead-clause-unchanged
returns-in-SetObjectHead-clause-unchanged c = rw (c.in-SetObjectHead.is, sym c.deref_mut.ensures.value) c.merge-in-SetObjectHead.ensures.unchanged

pub returns-in-SetLayerHead-clause-unchanged : goal.returns-in-SetLayerHead-clause-unchanged
returns-in-SetLayerHead-clause-unchanged c = rw (c.in-SetLayerHead.is, sym c.deref_mut-in-SetLayerHead.ensures.value) c.merge-in-SetLayerHead.ensures.unchanged

pub returns-in-SetMapHead-clause-unchanged : goal.returns-in-SetMapHead-clause-unchanged
returns-in-SetMapHead-clause-unchanged c = rw (c.in-SetMapHead.is, sym c.deref_mut-in-SetMapHead.ensures.value) c.merge-in-SetMapHead.ensures.unchanged

pub returns-in-SetTilesetHead-clause-unchanged : goal.returns-in-SetTilesetHead-clause-unchanged
returns-in-SetTilesetHead-clause-unchanged c =
    rw (c.in-SetTilesetHead.is, sym c.deref_mut-in-SetTilesetHead.ensures.value) c.merge-in-SetTilesetHead.ensures.unchanged

pub returns-in-SetTilesetMember-clause-unchanged : goal.returns-in-SetTilesetMember-clause-unchanged
returns-in-SetTilesetMember-clause-unchanged c =
    rw (c.in-SetTilesetMember.is, sym c.deref_mut-in-SetTilesetMember.ensures.value) c.merge-in-SetTilesetMember.ensures.unchanged

pub returns-in-NumberTileset-clause-unchanged : goal.returns-in-NumberTileset-clause-unchanged
returns-in-NumberTileset-clause-unchanged c = rw c.in-NumberTileset.is c.merge-in-NumberTileset.ensures.unchanged

pub returns-in-ReparentObject-clause-unchanged : goal.returns-in-ReparentObject-clause-unchanged
returns-in-ReparentObject-clause-unchanged c = rw c.in-ReparentObject.is c.merge-in-ReparentObject.ensures.unchanged

pub returns-in-PutProperty-clause-unchanged : goal.returns-in-PutProperty-clause-unchanged
returns-in-PutProperty-clause-unchanged c = rw c.in-PutProperty.is c.merge-in-PutProperty.ensures.unchanged

pub merge-requires-in-SetTilesetMember : goal.merge-requires-in-SetTilesetMember
merge-requires-in-SetTilesetMember c = rw c.deref_mut-in-SetTilesetMember.ensures.value (rw c.in-SetTilesetMember.is at c.requires)

pub returns-in-Paint-clause-unchanged : goal.returns-in-Paint-clause-unchanged
returns-in-Paint-clause-unchanged c = rw c.in-Paint.is c.merge.ensures.unchanged

pub returns-in-SetTilesetMember-clause-merged : goal.returns-in-SetTilesetMember-clause-merged
returns-in-SetTilesetMember-clause-merged c =
    rw (c.in-SetTilesetMember.is, sym c.deref_mut-in-SetTilesetMember.ensures.value) c.merge-in-SetTilesetMember.ensures.merged
