use Rattle.std.proofs.Common.{ap, ◌∙◌}
use Rattle.command_api.specs.Law.{Change}
use denote.Param.Object.{read_made}
use Rattle.session_run.specs.contracts.running.fn.run_lines.put.{dyn-1-ghosts}
use Rattle.session_run.proofs.running.fn.run_lines.put.Hides.{has-1-2, has-1-3, has-1-4, has-1-5, has-1-6, has-1-9, has-1-10, has-1-11, has-1-13, has-1-14}
use Rattle.session_run.proofs.running.fn.run_lines.put.Hides.{has-1-15, has-1-16, has-1-17, has-1-18, has-1-19, has-1-20, has-1-21, has-1-22, has-1-23}
use Rattle.layer_commands.specs.Changes.{add_change, remove_change, rename_change, show_change, move_change}
use Rattle.object_commands.specs.Changes.{add_object_change, remove_object_change, place_object_change, reparent_object_change}
use Rattle.property_commands.specs.PropertyChanges.{put_property_change, remove_property_change}
use Rattle.property_commands.specs.TilesetChanges.{add_tileset_change, number_tileset_change, remove_tileset_change}
use Rattle.document_lines.proofs.SameChanges.{same-IsSame}
use Rattle.session_run.proofs.running.fn.run_lines.put.Goals as goal

pub returns-in_ok-boxed-in-AddLayer : goal.returns-in_ok-boxed-in-AddLayer
returns-in_ok-boxed-in-AddLayer g c =
    let has = has-1-2 g.dyn-1.0 g.dyn-1-has in
    let read = read_made (dyn-1-ghosts g.dyn-1).0 _ (has.at tt) (has.same tt) Change
    (λ j x. j.1.change x) _ _ _ c.into_dyn_box-in_ok-boxed-in-AddLayer.ensures.1 in
    rw c.in-AddLayer.is (same-IsSame _ _ (read ∙ ap add_change c.in_ok-boxed-in-AddLayer.ensures))

pub returns-in_ok-boxed-in-RemoveLayer : goal.returns-in_ok-boxed-in-RemoveLayer
returns-in_ok-boxed-in-RemoveLayer g c =
    let has = has-1-3 g.dyn-1.0 g.dyn-1-has in
    let read = read_made (dyn-1-ghosts g.dyn-1).0 _ (has.at tt) (has.same tt) Change
    (λ j x. j.1.change x) _ _ _ c.into_dyn_box-in_ok-boxed-in-RemoveLayer.ensures.1 in
    rw c.in-RemoveLayer.is (same-IsSame _ _ (read ∙ ap remove_change c.in_ok-boxed-in-RemoveLayer.ensures))

pub returns-in_ok-boxed-in-RenameLayer : goal.returns-in_ok-boxed-in-RenameLayer
returns-in_ok-boxed-in-RenameLayer g c =
    let has = has-1-4 g.dyn-1.0 g.dyn-1-has in
    let read = read_made (dyn-1-ghosts g.dyn-1).0 _ (has.at tt) (has.same tt) Change
    (λ j x. j.1.change x) _ _ _ c.into_dyn_box-in_ok-boxed-in-RenameLayer.ensures.1 in
    rw c.in-RenameLayer.is (same-IsSame _ _ (read ∙ ap rename_change c.in_ok-boxed-in-RenameLayer.ensures))

pub returns-in_ok-boxed-in-ShowLayer : goal.returns-in_ok-boxed-in-ShowLayer
returns-in_ok-boxed-in-ShowLayer g c =
    let has = has-1-5 g.dyn-1.0 g.dyn-1-has in
    let read = read_made (dyn-1-ghosts g.dyn-1).0 _ (has.at tt) (has.same tt) Change
    (λ j x. j.1.change x) _ _ _ c.into_dyn_box-in_ok-boxed-in-ShowLayer.ensures.1 in
    rw c.in-ShowLayer.is (same-IsSame _ _ (read ∙ ap show_change c.in_ok-boxed-in-ShowLayer.ensures))

pub returns-in_ok-boxed-in-MoveLayer : goal.returns-in_ok-boxed-in-MoveLayer
returns-in_ok-boxed-in-MoveLayer g c =
    let has = has-1-6 g.dyn-1.0 g.dyn-1-has in
    let read = read_made (dyn-1-ghosts g.dyn-1).0 _ (has.at tt) (has.same tt) Change
    (λ j x. j.1.change x) _ _ _ c.into_dyn_box-in_ok-boxed-in-MoveLayer.ensures.1 in
    rw c.in-MoveLayer.is (same-IsSame _ _ (read ∙ ap move_change c.in_ok-boxed-in-MoveLayer.ensures))

pub returns-in_ok-boxed-in-AddObject : goal.returns-in_ok-boxed-in-AddObject
returns-in_ok-boxed-in-AddObject g c =
    let has = has-1-9 g.dyn-1.0 g.dyn-1-has in
    let read = read_made (dyn-1-ghosts g.dyn-1).0 _ (has.at tt) (has.same tt) Change
    (λ j x. j.1.change x) _ _ _ c.into_dyn_box-in_ok-boxed-in-AddObject.ensures.1 in
    rw c.in-AddObject.is (same-IsSame _ _ (read ∙ ap add_object_change c.in_ok-boxed-in-AddObject.ensures))

pub returns-in_ok-boxed-in-RemoveObject : goal.returns-in_ok-boxed-in-RemoveObject
returns-in_ok-boxed-in-RemoveObject g c =
    let has = has-1-10 g.dyn-1.0 g.dyn-1-has in
    let read = read_made (dyn-1-ghosts g.dyn-1).0 _ (has.at tt) (has.same tt) Change
    (λ j x. j.1.change x) _ _ _ c.into_dyn_box-in_ok-boxed-in-RemoveObject.ensures.1 in
    rw c.in-RemoveObject.is (same-IsSame _ _ (read ∙ ap remove_object_change c.in_ok-boxed-in-RemoveObject.ensures))

pub returns-in_ok-boxed-in-PlaceObject : goal.returns-in_ok-boxed-in-PlaceObject
returns-in_ok-boxed-in-PlaceObject g c =
    let has = has-1-11 g.dyn-1.0 g.dyn-1-has in
    let read = read_made (dyn-1-ghosts g.dyn-1).0 _ (has.at tt) (has.same tt) Change
    (λ j x. j.1.change x) _ _ _ c.into_dyn_box-in_ok-boxed-in-PlaceObject.ensures.1 in
    rw c.in-PlaceObject.is (same-IsSame _ _ (read ∙ ap place_object_change c.in_ok-boxed-in-PlaceObject.ensures))

pub returns-in_ok-boxed-in-RemoveProperty : goal.returns-in_ok-boxed-in-RemoveProperty
returns-in_ok-boxed-in-RemoveProperty g c =
    let has = has-1-13 g.dyn-1.0 g.dyn-1-has in
    let read = read_made (dyn-1-ghosts g.dyn-1).0 _ (has.at tt) (has.same tt) Change
    (λ j x. j.1.change x) _ _ _ c.into_dyn_box-in_ok-boxed-in-RemoveProperty.ensures.1 in
    rw c.in-RemoveProperty.is (same-IsSame _ _ (read ∙ ap remove_property_change c.in_ok-boxed-in-RemoveProperty.ensures))

pub returns-in_ok-boxed-in-AddTileset : goal.returns-in_ok-boxed-in-AddTileset
returns-in_ok-boxed-in-AddTileset g c =
    let has = has-1-14 g.dyn-1.0 g.dyn-1-has in
    let read = read_made (dyn-1-ghosts g.dyn-1).0 _ (has.at tt) (has.same tt) Change
    (λ j x. j.1.change x) _ _ _ c.into_dyn_box-in_ok-boxed-in-AddTileset.ensures.1 in
    rw c.in-AddTileset.is (same-IsSame _ _ (read ∙ ap add_tileset_change c.in_ok-boxed-in-AddTileset.ensures))

pub returns-in_ok-boxed-in-RemoveTileset : goal.returns-in_ok-boxed-in-RemoveTileset
returns-in_ok-boxed-in-RemoveTileset g c =
    let has = has-1-15 g.dyn-1.0 g.dyn-1-has in
    let read = read_made (dyn-1-ghosts g.dyn-1).0 _ (has.at tt) (has.same tt) Change
    (λ j x. j.1.change x) _ _ _ c.into_dyn_box-in_ok-boxed-in-RemoveTileset.ensures.1 in
    rw c.in-RemoveTileset.is (same-IsSame _ _ (read ∙ ap remove_tileset_change c.in_ok-boxed-in-RemoveTileset.ensures))

pub returns-in-SetObjectHead : goal.returns-in-SetObjectHead
returns-in-SetObjectHead g c =
    let has = has-1-16 g.dyn-1.0 g.dyn-1-has in
    let read = read_made (dyn-1-ghosts g.dyn-1).0 _ (has.at tt) (has.same tt) Change
    (λ j x. j.1.change x) _ _ _ c.into_dyn_box-in-SetObjectHead.ensures.1 in
    rw c.in-SetObjectHead.is (same-IsSame _ _ read)

pub returns-in-SetLayerHead : goal.returns-in-SetLayerHead
returns-in-SetLayerHead g c =
    let has = has-1-17 g.dyn-1.0 g.dyn-1-has in
    let read = read_made (dyn-1-ghosts g.dyn-1).0 _ (has.at tt) (has.same tt) Change
    (λ j x. j.1.change x) _ _ _ c.into_dyn_box-in-SetLayerHead.ensures.1 in
    rw c.in-SetLayerHead.is (same-IsSame _ _ read)

pub returns-in-SetMapHead : goal.returns-in-SetMapHead
returns-in-SetMapHead g c =
    let has = has-1-18 g.dyn-1.0 g.dyn-1-has in
    let read = read_made (dyn-1-ghosts g.dyn-1).0 _ (has.at tt) (has.same tt) Change
    (λ j x. j.1.change x) _ _ _ c.into_dyn_box-in-SetMapHead.ensures.1 in
    rw c.in-SetMapHead.is (same-IsSame _ _ read)

pub returns-in_ok-boxed-in-ReparentObject : goal.returns-in_ok-boxed-in-ReparentObject
returns-in_ok-boxed-in-ReparentObject g c =
    let has = has-1-19 g.dyn-1.0 g.dyn-1-has in
    let read = read_made (dyn-1-ghosts g.dyn-1).0 _ (has.at tt) (has.same tt) Change
    (λ j x. j.1.change x) _ _ _ c.into_dyn_box-in_ok-boxed-in-ReparentObject.ensures.1 in
    rw c.in-ReparentObject.is (same-IsSame _ _ (read ∙ ap reparent_object_change c.in_ok-boxed-in-ReparentObject.ensures))

pub returns-in_ok-boxed-in-PutProperty : goal.returns-in_ok-boxed-in-PutProperty
returns-in_ok-boxed-in-PutProperty g c =
    let has = has-1-20 g.dyn-1.0 g.dyn-1-has in
    let read = read_made (dyn-1-ghosts g.dyn-1).0 _ (has.at tt) (has.same tt) Change
    (λ j x. j.1.change x) _ _ _ c.into_dyn_box-in_ok-boxed-in-PutProperty.ensures.1 in
    rw c.in-PutProperty.is (same-IsSame _ _ (read ∙ ap put_property_change c.in_ok-boxed-in-PutProperty.ensures))

pub returns-in-SetTilesetHead : goal.returns-in-SetTilesetHead
returns-in-SetTilesetHead g c =
    let has = has-1-21 g.dyn-1.0 g.dyn-1-has in
    let read = read_made (dyn-1-ghosts g.dyn-1).0 _ (has.at tt) (has.same tt) Change
    (λ j x. j.1.change x) _ _ _ c.into_dyn_box-in-SetTilesetHead.ensures.1 in
    rw c.in-SetTilesetHead.is (same-IsSame _ _ read)

pub returns-in_ok-boxed-in-NumberTileset : goal.returns-in_ok-boxed-in-NumberTileset
returns-in_ok-boxed-in-NumberTileset g c =
    let has = has-1-22 g.dyn-1.0 g.dyn-1-has in
    let read = read_made (dyn-1-ghosts g.dyn-1).0 _ (has.at tt) (has.same tt) Change
    (λ j x. j.1.change x) _ _ _ c.into_dyn_box-in_ok-boxed-in-NumberTileset.ensures.1 in
    rw c.in-NumberTileset.is (same-IsSame _ _ (read ∙ ap number_tileset_change c.in_ok-boxed-in-NumberTileset.ensures))

pub returns-in-SetTilesetMember : goal.returns-in-SetTilesetMember
returns-in-SetTilesetMember g c =
    let has = has-1-23 g.dyn-1.0 g.dyn-1-has in
    let read = read_made (dyn-1-ghosts g.dyn-1).0 _ (has.at tt) (has.same tt) Change
    (λ j x. j.1.change x) _ _ _ c.into_dyn_box-in-SetTilesetMember.ensures.1 in
    rw c.in-SetTilesetMember.is (same-IsSame _ _ read)
