use Rattle.std.proofs.Common.{rules}
use Rattle.std.specs.List.{insert}
use Rattle.map_model.specs.declared.limits.TheConstants.{MAX_GROUPS}
use Rattle.map_model.specs.Lists.{change_at}
use Rattle.map_model.specs.Objects.{layer_with_objects}
use Rattle.map_model.specs.Properties.{layer_with_properties, object_with_properties}
use Rattle.map_model.proofs.ChangedObjects.{object_with}
use Rattle.map_model.proofs.PropertyKeeps.{room_in_layer, room_in_object}
use Rattle.map_model.proofs.TreeChanges.{changed_map, changed_with}
use Rattle.map_model.proofs.properties.insert_in.Goals as goal

pub change_layer-requires-clause-callable : goal.change_layer-requires-clause-callable
change_layer-requires-clause-callable c = λ l e p is. rw is (room_in_layer c.args.at c.args.parts.now c.in-Layer.id l e (rw c.in-Layer.is at c.requires.place)
    c.requires.well_formed)

pub change_object-requires-clause-callable : goal.change_object-requires-clause-callable
change_object-requires-clause-callable c = λ o e p is. rw is
    (room_in_object c.args.at c.args.parts.now c.in-Object.place o e (rw c.in-Object.is at c.requires.place) c.requires.well_formed)

pub returns-in-Layer : goal.returns-in-Layer
returns-in-Layer c =
    let e = c.change_layer.ensures in
    let m = c.args.parts.now in
    rw c.in-Layer.is (changed_map c.in-Layer.id (λ p. layer_with_properties (λ ps. insert ps c.args.at p)) c.args.property m c.change_layer.new.layers
    (changed_with c.in-Layer.id MAX_GROUPS (λ p. layer_with_properties (λ ps. insert ps c.args.at p)) c.args.property m.layers c.change_layer.new.layers e.layer
    e.left e.found e.is (search rules)))

pub returns-in-Object : goal.returns-in-Object
returns-in-Object c =
    let e = c.change_object.ensures in
    let m = c.args.parts.now in
    let place = c.in-Object.place in
    rw c.in-Object.is (changed_map place.layer (λ p. layer_with_objects (change_at place.at (object_with_properties (λ ps. insert ps c.args.at p))))
    c.args.property m c.change_object.new.layers
    (object_with place (λ p. object_with_properties (λ ps. insert ps c.args.at p)) c.args.property m.layers c.change_object.new.layers e.object e.left e.found
    e.is (search rules)))
