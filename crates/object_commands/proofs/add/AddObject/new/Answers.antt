use Rattle.std.proofs.Common.{◌≡◌, ◌<◌, Ok, Some, ◌∙◌, rules, w32, length}
use Rattle.std.proofs.lemmas.Int.{to_z-of_z}
use Rattle.map_model.specs.declared.limits.TheConstants.{MAX_OBJECTS}
use Rattle.map_model.specs.NewMap.{new_object}
use Rattle.map_model.specs.Lookups.{layer_of}
use Rattle.edits.specs.ObjectEdits.{is_object_size, objects_or_fault, placing_of}
use Rattle.object_commands.proofs.Adding.{add_made}
use Rattle.object_commands.proofs.Placements.{given_by}
use Rattle.object_commands.proofs.add.AddObject.new.Goals as goal

pub returns-in-Ok-clause-command : goal.returns-in-Ok-clause-command
returns-in-Ok-clause-command c =
    let d = c.args.document.now in
    let x = to_z-of_z w32 c.args.x (search rules) in
    let y = to_z-of_z w32 c.args.y (search rules) in
    let same : c.parts.result.now ≡ d.map = c.parts.ensures.value ∙ c.map-map.ensures in
    let objects : objects_or_fault (layer_of d.map c.args.layer) ≡ Ok c.in_ok-objects.objects.now = rw c.map-map.ensures at c.in_ok-objects.ensures in
    let given = given_by (is_object_size c.args.width c.args.height) c.in-Some.placing (placing_of c.args.x c.args.y c.args.width c.args.height)
    (rw (x, y) at c.in-Some.ensures) in
    let made : c.in-Ok.object ≡ Some (new_object d.map.next_object_id (placing_of c.args.x c.args.y c.args.width c.args.height) c.args.name.now) =
    rw (same, given.1) at c.in-Ok.ensures in
    let few : length c.in_ok-objects.objects.now < MAX_OBJECTS = rw c.len.ensures.value at c.if-len-ge-MAX_OBJECTS.false in
    rw same (
    add_made d c.args.layer c.args.x c.args.y c.args.width c.args.height c.args.name.now c.in_ok-objects.objects.now
    c.in-Ok.object c.utf8.name objects c.requires.x c.requires.y given.0 few
    (rw same at c.if-id-ge-MAX_NEXT_ID.false) (rw c.map-map.ensures at c.parts.ensures.well_formed) made
    )
