use Rattle.std.proofs.Common.{◌≡◌, Ok, ◌∙◌, true}
use Rattle.map_model.specs.Lookups.{layer_of}
use Rattle.edits.specs.ObjectEdits.{has_given_room, objects_or_fault}
use Rattle.object_commands.proofs.Adding.{given_made}
use Rattle.object_commands.proofs.add.AddObject.put.Goals as goal

pub returns-in-Ok-clause-command : goal.returns-in-Ok-clause-command
returns-in-Ok-clause-command c =
    let d = c.args.document.now in
    let same : c.parts.result.now ≡ d.map = c.parts.ensures.value ∙ c.map-map.ensures in
    let objects : objects_or_fault (layer_of d.map c.args.layer) ≡ Ok c.in_ok-objects.objects.now = rw c.map-map.ensures at c.in_ok-objects.ensures in
    let room : has_given_room d.map c.args.has_id c.in_ok-objects.objects.now ≡ true =
    rw (c.has_given_room.ensures, c.map-map.ensures) at c.if-not-has_given_room.false in
    rw (c.next_above.ensures, same) (
    given_made d c.args.layer c.args.has_id c.args.object c.with_own_id-object.result c.in_ok-objects.objects.now c.in-Ok.object
    (rw same at c.with_own_id-object.ensures) objects room c.requires.id c.requires.free c.requires.object
    (rw c.map-map.ensures at c.parts.ensures.well_formed) c.in-Ok.ensures.ok
    )
