use Rattle.std.proofs.Common.{◌≡◌}
use Rattle.map_model.specs.Document.{with_map}
use Rattle.map_model.specs.Lens.{layer_objects}
use Rattle.map_model.specs.Objects.{object_at, without_object_at}
use Rattle.map_model.proofs.LensLaws.{layer_objects-laws}
use Rattle.map_model.proofs.SlotLaws.{object_slot-laws}
use Rattle.command_api.specs.Move.{moved}
use Rattle.map_model.specs.Slot.{object_slot}
use Rattle.command_api.proofs.Moves.{is_moved, slot_in-holds}
use Rattle.object_commands.proofs.Reparenting.{put_is, put_well_formed}
use Rattle.object_commands.proofs.reparent.ReparentObjectExchange.exchange.Goals as goal

pub take_object-object-requires : goal.take_object-object-requires
take_object-object-requires c = c.requires.fits.filled

pub insert_object-requires-clause-place : goal.insert_object-requires-clause-place
insert_object-requires-clause-place c = rw c.take_object-object.ensures.document c.requires.fits.vacant

pub insert_object-requires-clause-well_formed : goal.insert_object-requires-clause-well_formed
insert_object-requires-clause-well_formed c =
    let s = c.args.self.now in
    let d = c.args.document.now in
    rw (c.take_object-object.ensures.document, c.take_object-object.ensures.object)
    (put_well_formed (object_at d.map s.from) s.to (with_map (without_object_at s.from) d) c.requires.fits.filled c.requires.fits.after)

pub returns : goal.returns
returns c =
    let s = c.args.self.now in
    let d = c.args.document.now in
    let is : c.insert_object.new.self ≡ moved (object_slot s.from) (object_slot s.to) d =
    put_is (object_at d.map s.from) s.to (with_map (without_object_at s.from) d) c.insert_object.new.self
    (rw (c.take_object-object.ensures.document, c.take_object-object.ensures.object) at c.insert_object.ensures.document) in
    rw (c.swap.ensures.x_after, c.swap.ensures.y_after) (
    is_moved (object_slot-laws s.from) (object_slot-laws s.to) (slot_in-holds (layer_objects s.to.layer) (layer_objects-laws s.to.layer) s.to.at)
    c.requires.fits is
    )
