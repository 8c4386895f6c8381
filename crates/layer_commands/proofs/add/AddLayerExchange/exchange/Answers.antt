use Rattle.std.proofs.Common.{Some, None, sym, ◌∙◌, rules}
use Rattle.map_model.specs.Slot.{new_layer_slot}
use Rattle.map_model.proofs.SlotLaws.{new_layer_slot-laws}
use Rattle.command_api.specs.Link.{FitsLink}
use Rattle.command_api.proofs.Links.{linked_in, linked_out}
use Rattle.layer_commands.proofs.Putting.{new-there, put_new-IsWellFormed, put_new-item, put_new-place, raised-IsWellFormed, set_back-IsWellFormed}
use Rattle.layer_commands.proofs.Putting.{set_back-item}
use Rattle.layer_commands.proofs.SiblingSlots.{slot-item}
use Rattle.layer_commands.proofs.add.AddLayerExchange.exchange.Goals as goal

pub set_next_ids-requires : goal.set_next_ids-requires
set_next_ids-requires c =
    let s = c.args.self.now in
    let fits : FitsLink (new_layer_slot s.place s.next s.raised) (Some c.in-Some.layer) c.args.document.now = rw (sym c.in-Some.ensures.value) at c.requires.fits in
    raised-IsWellFormed s.place s.next s.raised c.args.document.now c.in-Some.layer fits

pub insert_layer-requires-clause-place : goal.insert_layer-requires-clause-place
insert_layer-requires-clause-place c =
    let s = c.args.self.now in
    let fits : FitsLink (new_layer_slot s.place s.next s.raised) (Some c.in-Some.layer) c.args.document.now = rw (sym c.in-Some.ensures.value) at c.requires.fits in
    put_new-place s.place s.next s.raised c.args.document.now c.set_next_ids.new.self c.set_next_ids.ensures.document c.in-Some.layer fits

pub insert_layer-requires-clause-well_formed : goal.insert_layer-requires-clause-well_formed
insert_layer-requires-clause-well_formed c =
    let s = c.args.self.now in
    let fits : FitsLink (new_layer_slot s.place s.next s.raised) (Some c.in-Some.layer) c.args.document.now = rw (sym c.in-Some.ensures.value) at c.requires.fits in
    put_new-IsWellFormed s.place s.next s.raised c.args.document.now c.set_next_ids.new.self c.set_next_ids.ensures.document c.in-Some.layer fits

pub take_layer-requires : goal.take_layer-requires
take_layer-requires c =
    let s = c.args.self.now in
    let fits : FitsLink (new_layer_slot s.place s.next s.raised) None c.args.document.now = rw (sym c.in-None.ensures.value) at c.requires.fits in
    new-there s.place s.next s.raised c.args.document.now fits

pub set_next_ids-requires-in-None : goal.set_next_ids-requires-in-None
set_next_ids-requires-in-None c =
    let s = c.args.self.now in
    let fits : FitsLink (new_layer_slot s.place s.next s.raised) None c.args.document.now = rw (sym c.in-None.ensures.value) at c.requires.fits in
    set_back-IsWellFormed s.place s.next s.raised c.args.document.now c.take_layer.new.self c.take_layer.ensures.document fits

pub returns-in-Some : goal.returns-in-Some
returns-in-Some c =
    let s = c.args.self.now in
    linked_in (new_layer_slot-laws s.place s.next s.raised) c.requires.fits c.in-Some.layer (search rules) (search rules)
    (put_new-item s.place s.next s.raised c.args.document.now c.set_next_ids.new.self c.set_next_ids.ensures.document
    c.in-Some.layer c.insert_layer.new.self c.insert_layer.ensures.document)

pub returns-in-None : goal.returns-in-None
returns-in-None c =
    let s = c.args.self.now in
    let d = c.args.document.now in
    linked_out (new_layer_slot-laws s.place s.next s.raised) c.requires.fits (search rules) (c.take_layer.ensures.layer ∙ slot-item s.place d)
    (set_back-item s.place s.next s.raised d c.take_layer.new.self c.take_layer.ensures.document c.set_next_ids-in-None.new.self
    c.set_next_ids-in-None.ensures.document)
