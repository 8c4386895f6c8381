use Rattle.std.proofs.Common.{Some, None, sym, ◌∙◌, rules}
use Rattle.map_model.specs.Slot.{next_object_slot}
use Rattle.map_model.proofs.SlotLaws.{next_object_slot-laws}
use Rattle.command_api.specs.Link.{FitsLink}
use Rattle.command_api.proofs.Links.{linked_in, linked_out}
use Rattle.object_commands.proofs.Adding.{raised-IsWellFormed, put_last-IsWellFormed, put_last-with_item, object_at-last, object_at-there}
use Rattle.object_commands.proofs.Adding.{take_last, take_last-IsWellFormed}
use Rattle.object_commands.proofs.add.AddObjectExchange.exchange.Goals as goal

pub set_next_ids-requires : goal.set_next_ids-requires
set_next_ids-requires c =
    let s = c.args.self.now in
    let d = c.args.document.now in
    let fits : FitsLink (next_object_slot s.layer s.next s.raised) (Some c.in-Some-take.object) d = rw (sym c.in-Some-take.ensures.value) at c.requires.fits in
    raised-IsWellFormed s.layer s.next s.raised d c.parts.result.now.next_layer_id c.in-Some-take.object (search rules) fits

pub insert_object-requires-clause-well_formed : goal.insert_object-requires-clause-well_formed
insert_object-requires-clause-well_formed c =
    let s = c.args.self.now in
    let d = c.args.document.now in
    let fits : FitsLink (next_object_slot s.layer s.next s.raised) (Some c.in-Some-take.object) d = rw (sym c.in-Some-take.ensures.value) at c.requires.fits in
    put_last-IsWellFormed s.layer s.next s.raised c.parts.result.now.next_layer_id d c.set_next_ids.new.self c.in-Some.place (search rules)
    (search rules) c.set_next_ids.ensures.document c.in-Some-take.object fits

pub take_object-requires : goal.take_object-requires
take_object-requires c =
    let s = c.args.self.now in
    let d = c.args.document.now in
    let fits : FitsLink (next_object_slot s.layer s.next s.raised) None d = rw (sym c.in-None.ensures.value) at c.requires.fits in
    rw c.sibling-last.ensures (object_at-there s.layer s.next s.raised d c.in-Some.place (search rules) fits)

pub set_next_ids-requires-in-None : goal.set_next_ids-requires-in-None
set_next_ids-requires-in-None c =
    let s = c.args.self.now in
    let d = c.args.document.now in
    let fits : FitsLink (next_object_slot s.layer s.next s.raised) None d = rw (sym c.in-None.ensures.value) at c.requires.fits in
    take_last-IsWellFormed s.layer s.next s.raised c.parts.result.now.next_layer_id d c.take_object.new.self c.in-Some.place (search rules) (search rules)
    (rw c.sibling-last.ensures at c.take_object.ensures.document) fits

pub returns-in-Some-take : goal.returns-in-Some-take
returns-in-Some-take c =
    let s = c.args.self.now in
    let d = c.args.document.now in
    let fits : FitsLink (next_object_slot s.layer s.next s.raised) (Some c.in-Some-take.object) d = rw (sym c.in-Some-take.ensures.value) at c.requires.fits in
    linked_in (next_object_slot-laws s.layer s.next s.raised) c.requires.fits c.in-Some-take.object (search rules) (search rules) (
    put_last-with_item s.layer s.next s.raised c.parts.result.now.next_layer_id d c.set_next_ids.new.self c.in-Some.place (search rules)
    (search rules) c.set_next_ids.ensures.document
    c.in-Some-take.object c.insert_object.new.self c.insert_object.ensures.document
    )

pub returns-in-None : goal.returns-in-None
returns-in-None c =
    let s = c.args.self.now in
    let d = c.args.document.now in
    linked_out (next_object_slot-laws s.layer s.next s.raised) c.requires.fits (search rules)
    (c.take_object.ensures.object ∙ rw c.sibling-last.ensures (object_at-last s.layer d c.in-Some.place (search rules) s.next s.raised)) (
    c.set_next_ids-in-None.ensures.document
    ∙ take_last s.layer s.next s.raised c.parts.result.now.next_layer_id d c.take_object.new.self c.in-Some.place (search rules) (search rules)
    (rw c.sibling-last.ensures at c.take_object.ensures.document)
    )
