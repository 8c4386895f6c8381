use Rattle.std.proofs.Common.{rules}
use Rattle.command_api.proofs.Links.{linked_in, linked_out}
use Rattle.map_model.proofs.SlotLaws.{object_slot-laws}
use Rattle.object_commands.proofs.remove.RemoveObjectExchange.exchange.Goals as goal

pub returns-in-Some : goal.returns-in-Some
returns-in-Some c = linked_in (object_slot-laws c.args.self.now.place) c.requires.fits c.in-Some.object (search rules)
    (search rules) c.insert_object.ensures.document

pub returns-in-None : goal.returns-in-None
returns-in-None c = linked_out (object_slot-laws c.args.self.now.place) c.requires.fits
    (search rules) c.take_object.ensures.object c.take_object.ensures.document
