use Rattle.std.proofs.Common.{sym, ◌∙◌}
use Rattle.map_model.proofs.SlotLaws.{tileset_slot-laws}
use Rattle.command_api.proofs.Links.{linked_in, linked_out}
use Rattle.property_commands.proofs.link.exchange_tileset.Goals as goal

pub returns-in-Some : goal.returns-in-Some
returns-in-Some c = λ names.
    linked_in (tileset_slot-laws c.args.at) c.requires c.in-Some.tileset
    (sym c.take.ensures.value ∙ c.in-Some.is) c.take.ensures.after c.insert_tileset.ensures.document

pub returns-in-None : goal.returns-in-None
returns-in-None c = λ names.
    linked_out (tileset_slot-laws c.args.at) c.requires (sym c.take.ensures.value ∙ c.in-None.is) c.take_tileset.ensures.tileset c.take_tileset.ensures.document
