use Rattle.std.proofs.Common.{rules, ◌∙◌}
use Rattle.command_api.proofs.Links.{linked_in, linked_out}
use Rattle.map_model.proofs.SlotLaws.{layer_slot-laws}
use Rattle.layer_commands.proofs.SiblingSlots.{slot-given, slot-item, slot-without}
use Rattle.layer_commands.proofs.remove.RemoveLayerExchange.exchange.Goals as goal

pub returns-in-Some : goal.returns-in-Some
returns-in-Some c =
    let place = c.args.self.now.place in
    linked_in (layer_slot-laws place) c.requires.fits c.in-Some.layer (search rules) (search rules)
    (slot-given place c.in-Some.layer c.args.document.now c.insert_layer.new.self c.insert_layer.ensures.document)

pub returns-in-None : goal.returns-in-None
returns-in-None c =
    let place = c.args.self.now.place in
    linked_out (layer_slot-laws place) c.requires.fits (search rules) (c.take_layer.ensures.layer ∙ slot-item place c.args.document.now)
    (c.take_layer.ensures.document ∙ slot-without place c.args.document.now)
