use Rattle.std.proofs.Common.{sym, ◌∙◌}
use Rattle.map_model.proofs.PropertyLaws.{property_slot-laws}
use Rattle.command_api.proofs.Links.{linked_in, linked_out}
use Rattle.property_commands.proofs.link.exchange_property.Goals as goal

pub returns-in-Some-clause-exchanged : goal.returns-in-Some-clause-exchanged
returns-in-Some-clause-exchanged c = λ names.
    linked_in (property_slot-laws c.args.owner c.args.at) c.requires c.in-Some.property
    (sym c.take.ensures.value ∙ c.in-Some.is) c.take.ensures.after c.insert_property.ensures.document

pub returns-in-None-clause-exchanged : goal.returns-in-None-clause-exchanged
returns-in-None-clause-exchanged c = λ names.
    linked_out (property_slot-laws c.args.owner c.args.at) c.requires
    (sym c.take.ensures.value ∙ c.in-None.is) c.take_property.ensures.property c.take_property.ensures.document
