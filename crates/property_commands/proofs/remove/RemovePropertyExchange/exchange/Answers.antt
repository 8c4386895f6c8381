use Rattle.property_commands.specs.Names.{remove_property_names}
use Rattle.property_commands.proofs.remove.RemovePropertyExchange.exchange.Goals as goal

pub returns : goal.returns
returns c = c.exchange_property.ensures.exchanged remove_property_names
