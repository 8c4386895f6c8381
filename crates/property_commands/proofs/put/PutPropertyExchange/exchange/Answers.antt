use Rattle.std.proofs.Common.{sym, ◌∙◌}
use Rattle.property_commands.specs.Names.{put_property_names}
use Rattle.property_commands.proofs.PropertyPuts.{held-fits, put-turned}
use Rattle.property_commands.proofs.put.PutPropertyExchange.exchange.Goals as goal

pub replace_property-requires : goal.replace_property-requires
replace_property-requires c =
    let s = c.args.self.now in
    let fits = rw c.in-Replace.is at c.requires.fits in
    held-fits s.place s.at c.in-Replace.property c.in-Some.held c.args.document.now (sym c.take.ensures.value ∙ c.in-Some.is) fits

pub returns-in-Some : goal.returns-in-Some
returns-in-Some c =
    let s = c.args.self.now in
    let fits = rw c.in-Replace.is at c.requires.fits in
    rw c.in-Replace.is (
    put-turned s.place s.at c.in-Replace.is_same c.in-Replace.is_made c.in-Replace.property c.in-Some.held c.replace_property.result c.args.document.now
    c.replace_property.new.document (sym c.take.ensures.value ∙ c.in-Some.is) fits c.replace_property.ensures.own c.replace_property.ensures.document
    )

pub exchange_property-requires : goal.exchange_property-requires
exchange_property-requires c = rw c.in-Add.is at c.requires.fits

pub returns-in-Add : goal.returns-in-Add
returns-in-Add c = rw c.in-Add.is (c.exchange_property.ensures.exchanged put_property_names)
