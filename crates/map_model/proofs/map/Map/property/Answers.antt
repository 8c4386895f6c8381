use Rattle.std.proofs.Common.{◌≡◌, Some, sym}
use Rattle.map_model.specs.Properties.{properties_of}
use Rattle.map_model.proofs.PropertyKeeps.{AreProperties-of}
use Rattle.map_model.proofs.map.Map.property.Goals as goal

pub find_property-requires : goal.find_property-requires
find_property-requires c =
    let ps = c.in_ok-properties.field-0.now in
    let there : properties_of c.self.inside.parts c.args.owner ≡ Some ps = rw c.self.view_is (sym c.in_ok-properties.ensures) in
    (AreProperties-of c.args.owner ps c.self.inside.parts there c.self.invariant).few
