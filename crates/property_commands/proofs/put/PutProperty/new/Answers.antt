use Rattle.std.proofs.Common.{◌≡◌, ◌<◌, length, Some, None, Ok, rules}
use Rattle.map_model.specs.declared.limits.TheConstants.{MAX_PROPERTIES}
use Rattle.map_model.specs.WellFormed.{IsWellFormed}
use Rattle.map_model.specs.Properties.{properties_of, property_at, property_place}
use Rattle.edits.specs.PropertyEdits.{owner_or_fault}
use Rattle.property_commands.proofs.PropertyPuts.{put-replaced, put-added}
use Rattle.property_commands.proofs.put.PutProperty.new.Goals as goal

pub returns-in-Ok-clause-command : goal.returns-in-Ok-clause-command
returns-in-Ok-clause-command c =
    let a = c.args in
    let d = a.document.now in
    let place = c.in_ok-place.place in
    let found : owner_or_fault d.map a.owner ≡ Ok place = search rules in
    let there : property_place d.map place a.property.name ≡ Some c.in-Some.at = search rules in
    let has : property_at d.map place c.in-Some.at ≡ Some c.in-Some.own.now = search rules in
    let well : IsWellFormed d.map = search rules in
    put-replaced d a.owner a.property place found well c.requires c.in-Some.at c.in-Some.own.now c.is_same_property-is_same.result c.in-Ok.property
    c.in-Ok.ensures.ok there has c.is_same_property-is_same.ensures

pub returns-in-Ok-new-clause-command : goal.returns-in-Ok-new-clause-command
returns-in-Ok-new-clause-command c =
    let a = c.args in
    let d = a.document.now in
    let place = c.in_ok-place.place in
    let ps = c.in-Some-properties.properties.now in
    let found : owner_or_fault d.map a.owner ≡ Ok place = search rules in
    let none : property_place d.map place a.property.name ≡ None = search rules in
    let are : properties_of d.map place ≡ Some ps = search rules in
    let few : length ps < MAX_PROPERTIES = rw c.len-at.ensures.value at c.if-at-ge-MAX_PROPERTIES.false in
    let well : IsWellFormed d.map = search rules in
    put-added d a.owner a.property place found well c.requires ps c.len-at.result c.in-Ok-new.property c.len-at.ensures.value none are few c.in-Ok-new.ensures.ok
