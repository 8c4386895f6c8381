use Rattle.std.proofs.Common.{◌≡◌, ◌<◌, length, false, Some, None, Ok, rules}
use Rattle.map_model.specs.declared.limits.TheConstants.{MAX_PROPERTIES}
use Rattle.map_model.specs.WellFormed.{IsWellFormed}
use Rattle.map_model.specs.Properties.{properties_of, property_at, property_place, scalar_value}
use Rattle.edits.specs.PropertyEdits.{after_set_property, owner_or_fault}
use Rattle.command_api.specs.Making.{Makes}
use Rattle.property_commands.specs.declared.set.PropertySet.{PropertySet}
use Rattle.property_commands.specs.declared.set.SetKind.TheVariants.{Replace, Add}
use Rattle.property_commands.specs.PropertyChanges.{property_set_change}
use Rattle.property_commands.specs.Names.{set_property_names}
use Rattle.property_commands.proofs.PropertyMaking.{made-as, replace-made, add-made}
use Rattle.property_commands.proofs.set.PropertySet.new.Goals as goal

pub returns-in-Ok-new-clause-command : goal.returns-in-Ok-new-clause-command
returns-in-Ok-new-clause-command c =
    let a = c.args in
    let d = a.document.now in
    let value = scalar_value a.value in
    let place = c.in_ok-place.place in
    let found : owner_or_fault d.map a.owner ≡ Ok place = search rules in
    let there : property_place d.map place a.name.now ≡ Some c.in-Some.at = search rules in
    let has : property_at d.map place c.in-Some.at ≡ Some c.in-Some.property.now = search rules in
    let well : IsWellFormed d.map = search rules in
    made-as (λ (made : PropertySet). Makes (set_property_names a.owner a.name.now a.follows) d (after_set_property d a.owner a.name.now a.kind.now value)
    (property_set_change made)) c.named.result
    (record {
      owner = a.owner;
      name = a.name.now;
      follows = a.follows;
      place = place;
      at = c.in-Some.at;
      shown = c.in-Ok-new.shown;
      kind = Replace c.in-Ok.setting false c.has_setting-is_same.result;
    }) c.named.ensures.ok
    (replace-made d a.owner a.name.now a.kind.now value a.follows place found well c.in-Some.at c.in-Some.property.now c.has_setting-is_same.result
    c.in-Ok.setting c.in-Ok-new.shown there has
    c.has_setting-is_same.ensures c.in-Ok.ensures.setting c.in-Ok-new.ensures (c.in-Ok.ensures.value d.map place))

pub returns-in-Ok-new-2-clause-command : goal.returns-in-Ok-new-2-clause-command
returns-in-Ok-new-2-clause-command c =
    let a = c.args in
    let d = a.document.now in
    let value = scalar_value a.value in
    let place = c.in_ok-place.place in
    let ps = c.in-Some-properties.properties.now in
    let found : owner_or_fault d.map a.owner ≡ Ok place = search rules in
    let none : property_place d.map place a.name.now ≡ None = search rules in
    let are : properties_of d.map place ≡ Some ps = search rules in
    let few : length ps < MAX_PROPERTIES = rw c.len-at.ensures.value at c.if-at-ge-MAX_PROPERTIES.false in
    let well : IsWellFormed d.map = search rules in
    made-as (λ (made : PropertySet). Makes (set_property_names a.owner a.name.now a.follows) d (after_set_property d a.owner a.name.now a.kind.now value)
    (property_set_change made))
    c.named-in-None.result
    (record {
      owner = a.owner;
      name = a.name.now;
      follows = a.follows;
      place = place;
      at = c.len-at.result;
      shown = c.in-Ok-new-2.shown;
      kind = Add (Some c.in-Ok-loose_property.property);
    }) c.named-in-None.ensures.ok
    (add-made d a.owner a.name.now a.kind.now value a.follows place found well ps c.len-at.result c.in-Ok-loose_property.property
    c.in-Ok-new-2.shown c.utf8.name c.len-at.ensures.value none are few
    c.in-Ok-loose_property.ensures.property c.in-Ok-new-2.ensures (c.in-Ok-loose_property.ensures.value d.map place))
