-- The lenses and the slots of properties.
use Rattle.std.specs.Prelude.{ℕ, List, Option, Some, None, option_and_then}
use Rattle.std.specs.Option.{option_map}
use Rattle.map_model.specs.declared.owner.Owner.{Owner}
use Rattle.map_model.specs.declared.parts.Property.{Property}
use Rattle.map_model.specs.declared.place.OwnerPlace.{OwnerPlace}
use Rattle.map_model.specs.declared.setting.Setting.{Setting}
use Rattle.map_model.specs.Document.{DocumentParts, with_map}
use Rattle.map_model.specs.Lens.{Lens, whole, inner, of_place, found}
use Rattle.map_model.specs.Properties.{owner_place, properties_of, property_place, property_with_setting, setting_of, with_properties, without_property_at}
use Rattle.map_model.specs.Slot.{Slot, slot_in}

-- the properties of the owner at a place
abbrev pub properties : OwnerPlace → Lens DocumentParts (List Property)
properties owner = record { get = λ d. properties_of d.map owner; update = λ f. with_map (with_properties owner f) }

-- the type and the value of a property
abbrev pub setting : Lens Property Setting
setting = whole setting_of property_with_setting

-- those of the property at a place among the owner's
abbrev pub setting_at : OwnerPlace → ℕ → Lens DocumentParts Setting
setting_at owner at = inner (properties owner) (of_place at setting)

-- the place of a property among the owner's
abbrev pub property_slot : OwnerPlace → ℕ → Slot Property
property_slot owner at = slot_in (properties owner) at

-- ---- the property of an owner with a name
-- where its owner stands, and its place among the owner's
abbrev pub setting_place : Owner → List ℕ → DocumentParts → Option (OwnerPlace × ℕ)
setting_place owner name d = option_and_then (λ place. option_map (λ at. (place, at)) (property_place d.map place name)) (owner_place d.map owner)

-- its type and its value
abbrev pub setting_named : Owner → List ℕ → Lens DocumentParts Setting
setting_named owner name = found (setting_place owner name) (λ at. setting_at at.0 at.1)

-- the document without the property at the place that was found, where there is one
abbrev pub without_found : DocumentParts → Option (OwnerPlace × ℕ) → DocumentParts
without_found d None = d
without_found d (Some at) = with_map (without_property_at at.0 at.1) d

-- the document without it
abbrev pub without_setting : Owner → List ℕ → DocumentParts → DocumentParts
without_setting owner name d = without_found d (setting_place owner name d)
