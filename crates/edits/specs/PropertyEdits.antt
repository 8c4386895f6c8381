-- The document after an edit of properties, or the edit's refusal.
use Rattle.std.specs.Prelude.{ℕ, List, nat_lt, length, Option, Some, None, Result, Ok}
use Rattle.std.specs.Option.{ok_or}
use Rattle.map_model.specs.declared.limits.TheConstants.{MAX_PROPERTIES}
use Rattle.map_model.specs.declared.owner.Owner.{Owner}
use Rattle.map_model.specs.declared.owner.Owner.TheVariants as owners
use Rattle.map_model.specs.declared.parts.MapParts.{MapParts}
use Rattle.map_model.specs.declared.parts.Property.{Property}
use Rattle.map_model.specs.declared.parts.PropValue.{PropValue}
use Rattle.map_model.specs.declared.place.OwnerPlace.{OwnerPlace}
use Rattle.map_model.specs.declared.place.OwnerPlace.TheVariants as places
use Rattle.map_model.specs.declared.setting.Setting.{Setting}
use Rattle.map_model.specs.Document.{DocumentParts, with_map}
use Rattle.map_model.specs.Properties.{new_property, owner_place, properties_of, property_place, property_with_setting, setting_with, with_property}
use Rattle.map_model.specs.Properties.{with_property_at, without_property_at}
use Rattle.map_model.specs.Refusing.{◌>>=◌, ◌>>◌, check}
use Rattle.refusals.specs.declared.edit_fault.EditFault.{EditFault}
use Rattle.refusals.specs.declared.edit_fault.EditFault.TheVariants.{NoSuchLayer, NoSuchObject, NoSuchProperty, TooMany}

-- where an owner stands, or that there is none
abbrev pub owner_or_fault : MapParts → Owner → Result OwnerPlace EditFault
owner_or_fault m owners.Map = Ok places.Map
owner_or_fault m (owners.Layer id) = ok_or (owner_place m (owners.Layer id)) NoSuchLayer
owner_or_fault m (owners.Object id) = ok_or (owner_place m (owners.Object id)) NoSuchObject

-- ---- a property set
abbrev pub count_of : Option (List Property) → ℕ
count_of None = 0
count_of (Some ps) = length ps

-- how many properties an owner has
abbrev pub property_count : MapParts → OwnerPlace → ℕ
property_count m owner = count_of (properties_of m owner)

-- one that is there gets the type and the value where it stands; a new one goes last
abbrev pub after_set_at : DocumentParts → List ℕ → Setting → OwnerPlace → Option ℕ → Result DocumentParts EditFault
after_set_at d name s owner (Some at) = Ok (with_map (with_property owner at (property_with_setting s)) d)
after_set_at d name s owner None = do
  check (nat_lt (property_count d.map owner) MAX_PROPERTIES) TooMany
  Ok (with_map (with_property_at owner (property_count d.map owner) (new_property name s)) d)

abbrev pub after_set_property : DocumentParts → Owner → List ℕ → List ℕ → PropValue → Result DocumentParts EditFault
after_set_property d owner name kind value = do
  place ← owner_or_fault d.map owner
  after_set_at d name (setting_with kind value) place (property_place d.map place name)

-- ---- a property less
abbrev pub after_remove_property : DocumentParts → Owner → List ℕ → Result DocumentParts EditFault
after_remove_property d owner name = do
  place ← owner_or_fault d.map owner
  at ← ok_or (property_place d.map place name) NoSuchProperty
  Ok (with_map (without_property_at place at) d)
