-- Properties: whose they are, where they stand, and maps with others.
use Rattle.std.specs.Prelude.{IsUtf8, ℕ, List, Bool, Option, Some, None, option_and_then, find, slice_get, position}
use Rattle.std.specs.Option.{option_map}
use Rattle.std.specs.List.{insert, remove}
use Rattle.std.specs.Str.{bytes_eq}
use Rattle.serde_json.specs.Data.{no_members}
use Rattle.map_model.specs.declared.owner.Owner.{Owner}
use Rattle.map_model.specs.declared.owner.Owner.TheVariants as owners
use Rattle.map_model.specs.declared.parts.Layer.{Layer}
use Rattle.map_model.specs.declared.parts.MapParts.{MapParts}
use Rattle.map_model.specs.declared.parts.Object.{Object}
use Rattle.map_model.specs.declared.parts.Property.{Property}
use Rattle.map_model.specs.declared.parts.PropValue.{PropValue}
use Rattle.map_model.specs.declared.parts.PropValue.TheVariants as values
use Rattle.map_model.specs.declared.place.OwnerPlace.{OwnerPlace}
use Rattle.map_model.specs.declared.place.OwnerPlace.TheVariants as places
use Rattle.map_model.specs.declared.setting.Scalar.{Scalar}
use Rattle.map_model.specs.declared.setting.Scalar.TheVariants as scalars
use Rattle.map_model.specs.declared.setting.Setting.{Setting}
use Rattle.map_model.specs.Keeping.{map_tier, layer_tier, object_tier, property_tier}
use Rattle.map_model.specs.Groups.{all_drawn, has_id}
use Rattle.map_model.specs.Lists.{change_at}
use Rattle.map_model.specs.Objects.{object_at, object_place, with_object}
use Rattle.map_model.specs.Lookups.{layer_of, with_layer}
use Rattle.map_model.specs.WellFormed.{IsValue}

-- ---- one property
-- whether a property has the name
abbrev pub has_name : List ℕ → Property → Bool
has_name name p = bytes_eq p.name name

abbrev pub setting_with : List ℕ → PropValue → Setting
setting_with kind value = record { kind = kind; value = value }

-- the type and the value of a property
abbrev pub setting_of : Property → Setting
setting_of p = setting_with p.kind p.value

-- the property with another type and value
abbrev pub property_with_setting : Setting → Property → Property
property_with_setting s p = record p { kind = s.kind; value = s.value }

-- a property that keeps no members
abbrev pub new_property : List ℕ → Setting → Property
new_property name s = record { name = name; kind = s.kind; value = s.value; kept = no_members }

-- the value that a line gives
abbrev pub scalar_value : Scalar → PropValue
scalar_value (scalars.Text text) = values.Text text.now
scalar_value (scalars.Whole number) = values.Whole number
scalar_value (scalars.Truth truth) = values.Truth truth

-- ---- owners
-- where the owner stands, where the map has it
abbrev pub owner_place : MapParts → Owner → Option OwnerPlace
owner_place m owners.Map = Some places.Map
owner_place m (owners.Layer id) = option_map (λ l. places.Layer id) (layer_of m id)
owner_place m (owners.Object id) = option_map places.Object (object_place m id)

-- the tier of a layer that was found
abbrev pub tier_by : Option (ℕ × Layer) → ℕ
tier_by None = layer_tier
tier_by (Some d) = d.0

-- whether it is the layer with the id
abbrev pub is_drawn_with : ℕ → ℕ × Layer → Bool
is_drawn_with id d = has_id id d.1

-- the tier of the layer with the id
abbrev pub tier_of : MapParts → ℕ → ℕ
tier_of m id = tier_by (find (is_drawn_with id) (all_drawn m.layers))

-- how deep the object of an owner stands in what is written for a map
abbrev pub owner_tier : MapParts → OwnerPlace → ℕ
owner_tier m places.Map = map_tier
owner_tier m (places.Layer id) = tier_of m id
owner_tier m (places.Object place) = object_tier (tier_of m place.layer)

-- a setting that a property of the owner may have
pub record IsSetting (m : MapParts) (owner : OwnerPlace) (s : Setting) : Type 0 where
  pub kind : IsUtf8 s.kind
  pub value : IsValue (property_tier (owner_tier m owner)) s.value

-- ---- the properties of an owner
abbrev pub layer_properties : Layer → List Property
layer_properties l = l.properties

abbrev pub layer_with_properties : (List Property → List Property) → Layer → Layer
layer_with_properties f l = record l { properties = f l.properties }

abbrev pub object_properties : Object → List Property
object_properties o = o.properties

abbrev pub object_with_properties : (List Property → List Property) → Object → Object
object_with_properties f o = record o { properties = f o.properties }

-- the properties of the owner at a place
abbrev pub properties_of : MapParts → OwnerPlace → Option (List Property)
properties_of m places.Map = Some m.properties
properties_of m (places.Layer id) = option_map layer_properties (layer_of m id)
properties_of m (places.Object place) = option_map object_properties (object_at m place)

-- the property at a place among the owner's
abbrev pub property_at : MapParts → OwnerPlace → ℕ → Option Property
property_at m owner at = option_and_then (λ ps. slice_get ps at) (properties_of m owner)

-- the place of the owner's first property with the name
abbrev pub property_place : MapParts → OwnerPlace → List ℕ → Option ℕ
property_place m owner name = option_and_then (position (has_name name)) (properties_of m owner)

-- ---- maps with other properties
-- the map with f of the owner's properties
abbrev pub with_properties : OwnerPlace → (List Property → List Property) → MapParts → MapParts
with_properties places.Map f m = record m { properties = f m.properties }
with_properties (places.Layer id) f m = with_layer id (layer_with_properties f) m
with_properties (places.Object place) f m = with_object place (object_with_properties f) m

-- the map with a property put in at a place: those from there on stand one place higher
abbrev pub with_property_at : OwnerPlace → ℕ → Property → MapParts → MapParts
with_property_at owner at p m = with_properties owner (λ ps. insert ps at p) m

-- the map without the property at a place
abbrev pub without_property_at : OwnerPlace → ℕ → MapParts → MapParts
without_property_at owner at m = with_properties owner (λ ps. remove ps at) m

-- the map with f of the property at a place in its place
abbrev pub with_property : OwnerPlace → ℕ → (Property → Property) → MapParts → MapParts
with_property owner at f m = with_properties owner (change_at at f) m
