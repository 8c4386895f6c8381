-- Objects and layers that go to another place: whether they fit there.
--
-- What a file kept of a thing may nest as deep as the tiers below that thing allow. So it may nest too deep for a place that
-- stands in more groups.
use Rattle.std.specs.Prelude.{ℕ, ◌+◌, ◌-◌, List, length, Bool, true, false, ◌&&◌, nat_eq, nat_le, nat_lt, if◌then◌else◌, Option, Some, None}
use Rattle.std.specs.List.{list_all}
use Rattle.serde_json.specs.Data.{Members, depth, members_depth}
use Rattle.map_model.specs.declared.limits.TheConstants.{MAX_DEPTH, MAX_GROUPS}
use Rattle.map_model.specs.declared.parts.Body.{Body}
use Rattle.map_model.specs.declared.parts.Body.TheVariants.{Objects, Group'}
use Rattle.map_model.specs.declared.parts.Layer.{Layer}
use Rattle.map_model.specs.declared.parts.MapParts.{MapParts}
use Rattle.map_model.specs.declared.parts.Object.{Object}
use Rattle.map_model.specs.declared.parts.Property.{Property}
use Rattle.map_model.specs.declared.parts.PropValue.{PropValue}
use Rattle.map_model.specs.declared.parts.PropValue.TheVariants as values
use Rattle.map_model.specs.declared.place.LayerPlace.{LayerPlace}
use Rattle.map_model.specs.declared.place.ObjectPlace.{ObjectPlace}
use Rattle.map_model.specs.Groups.{holds, tree}
use Rattle.map_model.specs.Keeping.{deepest_tier, inner_tier, layer_tier, object_tier, property_tier}
use Rattle.map_model.specs.Properties.{tier_of}

-- ---- at a tier
-- members that an owner at this tier keeps
abbrev pub members_fit : ℕ → Members → Bool
members_fit tier ms = nat_le (tier + members_depth ms) MAX_DEPTH

-- the value of a property at this tier
abbrev pub value_fits : ℕ → PropValue → Bool
value_fits tier (values.Other d) = nat_le (tier + depth d) MAX_DEPTH
value_fits tier v = true

-- a property at this tier
abbrev pub property_fits : ℕ → Property → Bool
property_fits tier p = members_fit tier p.kept && value_fits tier p.value

-- the properties of an owner at this tier
abbrev pub properties_fit : ℕ → List Property → Bool
properties_fit tier ps = list_all (property_fits (property_tier tier)) ps

-- an object at this tier
abbrev pub object_fits : ℕ → Object → Bool
object_fits tier o = members_fit tier o.kept && properties_fit tier o.properties

-- what a layer at this tier holds: a group leaves room for layers in it
abbrev pub body_fits : ℕ → Body → Bool
body_fits tier (Objects os) = list_all (object_fits (object_tier tier)) os
body_fits tier (Group' s r) = nat_lt tier deepest_tier
body_fits tier b = true

-- a layer with its tier, without those that stand in it
abbrev pub own_fits : ℕ × Layer → Bool
own_fits d = members_fit d.0 d.1.kept && properties_fit d.0 d.1.properties && body_fits d.0 d.1.body

-- a layer at this tier, and each layer that stands in it
abbrev pub layer_fits : ℕ → Layer → Bool
layer_fits tier l = list_all own_fits (tree MAX_GROUPS tier l)

-- ---- places
-- how many objects the layer has beside the one at a place
abbrev pub other_objects : ObjectPlace → ℕ → List Object → ℕ
other_objects place layer os = if nat_eq place.layer layer then length os - 1 else length os

-- whether two parents are the same
abbrev pub is_same_parent : Option ℕ → Option ℕ → Bool
is_same_parent None None = true
is_same_parent (Some a) (Some b) = nat_eq a b
is_same_parent a b = false

-- how many layers a parent has beside the one at a place
abbrev pub other_layers : LayerPlace → Option ℕ → List Layer → ℕ
other_layers place parent ls = if is_same_parent place.parent parent then length ls - 1 else length ls

-- whether a parent is the layer, or stands in it
abbrev pub is_parent_in : Layer → Option ℕ → Bool
is_parent_in l None = false
is_parent_in l (Some id) = holds id MAX_GROUPS l

-- the tier of the layers of this parent
abbrev pub tier_in : MapParts → Option ℕ → ℕ
tier_in m None = layer_tier
tier_in m (Some id) = inner_tier (tier_of m id)
