-- What is written for one thing of a map: the text of its tree, which is made of the definitions that the map's own text has.
use Rattle.std.specs.Prelude.{ℕ, ◌++◌, List, Option, option_and_then}
use Rattle.std.specs.Option.{option_map}
use Rattle.serde_json.specs.Data.{Data, object}
use Rattle.serde_json.specs.Written.{compact_text}
use Rattle.map_model.specs.declared.owner.Owner.{Owner}
use Rattle.map_model.specs.declared.parts.Layer.{Layer}
use Rattle.map_model.specs.declared.parts.MapParts.{MapParts}
use Rattle.map_model.specs.declared.parts.Object.{Object}
use Rattle.map_model.specs.declared.parts.Property.{Property}
use Rattle.map_model.specs.declared.parts.Tileset.{Tileset}
use Rattle.map_model.specs.declared.place.OwnerPlace.{OwnerPlace}
use Rattle.map_model.specs.Lookups.{layer_of}
use Rattle.map_model.specs.Objects.{object_at, object_place}
use Rattle.map_model.specs.Properties.{owner_place, properties_of, property_at, property_place}
use Rattle.map_model.specs.Tilesets.{tileset_at, tileset_place}
use Rattle.map_json.specs.Members.{with_own}
use Rattle.map_json.specs.Trees.{common_own, object_tree, plain_own, property_tree, said_own, tileset_tree}
use Rattle.map_values.specs.Arrays.{array_by}

-- the object with an id, and its text
abbrev pub object_with_id : MapParts → ℕ → Option Object
object_with_id m id = option_and_then (object_at m) (object_place m id)

abbrev pub object_text : MapParts → ℕ → Option (List ℕ)
object_text m id = option_map (λ o. compact_text (object_tree o)) (object_with_id m id)

-- a layer without its cells, its objects and its layers, and what tells how they are written
abbrev pub layer_head : Layer → Data
layer_head l = object (with_own (common_own l) l.kept)

abbrev pub layer_head_text : MapParts → ℕ → Option (List ℕ)
layer_head_text m id = option_map (λ l. compact_text (layer_head l)) (layer_of m id)

-- the properties of an owner; no array is written in the map's text where it has none, and here an empty one
abbrev pub properties_text : MapParts → Owner → Option (List ℕ)
properties_text m owner = option_map (λ ps. compact_text (array_by property_tree ps)) (option_and_then (properties_of m) (owner_place m owner))

-- the property with a name of the owner at a place
abbrev pub property_named : MapParts → List ℕ → OwnerPlace → Option Property
property_named m name place = option_and_then (property_at m place) (property_place m place name)

abbrev pub property_text : MapParts → Owner → List ℕ → Option (List ℕ)
property_text m owner name = option_map (λ p. compact_text (property_tree p)) (option_and_then (property_named m name) (owner_place m owner))

-- the tileset with a first id
abbrev pub tileset_with_id : MapParts → ℕ → Option Tileset
tileset_with_id m first_id = option_and_then (tileset_at m) (tileset_place m first_id)

abbrev pub tileset_text : MapParts → ℕ → Option (List ℕ)
tileset_text m first_id = option_map (λ t. compact_text (tileset_tree t)) (tileset_with_id m first_id)

-- a map without its layers and its tilesets
abbrev pub map_head : MapParts → Data
map_head m = object (with_own (plain_own m ++ said_own m) m.kept)

abbrev pub map_head_text : MapParts → List ℕ
map_head_text m = compact_text (map_head m)
