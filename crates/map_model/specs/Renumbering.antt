-- A tileset that gets another first id, and its values with it.
use Rattle.std.specs.Prelude.{◌≡◌, ◌≢◌, ◌⊎◌, ℕ, zero, suc, ◌+◌, ◌-◌, ◌<◌, ◌≤◌, List, map, Bool, true, false, nat_le, if◌then◌else◌, IsSome}
use Rattle.std.specs.List.{list_any}
use Rattle.std.specs.Option.{option_map}
use Rattle.tile_id.specs.Gid.{base_of}
use Rattle.map_model.specs.declared.limits.TheConstants.{MAX_FIRST_ID, MAX_GROUPS}
use Rattle.map_model.specs.declared.parts.Body.{Body}
use Rattle.map_model.specs.declared.parts.Layer.{Layer}
use Rattle.map_model.specs.declared.parts.MapParts.{MapParts}
use Rattle.map_model.specs.declared.parts.Object.{Object}
use Rattle.map_model.specs.declared.parts.Tileset.{Tileset}
use Rattle.map_model.specs.Bodies.{body_with_contents}
use Rattle.map_model.specs.Groups.{all_drawn, layer_with_layers}
use Rattle.map_model.specs.Lists.{Each, change_first}
use Rattle.map_model.specs.Tilesets.{has_first_id, tileset_with, values_of}
use Rattle.map_model.specs.Uses.{base_limit, end_of, is_between}

-- ---- values
-- a value whose base lies in the range from one number up to another goes along where the range begins at a third; its flags stay
abbrev pub value_moved : ℕ → ℕ → ℕ → ℕ → ℕ
value_moved low end to value = if is_between low end value then value - low + to else value

-- an object with f of its value
abbrev pub object_with_value : (ℕ → ℕ) → Object → Object
object_with_value f o = record o { gid = option_map f o.gid }

-- a body with f of each value in it
abbrev pub body_with_values : (ℕ → ℕ) → Body → Body
body_with_values f = body_with_contents (map f) (map (object_with_value f))

abbrev pub layer_with_values : (ℕ → ℕ) → Layer → Layer
layer_with_values f l = record l { body = body_with_values f l.body }

-- a layer with f of each value in it and in those that stand in it
unfoldable pub one_with_values : ℕ → (ℕ → ℕ) → Layer → Layer
one_with_values zero f l = layer_with_values f l
one_with_values (suc groups) f l = layer_with_layers (map (one_with_values groups f)) (layer_with_values f l)

abbrev pub layers_with_values : ℕ → (ℕ → ℕ) → List Layer → List Layer
layers_with_values groups f ls = map (one_with_values groups f) ls

-- ---- maps
abbrev pub tileset_with_first_id : ℕ → Tileset → Tileset
tileset_with_first_id to t = record t { first_id = to }

-- the number below which the bases of the values of the tileset with a first id are
abbrev pub end_in : MapParts → ℕ → ℕ
end_in m first_id = end_of first_id base_limit m.tilesets

-- the map where the tileset with a first id has another one, in its place, and its values go along
abbrev pub map_renumbered : ℕ → ℕ → MapParts → MapParts
map_renumbered first_id to m = record m {
  layers = layers_with_values MAX_GROUPS (value_moved first_id (end_in m first_id) to) m.layers;
  tilesets = change_first (has_first_id first_id) (tileset_with_first_id to) m.tilesets;
}

-- ---- what fits
-- a value is still of the tileset that it was of, if any
pub record KeepsTileset (low end to value : ℕ) : Type 0 where
  pub along : is_between low end value ≡ true → base_of value + to < end + low
  pub stays : is_between low end value ≡ false → is_between to end value ≡ false

-- whether a value would be of another tileset, of one where it was of none, of none where it was of one, or of another tile
abbrev pub loses_tileset : ℕ → ℕ → ℕ → ℕ → Bool
loses_tileset low end to value = if is_between low end value then nat_le (end + low) (base_of value + to) else is_between to end value

-- whether some value in the map would
abbrev pub has_losses : MapParts → ℕ → ℕ → Bool
has_losses m first_id to = list_any (λ d. list_any (loses_tileset first_id (end_in m first_id) to) (values_of d)) (all_drawn m.layers)

-- another tileset has neither of two first ids, nor one between them
abbrev pub LiesApart : ℕ → ℕ → Tileset → Type 0
LiesApart first_id to t = t.first_id ≢ first_id → ((t.first_id < first_id) × (t.first_id < to)) ⊎ ((first_id < t.first_id) × (to < t.first_id))

-- the tileset with a first id may get another one
pub record MayBeRenumbered (first_id to : ℕ) (m : MapParts) : Type 0 where
  pub there : IsSome (tileset_with m first_id)
  pub low : 1 ≤ to
  pub high : to ≤ MAX_FIRST_ID
  pub apart : Each (LiesApart first_id to) m.tilesets
  pub values : Each (λ d. Each (KeepsTileset first_id (end_in m first_id) to) (values_of d)) (all_drawn m.layers)
