-- What the look-ups and changes of a map give.
use Rattle.std.specs.Prelude.{ℕ, ◌+◌, ◌*◌, ◌<◌, List, [], ◌&&◌, nat_lt, if◌then◌else◌, Option, Some, None, option_and_then, IsSomeAnd}
use Rattle.map_model.specs.declared.parts.Layer.{Layer}
use Rattle.map_model.specs.declared.parts.MapParts.{MapParts}
use Rattle.map_model.specs.declared.edit.CellEdit.{CellEdit}
use Rattle.map_model.specs.declared.edit.Side.{Side}
use Rattle.map_model.specs.declared.limits.TheConstants.{MAX_GROUPS}
use Rattle.map_model.specs.Groups.{layer_among, change_among}
use Rattle.map_model.specs.Bodies.{IsTiles, tiles_of, tile_at, body_with_tiles}
use Rattle.map_model.specs.CellEdits.{with_value, put_values}

-- the layer with the id
abbrev pub layer_of : MapParts → ℕ → Option Layer
layer_of m id = layer_among id MAX_GROUPS m.layers

-- the map has a tile layer with the id
abbrev pub HasTiles : MapParts → ℕ → Type 0
HasTiles m id = IsSomeAnd (layer_of m id) (λ l. IsTiles l.body)

-- the values of a layer; none where there is no layer
abbrev pub tiles_of_layer : Option Layer → List ℕ
tiles_of_layer None = []
tiles_of_layer (Some l) = tiles_of l.body

-- the values of the layer with the id
abbrev pub tiles_in : MapParts → ℕ → List ℕ
tiles_in m id = tiles_of_layer (layer_of m id)

-- the value of a cell of the map in the tile layer with the id
abbrev pub cell_of : MapParts → ℕ → ℕ → ℕ → Option ℕ
cell_of m id x y = if nat_lt x m.width && nat_lt y m.height then option_and_then (λ l. tile_at l.body (y * m.width + x)) (layer_of m id) else None

-- the map with f of the layer with the id in its place
abbrev pub with_layer : ℕ → (Layer → Layer) → MapParts → MapParts
with_layer id f m = record m { layers = change_among id MAX_GROUPS f m.layers }

-- a tile layer with f of its values; another layer as it is
abbrev pub layer_with_tiles : (List ℕ → List ℕ) → Layer → Layer
layer_with_tiles f l = record l { body = body_with_tiles f l.body }

-- the map with f of the values of the tile layer with the id
abbrev pub with_tiles : MapParts → ℕ → (List ℕ → List ℕ) → MapParts
with_tiles m id f = with_layer id (layer_with_tiles f) m

-- the map with the value at a cell of the tile layer with the id
abbrev pub with_cell : MapParts → ℕ → ℕ → ℕ → ℕ → MapParts
with_cell m id x y value = with_tiles m id (with_value (y * m.width + x) value)

-- the map with the cells of a list set to their values on a side
abbrev pub with_edits : MapParts → ℕ → List CellEdit → Side → MapParts
with_edits m id es side = with_tiles m id (put_values m.width side es)

-- the changed cell lies in the map
abbrev pub IsWithin : MapParts → CellEdit → Type 0
IsWithin m e = (e.x < m.width) × (e.y < m.height)
