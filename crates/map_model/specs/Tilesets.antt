-- The tileset of a value.
use Rattle.std.specs.Prelude.{ℕ, ◌<◌, ◌≤◌, List, [], ◌∷◌, Bool, false, nat_lt, nat_eq, if◌then◌else◌, Option, Some, None, is_some, Contains, slice_get}
use Rattle.std.specs.Prelude.{option_to_list, position, find}
use Rattle.std.specs.List.{flat_map, list_any, insert, remove}
use Rattle.map_model.specs.declared.parts.Body.{Body}
use Rattle.map_model.specs.declared.parts.Body.TheVariants.{Tiles, Objects}
use Rattle.map_model.specs.declared.parts.Layer.{Layer}
use Rattle.map_model.specs.declared.parts.Object.{Object}
use Rattle.tile_id.specs.Gid.{base_of}
use Rattle.map_model.specs.declared.parts.Tileset.{Tileset}
use Rattle.map_model.specs.declared.parts.MapParts.{MapParts}
use Rattle.map_model.specs.Groups.{all_drawn}
use Rattle.map_model.specs.Lists.{Each, change_first}

-- of the best one so far and another, the one with the greater first id that is not above the base
abbrev pub better : ℕ → Option Tileset → Tileset → Option Tileset
better base None t = if nat_lt base t.first_id then None else Some t
better base (Some s) t = if nat_lt base t.first_id then Some s else (if nat_lt s.first_id t.first_id then Some t else Some s)

abbrev pub best_of : ℕ → Option Tileset → List Tileset → Option Tileset
best_of base best [] = best
best_of base best (t ∷ ts) = best_of base (better base best t) ts

-- the tileset of a value; none where its base is 0
abbrev pub tileset_of : MapParts → ℕ → Option Tileset
tileset_of m gid = if nat_eq (base_of gid) 0 then None else best_of (base_of gid) None m.tilesets

-- the tileset is one of the map's, and of those with a first id not above the value's base it has the greatest
pub record IsTilesetOf (m : MapParts) (gid : ℕ) (t : Tileset) : Type 0 where
  pub some : 0 < base_of gid
  pub there : Contains m.tilesets t
  pub low : t.first_id ≤ base_of gid
  pub greatest : Each (λ s. s.first_id ≤ base_of gid → s.first_id ≤ t.first_id) m.tilesets

-- no first id of the map's tilesets is as low as the value's base, where that is not 0
abbrev pub HasNoTileset : MapParts → ℕ → Type 0
HasNoTileset m gid = 0 < base_of gid → Each (λ s. base_of gid < s.first_id) m.tilesets

-- ---- tilesets put in and taken out
abbrev pub has_first_id : ℕ → Tileset → Bool
has_first_id first_id t = nat_eq t.first_id first_id

-- the place of the tileset with the first id
abbrev pub tileset_place : MapParts → ℕ → Option ℕ
tileset_place m first_id = position (has_first_id first_id) m.tilesets

-- the tileset at a place
abbrev pub tileset_at : MapParts → ℕ → Option Tileset
tileset_at m at = slice_get m.tilesets at

-- the tileset with a first id
abbrev pub tileset_with : MapParts → ℕ → Option Tileset
tileset_with m first_id = find (has_first_id first_id) m.tilesets

-- the map with f of that tileset in its place
abbrev pub with_tileset : ℕ → (Tileset → Tileset) → MapParts → MapParts
with_tileset first_id f m = record m { tilesets = change_first (has_first_id first_id) f m.tilesets }

-- the map with a tileset put in at a place: those from there on stand one place higher
abbrev pub with_tileset_at : ℕ → Tileset → MapParts → MapParts
with_tileset_at at t m = record m { tilesets = insert m.tilesets at t }

-- the map without the tileset at a place
abbrev pub without_tileset_at : ℕ → MapParts → MapParts
without_tileset_at at m = record m { tilesets = remove m.tilesets at }

-- ---- tilesets in use
-- the value of an object, where it has one
abbrev pub gids_of : Object → List ℕ
gids_of o = option_to_list o.gid

-- the values of a layer: its cells, or those of its objects
abbrev pub values_in : Body → List ℕ
values_in (Tiles e cells) = cells
values_in (Objects os) = flat_map gids_of os
values_in b = []

abbrev pub values_of : ℕ × Layer → List ℕ
values_of d = values_in d.1.body

-- whether it is the tileset with the first id
abbrev pub is_first : ℕ → Option Tileset → Bool
is_first first_id None = false
is_first first_id (Some t) = has_first_id first_id t

-- whether the tileset of a value is the one with the first id
abbrev pub is_value_of : MapParts → ℕ → ℕ → Bool
is_value_of m first_id value = is_first first_id (tileset_of m value)

-- whether a cell or an object has a value of the tileset with the first id
abbrev pub has_uses : MapParts → ℕ → Bool
has_uses m first_id = list_any (is_value_of m first_id) (flat_map values_of (all_drawn m.layers))

-- whether the tileset with the first id is in use; none where there is no such tileset
abbrev pub in_use : MapParts → ℕ → Option Bool
in_use m first_id = if is_some (tileset_place m first_id) then Some (has_uses m first_id) else None
