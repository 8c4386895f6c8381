-- What the members of a map's head say, and what is written of it: all of a map but its size in cells and its lists.
use Rattle.std.specs.Prelude.{ℕ, ◌≤◌, List, [], ◌∷◌, Bool, not, Result, Ok}
use Rattle.std.specs.List.{list_any}
use Rattle.std.specs.Str.{bytes_eq}
use Rattle.serde_json.specs.Data.{Members}
use Rattle.json_trees.specs.declared.names.TheConstants.{RESERVED_NAME}
use Rattle.map_model.specs.declared.heads.MapHead.{MapHead}
use Rattle.map_model.specs.declared.limits.TheConstants.{MAX_NEXT_ID}
use Rattle.map_model.specs.declared.names.TheConstants.{WIDTH, HEIGHT, INFINITE, CHUNKS, DATA, OBJECTS, LAYERS, TILESETS, PROPERTIES, TYPE, VERSION}
use Rattle.map_model.specs.declared.parts.MapParts.{MapParts}
use Rattle.map_model.specs.Format.{map_names, next_layer_id_member, next_object_id_member, tile_height_member, tile_width_member}
use Rattle.map_model.specs.Heads.{map_with_head}
use Rattle.map_model.specs.Keeping.{AreKept, map_tier}
use Rattle.map_model.specs.Refusing.{◌>>=◌, ◌>>◌, check}
use Rattle.map_model.specs.WellFormed.{IsTileSize}
use Rattle.refusals.specs.declared.map_refusal.MapRefusal.{MapRefusal}
use Rattle.refusals.specs.declared.map_refusal.MapRefusal.TheVariants.{OverLimit}
use Rattle.json_members.specs.Members.{without_all}
use Rattle.map_values.specs.Scalars.{own_value, required_member}
use Rattle.map_json.specs.Distinctness.{are_below_next}
use Rattle.map_json.specs.Members.{Own, with_own}

-- the names of a map's members that other lines change
abbrev pub fixed_map_names : List (List ℕ)
fixed_map_names =
    WIDTH.now ∷ HEIGHT.now ∷ INFINITE.now ∷ CHUNKS.now ∷ DATA.now ∷ OBJECTS.now ∷ LAYERS.now ∷ TILESETS.now ∷ PROPERTIES.now ∷ TYPE.now ∷ VERSION.now
    ∷ RESERVED_NAME.now ∷ []

-- a map's own members are all others
abbrev pub is_map_member : List ℕ → Bool
is_map_member name = not (list_any (bytes_eq name) fixed_map_names)

-- the names of a head's own members
abbrev pub map_head_names : List (List ℕ)
map_head_names = tile_width_member.name ∷ tile_height_member.name ∷ next_layer_id_member.name ∷ next_object_id_member.name ∷ []

-- the head that members say
unfoldable pub map_head_said : Members → Result MapHead MapRefusal
map_head_said ms = do
  tile_width ← required_member tile_width_member ms
  tile_height ← required_member tile_height_member ms
  next_layer_id ← required_member next_layer_id_member ms
  next_object_id ← required_member next_object_id_member ms
  Ok (record {
    tile_width = tile_width;
    tile_height = tile_height;
    next_layer_id = next_layer_id;
    next_object_id = next_object_id;
    kept = without_all map_head_names ms;
  })

-- and whether the map may have it: each of its ids is below the next one
unfoldable pub map_head_at : MapParts → Members → Result MapHead MapRefusal
map_head_at m ms = do
  h ← map_head_said ms
  check (are_below_next (map_with_head h m)) OverLimit
  Ok h

-- the members that are written of a head
abbrev pub map_head_own : MapHead → Own
map_head_own h =
    own_value tile_width_member h.tile_width
    ∷ own_value tile_height_member h.tile_height
    ∷ own_value next_layer_id_member h.next_layer_id
    ∷ own_value next_object_id_member h.next_object_id
    ∷ []

abbrev pub map_head_members : MapHead → Members
map_head_members h = with_own (map_head_own h) h.kept

-- a map's head, but for what its ids ask of it
pub record IsMapHead (h : MapHead) : Type 0 where
  pub tile_size : IsTileSize h.tile_width h.tile_height
  pub layer_low : 1 ≤ h.next_layer_id
  pub layer_high : h.next_layer_id ≤ MAX_NEXT_ID
  pub object_low : 1 ≤ h.next_object_id
  pub object_high : h.next_object_id ≤ MAX_NEXT_ID
  pub kept : AreKept map_tier map_names h.kept
