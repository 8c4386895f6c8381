-- New layers, objects, tilesets and maps are well formed.
use Rattle.std.proofs.Common.{◌≡◌, IsUtf8, ℕ, zero, suc, ◌≤◌, ◌*◌, List, [], ◌∷◌, true, not, ◌&&◌, Option, Some, None, is_some, append-nil, refl, ◌∙◌, arith}
use Rattle.std.specs.Prelude.{replicate, codes}
use Rattle.std.specs.List.{list_all}
use Rattle.std.proofs.lemmas.List.{length-replicate}
use Rattle.std.proofs.lemmas.Str.{IsUtf8-from_is_utf8}
use Rattle.std.specs.Str.{chars, is_utf8}
use lib.Utf8.{encode}
use Rattle.serde_json.specs.Data.{Data, Members, no_members}
use Rattle.serde_json.specs.Find.{get_member}
use Rattle.map_model.specs.declared.limits.TheConstants.{MAX_FIRST_ID, MAX_GROUPS}
use Rattle.map_model.specs.declared.parts.Layer.{Layer}
use Rattle.map_model.specs.declared.parts.Encoding.TheVariants.{Array}
use Rattle.map_model.specs.declared.parts.Body.TheVariants.{Tiles, Objects, Other, Group}
use Rattle.map_model.specs.declared.parts.LayerKind.{LayerKind}
use Rattle.map_model.specs.declared.parts.LayerKind.TheVariants as kinds
use Rattle.map_model.specs.declared.parts.MoreLayerKind.{MoreLayerKind}
use Rattle.map_model.specs.declared.parts.MoreLayerKind.TheVariants as more_kinds
use Rattle.map_model.specs.declared.parts.Placing.{Placing}
use Rattle.map_model.specs.Keeping.{deepest_tier, layer_tier, object_tier, map_tier}
use Rattle.map_model.specs.Format.{map_names, layer_names, object_names, tileset_names}
use Rattle.map_model.specs.Groups.{all_drawn, bare, inside, tree}
use Rattle.map_model.specs.Lists.{Each}
use Rattle.map_model.specs.Readable.{AreReadableMembers}
use Rattle.map_model.specs.NewMap.{empty_layer, external_tileset, image_layer_members, new_layer, new_more_layer, new_map}
use Rattle.map_model.specs.NewMap.{tile_layer_members, object_layer_members, map_members, new_object, object_members}
use Rattle.map_model.specs.WellFormed.{IsTileset, IsTileValue, IsLayer, IsSize, IsTileSize, IsWellFormed, AreProperties, IsPlacing, IsObject}
use Rattle.map_model.proofs.GroupBodies.{IsLayer-with}
use Rattle.map_model.proofs.Keeps.{tree-alone}

pub Each-replicate : {X : Type 0} (P : X → Type 0) (n : ℕ) (x : X) → P x → Each P (replicate n x)
Each-replicate P zero x p = tt
Each-replicate P (suc n) x p = (p, Each-replicate P n x p)

no_properties : (tier : ℕ) → AreProperties tier []
no_properties tier = record { few = omega arith; each = tt; distinct = tt }

-- members without these names, by a test
pub unread-test : (ms : Members) (names : List (List ℕ)) → list_all (λ name. not (is_some (get_member name ms))) names ≡ true
    → Each (λ name. get_member name ms ≡ None) names
unread-test ms [] e = tt
unread-test ms (name ∷ names) e = by_member (get_member name ms) e (unread-test ms names)
  where
    by_member : (o : Option Data) → (not (is_some o) && list_all (λ n. not (is_some (get_member n ms))) names) ≡ true
        → (list_all (λ n. not (is_some (get_member n ms))) names ≡ true → Each (λ n. get_member n ms ≡ None) names)
        → (o ≡ None) × Each (λ n. get_member n ms ≡ None) names
    by_member None q rest = (refl, rest q)
    by_member (Some d) q rest = cc

-- ---- what is kept can be read
pub utf8-test : (text : List ℕ) → is_utf8 text ≡ true → IsUtf8 text
utf8-test text e = IsUtf8-from_is_utf8 text e

tile_layer_readable : AreReadableMembers tile_layer_members
unfolding is_utf8 chars encode
tile_layer_readable = (
  utf8-test (codes "opacity") refl,
  (refl, (refl, tt)),
  omega arith,
  (utf8-test (codes "x") refl, (refl, tt), omega arith, (utf8-test (codes "y") refl, tt, omega arith, tt)),
)

object_layer_readable : AreReadableMembers object_layer_members
unfolding is_utf8 chars encode
object_layer_readable =
    (utf8-test (codes "draworder") refl, (refl, (refl, (refl, tt))), utf8-test (codes "topdown") refl, tile_layer_readable)

image_layer_readable : AreReadableMembers image_layer_members
unfolding is_utf8 chars encode
image_layer_readable =
    (utf8-test (codes "image") refl, (refl, (refl, (refl, tt))), utf8-test [] refl, tile_layer_readable)

object_readable : AreReadableMembers object_members
unfolding is_utf8 chars encode
object_readable =
    (utf8-test (codes "rotation") refl, (refl, tt), omega arith, (utf8-test (codes "type") refl, tt, utf8-test [] refl, tt))

map_readable : AreReadableMembers map_members
unfolding is_utf8 chars encode
map_readable = (
  utf8-test (codes "orientation") refl,
  (refl, tt),
  utf8-test (codes "orthogonal") refl,
  (utf8-test (codes "renderorder") refl, tt, utf8-test (codes "right-down") refl, tt),
)

-- a new layer is one of a map of so many cells
pub new_layer-IsLayer : (kind : LayerKind) (id : ℕ) (name : List ℕ) (size : ℕ) → IsUtf8 name → IsLayer layer_tier size (new_layer kind id name size)
new_layer-IsLayer kinds.Tile id name size utf8 = record {
  name = utf8;
  properties = no_properties layer_tier;
  kept = record {
    unread = unread-test tile_layer_members (layer_names (Tiles Array [])) refl;
    whole = refl;
    shallow = omega arith;
    readable = tile_layer_readable;
  };
  body = (length-replicate size 0, Each-replicate IsTileValue size 0 (omega arith));
}
new_layer-IsLayer kinds.Object id name size utf8 = record {
  name = utf8;
  properties = no_properties layer_tier;
  kept = record {
    unread = unread-test object_layer_members (layer_names (Objects [])) refl;
    whole = refl;
    shallow = omega arith;
    readable = object_layer_readable;
  };
  body = (omega arith, tt);
}

-- so is a new layer of a further kind
pub new_more_layer-IsLayer : (kind : MoreLayerKind) (id : ℕ) (name : List ℕ) (size : ℕ) → IsUtf8 name → IsLayer layer_tier size (new_more_layer kind id name)
new_more_layer-IsLayer more_kinds.Group id name size utf8 = record {
  name = utf8;
  properties = no_properties layer_tier;
  kept = record {
    unread = unread-test tile_layer_members (layer_names (Group [])) refl;
    whole = refl;
    shallow = omega arith;
    readable = tile_layer_readable;
  };
  body = omega arith;
}
new_more_layer-IsLayer more_kinds.Image id name size utf8 = record {
  name = utf8;
  properties = no_properties layer_tier;
  kept = record {
    unread = unread-test image_layer_members (layer_names Other) refl;
    whole = refl;
    shallow = omega arith;
    readable = image_layer_readable;
  };
  body = tt;
}

pub external_tileset-IsTileset : (first_id : ℕ) (source : List ℕ) → IsUtf8 source → 1 ≤ first_id → first_id ≤ MAX_FIRST_ID
    → IsTileset (external_tileset first_id source)
external_tileset-IsTileset first_id source utf8 low high = record {
  low = low;
  high = high;
  source = utf8;
  kept = record { unread = unread-test no_members tileset_names refl; whole = refl; shallow = omega arith; readable = tt };
}

-- a new object is one of a layer
pub new_object-IsObject : (tier id : ℕ) (placing : Placing) (name : List ℕ) → IsUtf8 name → tier ≤ deepest_tier → IsPlacing placing
    → IsObject (object_tier tier) (new_object id placing name)
new_object-IsObject tier id placing name utf8 low h = record {
  placing = h;
  name = utf8;
  gid = tt;
  properties = no_properties (object_tier tier);
  kept = record { unread = unread-test object_members object_names refl; whole = refl; shallow = omega (arith, low); readable = object_readable };
}

-- one layer, in which none stands
alone : (l : Layer) → inside l ≡ [] → all_drawn (l ∷ []) ≡ (layer_tier, bare l) ∷ []
alone l none = append-nil (tree MAX_GROUPS layer_tier l) ∙ tree-alone MAX_GROUPS layer_tier l none

first_name : IsUtf8 (codes "Tile Layer 1")
unfolding is_utf8 chars encode
first_name = utf8-test (codes "Tile Layer 1") refl

-- the map of the line `new`
pub new_map-IsWellFormed : (width height tile_width tile_height : ℕ) (source : List ℕ) → IsUtf8 source → IsSize width height → IsTileSize tile_width tile_height
    → IsWellFormed (new_map width height tile_width tile_height source)
new_map-IsWellFormed width height tile_width tile_height source utf8 size tile_size = record {
  size = size;
  tile_size = tile_size;
  layers = rw (alone (empty_layer 1 (codes "Tile Layer 1") (width * height)) refl) (record {
    few = omega arith;
    each = (
      IsLayer-with (λ ls. []) layer_tier (width * height) (empty_layer 1 (codes "Tile Layer 1") (width * height))
          (new_layer-IsLayer kinds.Tile 1 (codes "Tile Layer 1") (width * height) first_name),
      tt,
    );
    layer_ids = record { next_low = omega arith; next_high = omega arith; each = (record { low = omega arith; high = omega arith }, tt); distinct = (tt, tt) };
    object_ids = record { next_low = omega arith; next_high = omega arith; each = tt; distinct = tt };
  });
  tilesets = record {
    few = omega arith;
    each = (external_tileset-IsTileset 1 source utf8 (omega arith) (omega arith), tt);
    distinct = (tt, tt);
  };
  properties = no_properties map_tier;
  kept = record { unread = unread-test map_members map_names refl; whole = refl; shallow = omega arith; readable = map_readable };
}
