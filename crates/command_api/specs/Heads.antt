-- The head of an owner, as a command shows it: which owner has it, and the document with it put back.
use Rattle.std.specs.Prelude.{ℕ, List, Option, Some, None}
use Rattle.serde_json.specs.Data.{Data}
use Rattle.map_model.specs.declared.heads.LayerHead.{LayerHead}
use Rattle.map_model.specs.declared.heads.MapHead.{MapHead}
use Rattle.map_model.specs.declared.heads.ObjectHead.{ObjectHead}
use Rattle.map_model.specs.declared.heads.TilesetHead.{TilesetHead}
use Rattle.map_model.specs.declared.owner.MemberOwner.{MemberOwner}
use Rattle.map_model.specs.declared.owner.MemberOwner.TheVariants as owners
use Rattle.map_model.specs.Document.{DocumentParts}
use Rattle.map_model.specs.Heads.{head_of_map, head_with_id, layer_head_with_id, tileset_head_with_id, tileset_value}
use Rattle.map_model.specs.Lens.{put}
use Rattle.command_api.specs.Swap.{FitsBack}
use Rattle.command_api.specs.declared.offer.OwnerHead.{OwnerHead}
use Rattle.command_api.specs.declared.offer.OwnerHead.TheVariants as heads

-- a head, and which owner has it: the object, the layer or the tileset with the id, or the map; or the value of the tileset's own member
-- that is named
pub data ShownHead : Type 0 where
  ObjectsHead : ℕ → ObjectHead → ShownHead
  LayersHead : ℕ → LayerHead → ShownHead
  TilesetsHead : ℕ → TilesetHead → ShownHead
  MapsHead : MapHead → ShownHead
  TilesetsValue : ℕ → Data → ShownHead

abbrev pub shown_head : OwnerHead → ShownHead
shown_head (heads.Object object head) = ObjectsHead object head.now
shown_head (heads.Layer layer head) = LayersHead layer head.now
shown_head (heads.Tileset first_id head) = TilesetsHead first_id head.now
shown_head (heads.Map head) = MapsHead head.now
shown_head (heads.TilesetMember first_id value) = TilesetsValue first_id value.now

abbrev pub head_owner : ShownHead → MemberOwner
head_owner (ObjectsHead object head) = owners.Object object
head_owner (LayersHead layer head) = owners.Layer layer
head_owner (TilesetsHead first_id head) = owners.Tileset first_id
head_owner (MapsHead head) = owners.Map
head_owner (TilesetsValue first_id value) = owners.Tileset first_id

-- the document with the value of the tileset's own member of this name put back
abbrev pub value_undone : Option (List ℕ) → ℕ → Data → DocumentParts → DocumentParts
value_undone None first_id value d = d
value_undone (Some name) first_id value d = put (tileset_value first_id name) value d

-- the document with the head put back, or with the value of the member of this name
abbrev pub head_undone : Option (List ℕ) → ShownHead → DocumentParts → DocumentParts
head_undone name (ObjectsHead object head) d = put (head_with_id object) head d
head_undone name (LayersHead layer head) d = put (layer_head_with_id layer) head d
head_undone name (TilesetsHead first_id head) d = put (tileset_head_with_id first_id) head d
head_undone name (MapsHead head) d = put head_of_map head d
head_undone name (TilesetsValue first_id value) d = value_undone name first_id value d

-- a member is named, the well-formed document has it, and is well formed with the value put back
abbrev pub FitsValue : Option (List ℕ) → ℕ → Data → DocumentParts → Type 0
FitsValue None first_id value d = ⊥
FitsValue (Some name) first_id value d = FitsBack (tileset_value first_id name) value d

-- the well-formed document has the owner, or the member of this name, and is well formed with the head or the value put back
abbrev pub FitsHead : Option (List ℕ) → ShownHead → DocumentParts → Type 0
FitsHead name (ObjectsHead object head) d = FitsBack (head_with_id object) head d
FitsHead name (LayersHead layer head) d = FitsBack (layer_head_with_id layer) head d
FitsHead name (TilesetsHead first_id head) d = FitsBack (tileset_head_with_id first_id) head d
FitsHead name (MapsHead head) d = FitsBack head_of_map head d
FitsHead name (TilesetsValue first_id value) d = FitsValue name first_id value d
