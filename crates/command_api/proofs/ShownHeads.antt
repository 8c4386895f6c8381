-- Heads, as commands show them: what an offer of an owner undoes, the owner's head covers.
use Rattle.std.proofs.Common.{◌≡◌, ℕ, List, Option, Some, None, refl, subst}
use Rattle.serde_json.specs.Data.{Data}
use Rattle.map_model.specs.declared.heads.LayerHead.{LayerHead}
use Rattle.map_model.specs.declared.heads.MapHead.{MapHead}
use Rattle.map_model.specs.declared.heads.ObjectHead.{ObjectHead}
use Rattle.map_model.specs.declared.heads.TilesetHead.{TilesetHead}
use Rattle.map_model.specs.declared.owner.MemberOwner.TheVariants as owners
use Rattle.map_model.specs.Document.{DocumentParts}
use Rattle.map_model.specs.Heads.{head_of_map, head_with_id, layer_head_with_id, tileset_head_with_id, tileset_value}
use Rattle.map_model.proofs.HeadLaws.{head_with_id-laws, layer_head-laws, map_head-laws, tileset_head-laws}
use Rattle.map_model.proofs.ValueLaws.{head-over_value, head-there}
use Rattle.command_api.specs.Heads.{ShownHead, ObjectsHead, LayersHead, TilesetsHead, MapsHead, TilesetsValue, FitsHead, FitsValue}
use Rattle.command_api.specs.Heads.{head_owner, head_undone, value_undone}
use Rattle.command_api.specs.Swap.{IsCovered}
use Rattle.command_api.proofs.Swaps.{put-covered}

pub object-covered : (id : ℕ) (name : Option (List ℕ)) (s : ShownHead) (value : ObjectHead) (d : DocumentParts) → head_owner s ≡ owners.Object id
    → FitsHead name s d → IsCovered (head_with_id id) value (head_undone name s d) d
object-covered id name (ObjectsHead object h) value d e fits =
    let same : object ≡ id = cc in
    subst (λ n. IsCovered (head_with_id n) value (head_undone name (ObjectsHead object h) d) d) same (put-covered (head_with_id-laws object) fits)
object-covered id name (LayersHead layer h) value d e fits = absurd cc
object-covered id name (TilesetsHead first_id h) value d e fits = absurd cc
object-covered id name (MapsHead h) value d e fits = absurd cc
object-covered id name (TilesetsValue first_id v) value d e fits = absurd cc

pub layer-covered : (id : ℕ) (name : Option (List ℕ)) (s : ShownHead) (value : LayerHead) (d : DocumentParts) → head_owner s ≡ owners.Layer id
    → FitsHead name s d → IsCovered (layer_head_with_id id) value (head_undone name s d) d
layer-covered id name (LayersHead layer h) value d e fits =
    let same : layer ≡ id = cc in
    subst (λ n. IsCovered (layer_head_with_id n) value (head_undone name (LayersHead layer h) d) d) same (put-covered (layer_head-laws layer) fits)
layer-covered id name (ObjectsHead object h) value d e fits = absurd cc
layer-covered id name (TilesetsHead first_id h) value d e fits = absurd cc
layer-covered id name (MapsHead h) value d e fits = absurd cc
layer-covered id name (TilesetsValue first_id v) value d e fits = absurd cc

pub map-covered : (name : Option (List ℕ)) (s : ShownHead) (value : MapHead) (d : DocumentParts) → head_owner s ≡ owners.Map → FitsHead name s d
    → IsCovered head_of_map value (head_undone name s d) d
map-covered name (MapsHead h) value d e fits = put-covered map_head-laws fits
map-covered name (ObjectsHead object h) value d e fits = absurd cc
map-covered name (LayersHead layer h) value d e fits = absurd cc
map-covered name (TilesetsHead first_id h) value d e fits = absurd cc
map-covered name (TilesetsValue first_id v) value d e fits = absurd cc

-- a tileset's head covers the value of a member
value-covered : (first_id : ℕ) (name : Option (List ℕ)) (v : Data) (value : TilesetHead) (d : DocumentParts) → FitsValue name first_id v d
    → IsCovered (tileset_head_with_id first_id) value (value_undone name first_id v d) d
value-covered first_id None v value d fits = absurd fits
value-covered first_id (Some name) v value d fits = record {
  well_formed = fits.well_formed;
  there = head-there first_id name d fits.there;
  same = head-over_value first_id name v value d;
}

pub tileset-covered : (id : ℕ) (name : Option (List ℕ)) (s : ShownHead) (value : TilesetHead) (d : DocumentParts) → head_owner s ≡ owners.Tileset id
    → FitsHead name s d → IsCovered (tileset_head_with_id id) value (head_undone name s d) d
tileset-covered id name (TilesetsHead first_id h) value d e fits =
    let same : first_id ≡ id = cc in
    subst (λ n. IsCovered (tileset_head_with_id n) value (head_undone name (TilesetsHead first_id h) d) d) same (put-covered (tileset_head-laws first_id) fits)
tileset-covered id name (TilesetsValue first_id v) value d e fits =
    let same : first_id ≡ id = cc in
    subst (λ n. IsCovered (tileset_head_with_id n) value (value_undone name first_id v d) d) same (value-covered first_id name v value d fits)
tileset-covered id name (ObjectsHead object h) value d e fits = absurd cc
tileset-covered id name (LayersHead layer h) value d e fits = absurd cc
tileset-covered id name (MapsHead h) value d e fits = absurd cc
