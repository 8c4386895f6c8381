-- The maps that are a map in which those layers are packed that note how they were.
use Rattle.std.specs.Prelude.{◌≡◌, ◌≤◌, ◌⊎◌, ℕ, zero, suc, true, false, Bool, List, length, codes, Ok, Option, Some, None}
use Rattle.deflate.specs.declared.frame.Frame.{Frame}
use Rattle.deflate.specs.Frames.{unpacked}
use Rattle.serde_json.specs.Data.{Data, null, boolean, number, string, array, object, Items, no_items, item, Members, depth}
use Rattle.serde_json.specs.Read.{max_depth}
use Rattle.serde_json.specs.Find.{get_member}
use Rattle.json_members.specs.Members.{without, put_some}
use Rattle.json_trees.specs.Names.{has_name}
use Rattle.tiled_maps.specs.Sources.{tiers}
use Rattle.tiled_maps.specs.Packed.{compression, note_name, frame_at, decoded, renamed, unpacked_layers, packed_cells, most_packed}

-- ---- trees that differ in one kind of place
abbrev pub ItemsRelated : (Data → Data → Type 0) → Items → Items → Type 0
ItemsRelated R no_items no_items = Unit {0}
ItemsRelated R no_items (item e es) = ⊥
ItemsRelated R (item d ds) no_items = ⊥
ItemsRelated R (item d ds) (item e es) = R d e × ItemsRelated R ds es

abbrev pub ArrayRelated : (Data → Data → Type 0) → Data → Data → Type 0
ArrayRelated R null e = e ≡ null
ArrayRelated R (boolean b) e = e ≡ boolean b
ArrayRelated R (number n) e = e ≡ number n
ArrayRelated R (string s) e = e ≡ string s
ArrayRelated R (array ds) e = (es : Items) × (e ≡ array es) × ItemsRelated R ds es
ArrayRelated R (object ms) e = e ≡ object ms

abbrev pub ObjectRelated : (Members → Members → Type 0) → Data → Data → Type 0
ObjectRelated R null e = e ≡ null
ObjectRelated R (boolean b) e = e ≡ boolean b
ObjectRelated R (number n) e = e ≡ number n
ObjectRelated R (string s) e = e ≡ string s
ObjectRelated R (array ds) e = e ≡ array ds
ObjectRelated R (object ms) e = (ns : Members) × (e ≡ object ns) × R ms ns

abbrev pub SomeRelated : (Data → Data → Type 0) → Option Data → Option Data → Type 0
SomeRelated R None None = Unit {0}
SomeRelated R None (Some e) = ⊥
SomeRelated R (Some d) None = ⊥
SomeRelated R (Some d) (Some e) = R d e

-- the members with another value of this name, if there is one
abbrev pub MemberRelated : List ℕ → (Data → Data → Type 0) → Members → Members → Type 0
MemberRelated k R ms ns = (o : Option Data) × SomeRelated R (get_member k ms) o × (ns ≡ put_some k o (without k ms))

-- ---- a layer
-- a text of a stream that unpacks to these bytes
abbrev pub Packs : Frame → List ℕ → List ℕ → Type 0
Packs frame bytes t = (packed : List ℕ) × (decoded t ≡ Some packed) × (unpacked frame packed (length bytes) ≡ Ok bytes)

-- the same of what a text has in base64; one that is no base64 stays
abbrev pub TextPacked : Frame → Option (List ℕ) → List ℕ → List ℕ → Type 0
TextPacked frame None s t = t ≡ s
TextPacked frame (Some bytes) s t = Packs frame bytes t

abbrev pub DataPacked : Frame → Data → Data → Type 0
DataPacked frame null e = e ≡ null
DataPacked frame (boolean b) e = e ≡ boolean b
DataPacked frame (number n) e = e ≡ number n
DataPacked frame (string s) e = (t : List ℕ) × (e ≡ string t) × TextPacked frame (decoded s) s t
DataPacked frame (array ds) e = e ≡ array ds
DataPacked frame (object ms) e = e ≡ object ms

-- a chunk, or a layer but for its chunks
abbrev pub OwnPacked : Frame → Members → Members → Type 0
OwnPacked frame ms ns = MemberRelated (codes "data") (DataPacked frame) ms ns

abbrev pub ChunksPacked : Frame → Members → Members → Type 0
ChunksPacked frame ms ns = MemberRelated (codes "chunks") (ArrayRelated (ObjectRelated (OwnPacked frame))) ms ns

-- a layer that notes how it was packed: its data and those of its chunks are packed by that, and it says so
abbrev pub LayerPacked : Option Frame → Members → Members → Type 0
LayerPacked None ms ns = ns ≡ ms
LayerPacked (Some frame) ms ns =
    (own : Members) × (all : Members) × OwnPacked frame ms own × ChunksPacked frame own all × (ns ≡ renamed note_name compression all)

-- ---- a map
-- a map, a group or a layer, with its own data and those of its layers
unfoldable pub LayersPacked : ℕ → Members → Members → Type 0
LayersPacked zero ms ns = ns ≡ ms
LayersPacked (suc n) ms ns =
    (own : Members) × MemberRelated (codes "layers") (ArrayRelated (ObjectRelated (λ old new. LayersPacked n old new))) ms own
    × LayerPacked (frame_at note_name own) own ns

abbrev pub ItemPacked : ℕ → Data → Data → Type 0
ItemPacked n d e = ObjectRelated (λ old new. LayersPacked n old new) d e

abbrev pub MapPacked : Bool → Data → Data → Type 0
MapPacked false u p = p ≡ u
MapPacked true u p = ItemPacked tiers u p

-- The map u packed is p: each layer that notes how it was packed is packed by that again, and nothing else differs. Or the map p of a
-- source is that, since it unpacks to u.
abbrev pub IsPackedAs : Option Data → Data → Data → Type 0
IsPackedAs s u p = ((s ≡ Some p) × (unpacked_layers p ≡ u)) ⊎ MapPacked (has_name note_name u) u p

-- a source that unpacks to the map u, if its packed layers have no more cells than those of a map that is opened, is what is found
abbrev pub IsFound : Option Data → Data → Option Data → Type 0
IsFound None u found = Unit {0}
IsFound (Some s) u found = depth s ≤ max_depth → packed_cells s ≤ most_packed → unpacked_layers s ≡ u → found ≡ Some s

-- Where a layer of u notes how it was packed, and such a source unpacks to u, p is the source.
abbrev pub IsKept : Option Data → Data → Data → Type 0
IsKept None u p = Unit {0}
IsKept (Some s) u p = has_name note_name u ≡ true → depth s ≤ max_depth → packed_cells s ≤ most_packed → unpacked_layers s ≡ u → p ≡ s
