-- The tree of a well-formed map is one that a file can say.
use Rattle.std.proofs.Common.{◌≡◌, IsUtf8, Bool, true, ℕ, zero, suc, ◌*◌, ◌^◌, ◌<◌, ◌≤◌, ℤ, pos, negsuc, List, [], ◌∷◌, ◌++◌, Option, Some, None, refl, subst}
use Rattle.std.proofs.Common.{arith}
use Rattle.std.specs.Prelude.{codes, IfSome}
use Rattle.std.specs.List.{flat_map}
use Rattle.std.specs.Option.{option_map}
use Rattle.std.proofs.lemmas.Int.{ints}
use Rattle.std.proofs.lemmas.Str.{IsUtf8-from_ascii}
use Rattle.base64.specs.Engines.{standard}
use Rattle.base64.specs.GeneralPurpose.{encode_of}
use Rattle.base64.proofs.EngineFacts.{IsAscii-encode_of}
use Rattle.json.proofs.Printed.Utf8.{are_ascii, IsUtf8-are_ascii}
use Rattle.serde_json.specs.Data.{Data, boolean, number, string, array, object, no_items, Members}
use Rattle.serde_json.specs.Find.{of_integer}
use Rattle.map_model.specs.declared.limits.TheConstants.{MAX_FIRST_ID, MAX_GROUPS, MAX_NEXT_ID, MAX_SIDE, MAX_TILE_SIDE}
use Rattle.map_model.specs.declared.parts.Encoding.{Encoding}
use Rattle.map_model.specs.declared.parts.Encoding.TheVariants.{Array, Base64}
use Rattle.map_model.specs.declared.parts.PropValue.{PropValue}
use Rattle.map_model.specs.declared.parts.PropValue.TheVariants as values
use Rattle.map_model.specs.declared.parts.Property.{Property}
use Rattle.map_model.specs.declared.parts.Object.{Object}
use Rattle.map_model.specs.declared.parts.Body.{Body}
use Rattle.map_model.specs.declared.parts.Body.TheVariants.{Tiles, Objects, Other, Group'}
use Rattle.map_model.specs.declared.parts.Layer.{Layer}
use Rattle.map_model.specs.declared.parts.Tileset.{Tileset}
use Rattle.map_model.specs.declared.parts.MapParts.{MapParts}
use Rattle.map_model.specs.Groups.{all_drawn, drawn, inside, tree}
use Rattle.map_model.specs.Keeping.{inner_tier, layer_tier, map_tier, object_tier, property_tier}
use Rattle.map_model.specs.Lists.{Each}
use Rattle.map_model.specs.Readable.{IsReadable, AreReadableItems, AreReadableMembers}
use Rattle.map_model.specs.WellFormed.{IsId, IsWhole, IsPixels, IsTileValue, IsValue, IsProperty, AreProperties, IsObject, IsBody, IsDrawn, IsLayer, IsTileset}
use Rattle.map_model.specs.WellFormed.{IsWellFormed, ids_of, ids_of_object, object_ids_in, object_ids_of}
use Rattle.map_model.proofs.GroupBodies.{IsLayer-without, object_ids-with}
use Rattle.json_members.specs.Members.{put_some}
use Rattle.map_json.specs.Members.{Own, with_own}
use Rattle.map_values.specs.Arrays.{items_by, whole_tree}
use Rattle.map_json.specs.Trees.{value_tree, property_own, property_tree, properties_member, object_own, object_tree, tileset_own}
use Rattle.map_values.specs.Cells.{bytes_of}
use Rattle.map_json.specs.Trees.{tileset_tree, cells_tree, encoding_member, type_word, body_own, layer_own, layer_tree, layers_tree, plain_own}
use Rattle.map_json.specs.Trees.{lists_own, map_own, tree_of}
use Rattle.map_values.proofs.Lists.{Each-left, Each-right}
use Rattle.map_json.proofs.DrawnLayers.{tree-Each}
use Rattle.map_json.proofs.Orders.{AreReadableMembers-put}

-- ---- own members
-- the names are ASCII, and a file can say each value
abbrev pub AreReadableOwn : Own → Type 0
AreReadableOwn [] = Unit {0}
AreReadableOwn (p ∷ ps) = (are_ascii p.0 ≡ true) × IfSome p.1 IsReadable × AreReadableOwn ps

put_readable : (k : List ℕ) (o : Option Data) (ms : Members) → IsUtf8 k → IfSome o IsReadable → AreReadableMembers ms → AreReadableMembers (put_some k o ms)
put_readable k None ms name h g = g
put_readable k (Some d) ms name h g = AreReadableMembers-put k d ms name h g

pub own_readable : (t : Own) (kept : Members) → AreReadableOwn t → AreReadableMembers kept → AreReadableMembers (with_own t kept)
own_readable [] kept h g = g
own_readable (p ∷ ps) kept h g = put_readable p.0 p.1 (with_own ps kept) (IsUtf8-are_ascii p.0 h.0) h.1 (own_readable ps kept h.2 g)

AreReadableOwn-append : (s t : Own) → AreReadableOwn s → AreReadableOwn t → AreReadableOwn (s ++ t)
AreReadableOwn-append [] t h g = g
AreReadableOwn-append (p ∷ ps) t h g = (h.0, h.1, AreReadableOwn-append ps t h.2 g)

-- ---- numbers, texts and lists
pixels_whole : (z : ℤ) → IsPixels z → IsWhole z
pixels_whole z h = let low = h.low in let high = h.high in record { low = omega (arith, ints); high = omega (arith, ints) }

integer_readable : (z : ℤ) → IsWhole z → IsReadable (number (of_integer z))
integer_readable (pos k) h = let high = h.high in let few : k < 2 ^ 64 = omega (arith, ints) in few
integer_readable (negsuc k) h = (h.low, omega (arith, ints))

pub pixels_readable : (o : Option ℤ) → IfSome o IsPixels → IfSome (option_map (λ z. number (of_integer z)) o) IsReadable
pixels_readable None h = tt
pixels_readable (Some z) h = integer_readable z (pixels_whole z h)

pub text_readable : (o : Option (List ℕ)) → IfSome o IsUtf8 → IfSome (option_map string o) IsReadable
text_readable None h = tt
text_readable (Some s) h = h

pub truth_readable : (o : Option Bool) → IfSome (option_map boolean o) IsReadable
truth_readable None = tt
truth_readable (Some b) = tt

pub number_below : (n most : ℕ) → n ≤ most → most < 2 ^ 64 → n < 2 ^ 64
number_below n most low few = omega arith

value_number : (n : ℕ) → IsTileValue n → IsReadable (whole_tree n)
value_number n h = let small : n < 2 ^ 32 = h in number_below n (2 ^ 32) (omega arith) (omega arith)

pub gid_readable : (o : Option ℕ) → IfSome o IsTileValue → IfSome (option_map whole_tree o) IsReadable
gid_readable None h = tt
gid_readable (Some n) h = value_number n h

module _ {A : Type 0} (P : A → Type 0) (f : A → Data) (readable : (x : A) → P x → IsReadable (f x)) where
  items_readable : (xs : List A) → Each P xs → AreReadableItems (items_by f xs)
  items_readable [] h = tt
  items_readable (x ∷ xs) h = (readable x h.0, items_readable xs h.1)

module _ {A : Type 0} (P Q : A → Type 0) where
  Each-pair : (xs : List A) → Each P xs → Each Q xs → Each (λ x. P x × Q x) xs
  Each-pair [] h g = tt
  Each-pair (x ∷ xs) h g = ((h.0, g.0), Each-pair xs h.1 g.1)

Each-of_flat_map : {A B : Type 0} (P : B → Type 0) (g : A → List B) (xs : List A) → Each P (flat_map g xs) → Each (λ x. Each P (g x)) xs
Each-of_flat_map P g [] h = tt
Each-of_flat_map P g (x ∷ xs) h = (Each-left P (g x) (flat_map g xs) h, Each-of_flat_map P g xs (Each-right P (g x) (flat_map g xs) h))

-- ---- properties
value_readable : (tier : ℕ) (v : PropValue) → IsValue tier v → IsReadable (value_tree v)
value_readable tier (values.Text s) h = h
value_readable tier (values.Whole z) h = integer_readable z h
value_readable tier (values.Truth b) h = tt
value_readable tier (values.Other d) h = h.readable

property_readable : (tier : ℕ) (p : Property) → IsProperty tier p → IsReadable (property_tree p)
unfolding property_tree
property_readable tier p h =
    own_readable (property_own p) p.kept (refl, h.name, (refl, h.kind, (refl, value_readable tier p.value h.value, tt))) h.kept.readable

properties_readable : (tier : ℕ) (ps : List Property) → AreProperties tier ps → IfSome (properties_member ps) IsReadable
properties_readable tier [] h = tt
properties_readable tier (p ∷ ps) h =
    items_readable (IsProperty (property_tier tier)) property_tree (property_readable (property_tier tier)) (p ∷ ps) h.each

-- ---- objects and tilesets
-- an id that fits a number of a file
abbrev IsSmall : ℕ → Type 0
IsSmall n = n < 2 ^ 64

object_readable : (tier : ℕ) (o : Object) → IsObject tier o × Each IsSmall (ids_of_object o) → IsReadable (object_tree o)
unfolding object_tree
object_readable tier o h =
    let p = o.placing in
    let placing = h.0.placing in
    own_readable (object_own o) o.kept (
      refl,
      h.1.0,
      (
        refl,
        pixels_readable p.x placing.x,
        (
          refl,
          pixels_readable p.y placing.y,
          (
            refl,
            pixels_readable p.width placing.width,
            (
              refl,
              pixels_readable p.height placing.height,
              (
                refl,
                text_readable o.name h.0.name,
                (refl, truth_readable o.visible, (refl, gid_readable o.gid h.0.gid, (refl, properties_readable tier o.properties h.0.properties, tt))),
              ),
            ),
          ),
        ),
      ),
    )
    h.0.kept.readable

tileset_readable : (t : Tileset) → IsTileset t → IsReadable (tileset_tree t)
unfolding tileset_tree
tileset_readable t h =
    own_readable (tileset_own t) t.kept (refl, number_below t.first_id MAX_FIRST_ID h.high (omega arith), (refl, text_readable t.source h.source, tt))
    h.kept.readable

-- ---- layers
cells_readable : (e : Encoding) (cells : List ℕ) → Each IsTileValue cells → IsReadable (cells_tree e cells)
cells_readable Array cells h = items_readable IsTileValue whole_tree value_number cells h
cells_readable Base64 cells h = IsUtf8-from_ascii (encode_of standard (bytes_of cells)) (IsAscii-encode_of standard (bytes_of cells))

encoding_readable : (e : Encoding) → IfSome (encoding_member e) IsReadable
encoding_readable Array = tt
encoding_readable Base64 = IsUtf8-are_ascii (codes "base64") refl

type_readable : (b : Body) → IsUtf8 (type_word b)
type_readable (Tiles e cells) = IsUtf8-are_ascii (codes "tilelayer") refl
type_readable (Objects os) = IsUtf8-are_ascii (codes "objectgroup") refl
type_readable Other = IsUtf8-are_ascii (codes "imagelayer") refl
type_readable (Group' s r) = IsUtf8-are_ascii (codes "group") refl

-- a drawn layer of a map of so many cells, whose ids fit numbers of a file
abbrev IsDrawnSmall : ℕ → ℕ × Layer → Type 0
IsDrawnSmall size d = IsDrawn size d × (Each IsSmall (ids_of d) × Each IsSmall (object_ids_of d))

module _ (width height : ℕ) (wide : IsSmall width) (high : IsSmall height) where
  body_readable : (tier size : ℕ) (d : Data) → IsReadable d → (b : Body) → IsBody tier size b → Each IsSmall (object_ids_in b)
      → AreReadableOwn (body_own width height d b)
  body_readable tier size d layers (Tiles e cells) h ids =
      (refl, encoding_readable e, (refl, tt, (refl, wide, (refl, high, (refl, cells_readable e cells h.1, tt)))))
  body_readable tier size d layers (Objects os) h ids = (
    refl,
    items_readable (λ (o : Object). IsObject (object_tier tier) o × Each IsSmall (ids_of_object o)) object_tree (object_readable (object_tier tier)) os
        (Each-pair (IsObject (object_tier tier)) (λ (o : Object). Each IsSmall (ids_of_object o)) os h.1 (Each-of_flat_map IsSmall ids_of_object os ids)),
    tt,
  )
  body_readable tier size d layers Other h ids = tt
  body_readable tier size d layers (Group' s r) h ids = (refl, layers, tt)

  -- a layer, with this for the layers of a group
  one_readable : (tier size : ℕ) (d : Data) → IsReadable d → (l : Layer) → IsLayer tier size l → IsSmall l.id → Each IsSmall (object_ids_in l.body)
      → IsReadable (object (with_own (layer_own width height d l) l.kept))
  one_readable tier size d layers l h id ids =
      own_readable (layer_own width height d l) l.kept (
        refl,
        type_readable l.body,
        (
          refl,
          id,
          (
            refl,
            h.name,
            (
              refl,
              tt,
              (refl, properties_readable tier l.properties h.properties, body_readable tier size d layers l.body h.body ids),
            ),
          ),
        ),
      )
      h.kept.readable

  -- the first of those that are drawn for a layer is its own
  own_layer : (groups tier size : ℕ) (l : Layer) → Each (IsDrawnSmall size) (tree groups tier l)
      → IsLayer tier size l × IsSmall l.id × Each IsSmall (object_ids_in l.body)
  own_layer groups tier size l h =
      let own = (tree-Each (IsDrawnSmall size) groups tier l h).0 in
      (IsLayer-without (λ ls. []) tier size l own.0, own.1.0.0, subst (Each IsSmall) (object_ids-with (λ ls. []) l.body) own.1.1)

  module _ (groups tier size : ℕ) (one : (l : Layer) → Each (IsDrawnSmall size) (tree groups tier l) → IsReadable (layer_tree groups width height l)) where
    each_readable : (ls : List Layer) → Each (IsDrawnSmall size) (drawn groups tier ls) → AreReadableItems (items_by (layer_tree groups width height) ls)
    each_readable [] h = tt
    each_readable (l ∷ ls) h = (
      one l (Each-left (IsDrawnSmall size) (tree groups tier l) (drawn groups tier ls) h),
      each_readable ls (Each-right (IsDrawnSmall size) (tree groups tier l) (drawn groups tier ls) h),
    )

  layer_readable : (groups tier size : ℕ) (l : Layer) → Each (IsDrawnSmall size) (tree groups tier l) → IsReadable (layer_tree groups width height l)
  unfolding layer_tree
  layer_readable zero tier size l h =
      let own = own_layer 0 tier size l h in
      one_readable tier size (array no_items) tt l own.0 own.1 own.2
  layer_readable (suc groups) tier size l h =
      let own = own_layer (suc groups) tier size l h in
      let below = (tree-Each (IsDrawnSmall size) (suc groups) tier l h).1 in
      one_readable tier size (layers_tree groups width height (inside l))
      (each_readable groups (inner_tier tier) size (layer_readable groups (inner_tier tier) size) (inside l) below) l own.0 own.1 own.2

-- ---- maps
small_ids : (next : ℕ) (ids : List ℕ) → next ≤ MAX_NEXT_ID → Each (IsId next) ids → Each IsSmall ids
small_ids next [] few h = tt
small_ids next (id ∷ ids) few h = let high = h.0.high in (number_below id MAX_NEXT_ID (omega arith) (omega arith), small_ids next ids few h.1)

drawn_small : (m : MapParts) → IsWellFormed m → Each (IsDrawnSmall (m.width * m.height)) (all_drawn m.layers)
drawn_small m h =
    let ds = all_drawn m.layers in
    let ids = small_ids m.next_layer_id (flat_map ids_of ds) h.layers.layer_ids.next_high h.layers.layer_ids.each in
    let object_ids = small_ids m.next_object_id (flat_map object_ids_of ds) h.layers.object_ids.next_high h.layers.object_ids.each in
    Each-pair (IsDrawn (m.width * m.height)) (λ (d : ℕ × Layer). Each IsSmall (ids_of d) × Each IsSmall (object_ids_of d)) ds h.layers.each
    (Each-pair (λ (d : ℕ × Layer). Each IsSmall (ids_of d)) (λ (d : ℕ × Layer). Each IsSmall (object_ids_of d)) ds (Each-of_flat_map IsSmall ids_of ds ids)
    (Each-of_flat_map IsSmall object_ids_of ds object_ids))

plain_readable : (m : MapParts) → IsWellFormed m → AreReadableOwn (plain_own m)
plain_readable m h =
    let width = number_below m.width MAX_SIDE h.size.width_limit (omega arith) in
    let height = number_below m.height MAX_SIDE h.size.height_limit (omega arith) in
    let tile_width = number_below m.tile_width MAX_TILE_SIDE h.tile_size.width_limit (omega arith) in
    let tile_height = number_below m.tile_height MAX_TILE_SIDE h.tile_size.height_limit (omega arith) in
    let next_layer = number_below m.next_layer_id MAX_NEXT_ID h.layers.layer_ids.next_high (omega arith) in
    let next_object = number_below m.next_object_id MAX_NEXT_ID h.layers.object_ids.next_high (omega arith) in
    (refl, width, (refl, height, (refl, tile_width, (refl, tile_height, (refl, tt, (refl, next_layer, (refl, next_object, tt)))))))

lists_readable : (d : Data) (m : MapParts) → IsReadable d → IsWellFormed m → AreReadableOwn (lists_own d m)
lists_readable d m layers h = (
  refl,
  layers,
  (
    refl,
    items_readable IsTileset tileset_tree tileset_readable m.tilesets h.tilesets.each,
    (
      refl,
      properties_readable map_tier m.properties h.properties,
      (refl, IsUtf8-are_ascii (codes "map") refl, (refl, IsUtf8-are_ascii (codes "1.10") refl, tt)),
    ),
  ),
)

pub tree_readable : (m : MapParts) → IsWellFormed m → IsReadable (tree_of m)
unfolding tree_of
tree_readable m h =
    let wide = number_below m.width MAX_SIDE h.size.width_limit (omega arith) in
    let high = number_below m.height MAX_SIDE h.size.height_limit (omega arith) in
    let size = m.width * m.height in
    let one = layer_readable m.width m.height wide high MAX_GROUPS layer_tier size in
    let layers = each_readable m.width m.height wide high MAX_GROUPS layer_tier size one m.layers (drawn_small m h) in
    own_readable (map_own m) m.kept
    (AreReadableOwn-append (plain_own m) (lists_own (layers_tree MAX_GROUPS m.width m.height m.layers) m) (plain_readable m h)
    (lists_readable (layers_tree MAX_GROUPS m.width m.height m.layers) m layers h)) h.kept.readable
