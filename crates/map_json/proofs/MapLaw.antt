-- What is written is read again: maps.
use Rattle.std.proofs.Common.{◌≡◌, ℕ, ◌*◌, true, false, List, [], ◌∷◌, map, Some, Ordering, Less, Equal, Greater, nat_cmp, Ok, refl, ◌∙◌}
use Rattle.std.specs.Prelude.{codes, nat_le}
use Rattle.std.specs.List.{list_all, flat_map}
use Rattle.std.specs.Cmp.Lexicographic.{slice_cmp}
use Rattle.std.specs.Ordering.{match_ordering}
use Rattle.std.proofs.lemmas.Bool.{le-leb, or_parts, and_from}
use Rattle.std.proofs.lemmas.List.Folds.{list_all-append}
use Rattle.serde_json.specs.Data.{Data, boolean, string, object, Members, no_members, member}
use Rattle.serde_json.specs.Find.{get_member}
use Rattle.serde_json.specs.Written.{has_float, members_have_float}
use Rattle.map_model.specs.declared.names.TheConstants.{TYPE, PROPERTIES, WIDTH, HEIGHT, TILE_WIDTH, TILE_HEIGHT, INFINITE, NEXT_LAYER_ID, NEXT_OBJECT_ID}
use Rattle.map_model.specs.declared.names.TheConstants.{LAYERS, TILESETS, VERSION}
use Rattle.map_model.specs.declared.limits.TheConstants.{MAX_SIDE, MAX_CELLS, MAX_TILE_SIDE, MAX_GROUPS, MAX_TILESETS, MAX_NEXT_ID, MAX_PROPERTIES}
use Rattle.map_model.specs.declared.parts.Property.{Property}
use Rattle.map_model.specs.declared.parts.Object.{Object}
use Rattle.map_model.specs.declared.parts.Body.{Body}
use Rattle.map_model.specs.declared.parts.Body.TheVariants.{Objects}
use Rattle.map_model.specs.declared.parts.Layer.{Layer}
use Rattle.map_model.specs.declared.parts.MapParts.{MapParts}
use Rattle.map_model.specs.Groups.{all_drawn}
use Rattle.map_model.specs.Lists.{Each}
use Rattle.map_model.specs.Keeping.{map_tier, object_tier}
use Rattle.map_model.specs.Format.{map_names}
use Rattle.map_model.specs.WellFormed.{IsObject, IsBody, IsDrawn, IsTileset, AreProperties, IsWellFormed, names_of_property, layer_ids, object_ids}
use Rattle.map_model.specs.WellFormed.{first_ids_of}
use Rattle.json_members.specs.Members.{without, without_all}
use Rattle.map_json.specs.Members.{with_own}
use Rattle.map_values.specs.Presence.{absent_means}
use Rattle.map_values.specs.Scalars.{whole_at, truth_at}
use Rattle.map_json.specs.Elements.{elements_at}
use Rattle.map_json.specs.Reading.{property_at, tileset_at, map_layers_at}
use Rattle.map_json.specs.Distinctness.{lists_in, lists_of_drawn, property_lists, are_named_apart}
use Rattle.map_json.specs.Maps.{parts_of, consistent, map_of}
use Rattle.map_values.specs.Arrays.{array_by, whole_tree}
use Rattle.map_json.specs.Trees.{properties_member, tileset_tree, layers_tree, map_own, tree_of}
use Rattle.map_json.proofs.Own.{get_member-with_own, without_all-with_own}
use Rattle.map_json.proofs.Again.{whole_again, elements_again}
use Rattle.map_json.proofs.Apart.{numbers-Distinct, texts-Distinct, below-IsId}
use Rattle.map_json.proofs.Plain.{tree_plain}
use Rattle.map_json.proofs.Law.{or_none, properties_again, tileset_again}
use Rattle.map_json.proofs.LayerLaw.{map_layers_again}
use Rattle.map_model.proofs.TilesetChanges.{Each-along}

named_apart : (tier : ℕ) (ps : List Property) → AreProperties tier ps → are_named_apart ps ≡ true
named_apart tier ps h = texts-Distinct (flat_map names_of_property ps) h.distinct

objects_apart : (tier : ℕ) (os : List Object) → Each (IsObject tier) os → list_all are_named_apart (map (λ (o : Object). o.properties) os) ≡ true
objects_apart tier [] h = refl
objects_apart tier (o ∷ os) h = and_from (are_named_apart o.properties) _ (named_apart tier o.properties h.0.properties) (objects_apart tier os h.1)

body_apart : (tier size : ℕ) (b : Body) → IsBody tier size b → list_all are_named_apart (lists_in b) ≡ true
body_apart tier size (Objects os) h = objects_apart (object_tier tier) os h.1
body_apart tier size b h = refl

layers_apart : (size : ℕ) (ds : List (ℕ × Layer)) → Each (IsDrawn size) ds → list_all are_named_apart (flat_map lists_of_drawn ds) ≡ true
layers_apart size [] h = refl
layers_apart size (d ∷ ds) h =
    list_all-append are_named_apart (lists_of_drawn d) (flat_map lists_of_drawn ds)
    ∙ and_from (list_all are_named_apart (lists_of_drawn d)) (list_all are_named_apart (flat_map lists_of_drawn ds))
    (and_from (are_named_apart d.1.properties) (list_all are_named_apart (lists_in d.1.body)) (named_apart d.0 d.1.properties h.0.properties)
    (body_apart d.0 size d.1.body h.0.body))
    (layers_apart size ds h.1)

consistent_again : (m : MapParts) → IsWellFormed m → consistent m ≡ Ok m
unfolding consistent
consistent_again m h =
    let names : list_all are_named_apart (property_lists m) ≡ true =
    and_from (are_named_apart m.properties) (list_all are_named_apart (flat_map lists_of_drawn (all_drawn m.layers)))
    (named_apart map_tier m.properties h.properties) (layers_apart (m.width * m.height) (all_drawn m.layers) h.layers.each) in
    rw (
      numbers-Distinct (layer_ids m.layers) h.layers.layer_ids.distinct,
      numbers-Distinct (object_ids m.layers) h.layers.object_ids.distinct,
      numbers-Distinct (flat_map first_ids_of m.tilesets) h.tilesets.distinct,
      names,
      below-IsId m.next_layer_id (layer_ids m.layers) h.layers.layer_ids.each,
      below-IsId m.next_object_id (object_ids m.layers) h.layers.object_ids.each,
    ) refl

-- ---- maps
parts_read : (m : MapParts) (ms : Members) → get_member WIDTH.now ms ≡ Some (whole_tree m.width) → get_member HEIGHT.now ms ≡ Some (whole_tree m.height)
    → get_member TILE_WIDTH.now ms ≡ Some (whole_tree m.tile_width) → get_member TILE_HEIGHT.now ms ≡ Some (whole_tree m.tile_height)
    → get_member INFINITE.now ms ≡ Some (boolean false)
    → get_member NEXT_LAYER_ID.now ms ≡ Some (whole_tree m.next_layer_id) → get_member NEXT_OBJECT_ID.now ms ≡ Some (whole_tree m.next_object_id)
    → get_member LAYERS.now ms ≡ Some (layers_tree MAX_GROUPS m.width m.height m.layers) → get_member TILESETS.now ms ≡ Some (array_by tileset_tree m.tilesets)
    → get_member PROPERTIES.now ms ≡ properties_member m.properties
    → whole_at 1 MAX_SIDE (whole_tree m.width) ≡ Ok m.width → whole_at 1 MAX_SIDE (whole_tree m.height) ≡ Ok m.height
    → nat_le (m.width * m.height) MAX_CELLS ≡ true
    → whole_at 1 MAX_TILE_SIDE (whole_tree m.tile_width) ≡ Ok m.tile_width → whole_at 1 MAX_TILE_SIDE (whole_tree m.tile_height) ≡ Ok m.tile_height
    → whole_at 1 MAX_NEXT_ID (whole_tree m.next_layer_id) ≡ Ok m.next_layer_id → whole_at 1 MAX_NEXT_ID (whole_tree m.next_object_id) ≡ Ok m.next_object_id
    → map_layers_at m.width m.height (layers_tree MAX_GROUPS m.width m.height m.layers) ≡ Ok m.layers
    → elements_at MAX_TILESETS tileset_at (array_by tileset_tree m.tilesets) ≡ Ok m.tilesets
    → absent_means [] (elements_at MAX_PROPERTIES property_at) (properties_member m.properties) ≡ Ok m.properties → without_all map_names ms ≡ m.kept
    → parts_of ms ≡ Ok m
unfolding parts_of truth_at
parts_read m ms width height tile_width tile_height infinite next_layer next_object layers tilesets properties width_ok height_ok cells_ok tile_width_ok
    tile_height_ok next_layer_ok next_object_ok layers_ok tilesets_ok properties_ok kept =
    rw (
      width,
      width_ok,
      height,
      height_ok,
      cells_ok,
      tile_width,
      tile_width_ok,
      tile_height,
      tile_height_ok,
      infinite,
      next_layer,
      next_layer_ok,
      next_object,
      next_object_ok,
      layers,
      layers_ok,
      tilesets,
      tilesets_ok,
      properties,
      properties_ok,
      kept,
    ) refl

parts_again : (m : MapParts) → IsWellFormed m → parts_of (with_own (map_own m) m.kept) ≡ Ok m
parts_again m h =
    let own = map_own m in
    let kept = m.kept in
    let lacks = h.kept.unread in
    let layer = h.layers.layer_ids in
    let object = h.layers.object_ids in
    parts_read m (with_own own kept) (get_member-with_own WIDTH.now own kept) (get_member-with_own HEIGHT.now own kept)
    (get_member-with_own TILE_WIDTH.now own kept)
    (get_member-with_own TILE_HEIGHT.now own kept) (get_member-with_own INFINITE.now own kept) (get_member-with_own NEXT_LAYER_ID.now own kept)
    (get_member-with_own NEXT_OBJECT_ID.now own kept) (get_member-with_own LAYERS.now own kept) (get_member-with_own TILESETS.now own kept)
    (get_member-with_own PROPERTIES.now own kept ∙ or_none (properties_member m.properties) (get_member PROPERTIES.now kept) lacks.1.1.1.1.1.1.1.1.1.0)
    (whole_again 1 MAX_SIDE m.width h.size.wide h.size.width_limit) (whole_again 1 MAX_SIDE m.height h.size.high h.size.height_limit)
    (le-leb (m.width * m.height) MAX_CELLS h.size.cells_limit)
    (whole_again 1 MAX_TILE_SIDE m.tile_width h.tile_size.wide h.tile_size.width_limit)
    (whole_again 1 MAX_TILE_SIDE m.tile_height h.tile_size.high h.tile_size.height_limit)
    (whole_again 1 MAX_NEXT_ID m.next_layer_id layer.next_low layer.next_high) (whole_again 1 MAX_NEXT_ID m.next_object_id object.next_low object.next_high)
    (map_layers_again m.next_layer_id m.next_object_id m.width m.height layer.next_high object.next_high m.layers h.layers.few h.layers.each layer.each
    object.each)
    (elements_again tileset_tree tileset_at MAX_TILESETS m.tilesets h.tilesets.few
    (Each-along IsTileset (λ t. tileset_at (tileset_tree t) ≡ Ok t) tileset_again m.tilesets h.tilesets.each))
    (properties_again map_tier m.properties h.properties) (without_all-with_own own kept refl lacks)

-- ---- fractions
whole_without_at : (o : Ordering) (l : List ℕ) (d : Data) (rest : Members) → has_float d ≡ false → members_have_float rest ≡ false
    → members_have_float (match_ordering o (member l d rest) rest (member l d rest)) ≡ false
whole_without_at Less l d rest e f = rw e f
whole_without_at Equal l d rest e f = f
whole_without_at Greater l d rest e f = rw e f

members_have_float-without : (k : List ℕ) (ms : Members) → members_have_float ms ≡ false → members_have_float (without k ms) ≡ false
members_have_float-without k no_members e = refl
members_have_float-without k (member l d ms) e =
    let f = or_parts (has_float d) (members_have_float ms) e in
    whole_without_at (slice_cmp nat_cmp k l) l d (without k ms) f.0 (members_have_float-without k ms f.1)

map_read : (m : MapParts) (ms : Members) → members_have_float (without VERSION.now ms) ≡ false → get_member VERSION.now ms ≡ Some (string (codes "1.10"))
    → get_member TYPE.now ms ≡ Some (string (codes "map"))
    → parts_of ms ≡ Ok m → consistent m ≡ Ok m → map_of (object ms) ≡ Ok m
unfolding map_of
map_read m ms whole version type parts fits = rw (whole, version, type, parts) fits

-- the tree of a well-formed map reads as that map
pub map_again : (m : MapParts) → IsWellFormed m → map_of (tree_of m) ≡ Ok m
unfolding tree_of
map_again m h =
    let own = map_own m in
    let ms = with_own own m.kept in
    map_read m ms (members_have_float-without VERSION.now ms (tree_plain m h).0) (get_member-with_own VERSION.now own m.kept)
    (get_member-with_own TYPE.now own m.kept) (parts_again m h) (consistent_again m h)
