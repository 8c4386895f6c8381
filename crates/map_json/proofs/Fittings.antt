-- A map that was read, with the tests passed that take all of it, is well formed.
use Rattle.std.proofs.Common.{◌≡◌, ℕ, ◌*◌, ◌≤◌, List, [], ◌∷◌, map, length, true, false, not, ◌&&◌, Ordering, Less, Equal, Greater, nat_cmp, Some, Ok}
use Rattle.std.proofs.Common.{refl, sym, ap, ◌∙◌, subst, arith}
use Rattle.std.specs.Prelude.{◌==◌, nat_le, nat_lt}
use Rattle.std.specs.List.{list_all, flat_map}
use Rattle.std.specs.Cmp.Lexicographic.{slice_cmp}
use Rattle.std.specs.Ordering.{match_ordering}
use Rattle.std.proofs.lemmas.Bool.{leb-true, or_parts, and_parts, not-true}
use Rattle.std.proofs.lemmas.List.Folds.{list_all-append}
use Rattle.std.specs.Option.{ok_or}
use Rattle.serde_json.specs.Data.{Data, null, boolean, number, string, array, object, Members, no_members, member, depth}
use Rattle.serde_json.specs.Find.{get_member, as_object}
use Rattle.serde_json.specs.Written.{members_have_float}
use Rattle.map_model.specs.declared.names.TheConstants.{TYPE, PROPERTIES, WIDTH, HEIGHT, TILE_WIDTH, TILE_HEIGHT, INFINITE, NEXT_LAYER_ID, NEXT_OBJECT_ID}
use Rattle.map_model.specs.declared.names.TheConstants.{LAYERS, TILESETS, VERSION}
use Rattle.map_model.specs.declared.limits.TheConstants.{MAX_SIDE, MAX_CELLS, MAX_TILE_SIDE, MAX_LAYERS, MAX_TILESETS, MAX_NEXT_ID, MAX_PROPERTIES}
use Rattle.map_model.specs.declared.parts.Property.{Property}
use Rattle.map_model.specs.declared.parts.Object.{Object}
use Rattle.map_model.specs.declared.parts.Body.{Body}
use Rattle.map_model.specs.declared.parts.Body.TheVariants.{Objects}
use Rattle.map_model.specs.declared.parts.Layer.{Layer}
use Rattle.map_model.specs.declared.parts.MapParts.{MapParts}
use Rattle.map_model.specs.Groups.{all_drawn}
use Rattle.map_model.specs.Lists.{Each}
use Rattle.map_model.specs.Keeping.{AreKept, map_tier, object_tier}
use Rattle.map_model.specs.Format.{map_names}
use Rattle.map_model.specs.WellFormed.{IsSize, IsTileSize, IsTileset, AreProperties, IsObject, IsBody, IsDrawn, IsLayer, IsWellFormed, names_of_property}
use Rattle.map_model.specs.WellFormed.{ids_of, layer_ids, ids_of_object, object_ids_in, object_ids_of, object_ids, first_ids_of}
use Rattle.json_members.specs.Members.{without, without_all}
use Rattle.refusals.specs.declared.map_refusal.MapRefusal.TheVariants.{Fraction, Infinite, IdUsedTwice, OverLimit, NotAMap}
use Rattle.map_values.specs.Presence.{required, absent_means}
use Rattle.map_values.specs.Scalars.{whole_at, truth_at}
use Rattle.map_json.specs.Elements.{elements_at}
use Rattle.map_json.specs.Reading.{property_at, properties_of, tileset_at, map_layers_at}
use Rattle.map_json.specs.Distinctness.{are_distinct, lists_in, lists_of_drawn, lists_of_layer, property_lists, are_named_apart, ids_are_unique, are_below_next}
use Rattle.map_json.specs.Maps.{version_has_fraction, has_fraction, is_map_type, parts_of, consistent, map_of}
use Rattle.map_model.specs.Readable.{IsReadable}
use Rattle.map_json.proofs.Fine.{AreFineMembers}
use Rattle.map_json.proofs.FineLemmas.{IsFine-get_member, members_have_float-fine, members_depth-fine, AreFineMembers-read, AreFineMembers-without}
use Rattle.map_json.proofs.FineLemmas.{AreReadableMembers-fine, AreReadableMembers-without, members_depth-without}
use Rattle.json_members.proofs.MembersLemmas.{get_member-without, without-absent}
use Rattle.map_json.proofs.Lacking.{LacksAll-without_all}
use Rattle.map_json.proofs.Sound.{by_bind, by_check, ok_is, ok_or_ok, required_ok, required_whole_sound, elements_sound, WereRead, properties_sound}
use Rattle.map_json.proofs.Owners.{WasReadObject, tileset_sound}
use Rattle.map_json.proofs.Layers.{WasReadBody, WasReadDrawn, WasReadLayer, map_layers_sound}
use Rattle.map_json.proofs.Apart.{Distinct-numbers, Distinct-texts, Each-flat_map, AreIds-read}

-- ---- names that differ within each owner
AreProperties-read : (tier : ℕ) (ps : List Property) → WereRead tier ps → are_named_apart ps ≡ true → AreProperties tier ps
AreProperties-read tier ps h e = record { few = h.few; each = h.each; distinct = Distinct-texts (flat_map names_of_property ps) e }

pub IsObject-read : (tier : ℕ) (o : Object) → WasReadObject tier o → are_named_apart o.properties ≡ true → IsObject tier o
IsObject-read tier o h e = record {
  placing = h.placing;
  name = h.name;
  gid = h.gid;
  properties = AreProperties-read tier o.properties h.properties e;
  kept = h.kept;
}

Each-IsObject : (tier : ℕ) (os : List Object) → Each (WasReadObject tier) os → list_all are_named_apart (map (λ (o : Object). o.properties) os) ≡ true
    → Each (IsObject tier) os
Each-IsObject tier [] h e = tt
Each-IsObject tier (o ∷ os) h e =
    let f = and_parts (are_named_apart o.properties) (list_all are_named_apart (map (λ (p : Object). p.properties) os)) e in
    (IsObject-read tier o h.0 f.0, Each-IsObject tier os h.1 f.1)

IsBody-read : (tier size : ℕ) (b : Body) → WasReadBody tier size b → list_all are_named_apart (lists_in b) ≡ true → IsBody tier size b
IsBody-read tier size (Objects os) h f = (h.0, Each-IsObject (object_tier tier) os h.1 f)
IsBody-read tier size b h f = h

IsLayer-read : (tier size : ℕ) (l : Layer) → WasReadLayer tier size l → list_all are_named_apart (lists_of_layer l) ≡ true → IsLayer tier size l
IsLayer-read tier size l h e =
    let f = and_parts (are_named_apart l.properties) (list_all are_named_apart (lists_in l.body)) e in
    record {
      name = h.name;
      properties = AreProperties-read tier l.properties h.properties f.0;
      kept = h.kept;
      body = IsBody-read tier size l.body h.body f.1;
    }

pub Each-IsDrawn : (size : ℕ) (ds : List (ℕ × Layer)) → Each (WasReadDrawn size) ds → list_all are_named_apart (flat_map lists_of_drawn ds) ≡ true
    → Each (IsDrawn size) ds
Each-IsDrawn size [] h e = tt
Each-IsDrawn size (d ∷ ds) h e =
    let f = and_parts (list_all are_named_apart (lists_of_drawn d)) (list_all are_named_apart (flat_map lists_of_drawn ds))
    (sym (list_all-append are_named_apart (lists_of_drawn d) (flat_map lists_of_drawn ds)) ∙ e) in
    (IsLayer-read d.0 size d.1 h.0 f.0, Each-IsDrawn size ds h.1 f.1)

-- ---- ids from 1 on
low_in : (tier size : ℕ) (b : Body) → WasReadBody tier size b → Each (λ id. 1 ≤ id) (object_ids_in b)
low_in tier size (Objects os) h = Each-flat_map (λ id. 1 ≤ id) (WasReadObject (object_tier tier)) ids_of_object (λ o g. (g.low, tt)) os h.1
low_in tier size b h = tt

-- ---- the members but the version
-- a member left out before others, or behind them
left_out_first : (o : Ordering) (v l : List ℕ) (d : Data) (rest : Members) → without v (match_ordering o (member l d rest) rest (member l d rest))
    ≡ match_ordering o (without v (member l d rest)) (without v rest) (without v (member l d rest))
left_out_first Less v l d rest = refl
left_out_first Equal v l d rest = refl
left_out_first Greater v l d rest = refl

either_first : (o p : Ordering) (l : List ℕ) (d : Data) (rest : Members)
    → match_ordering o (match_ordering p (member l d rest) rest (member l d rest)) rest (match_ordering p (member l d rest) rest (member l d rest))
    ≡ match_ordering p (match_ordering o (member l d rest) rest (member l d rest)) rest (match_ordering o (member l d rest) rest (member l d rest))
either_first Less Less l d rest = refl
either_first Less Equal l d rest = refl
either_first Less Greater l d rest = refl
either_first Equal Less l d rest = refl
either_first Equal Equal l d rest = refl
either_first Equal Greater l d rest = refl
either_first Greater Less l d rest = refl
either_first Greater Equal l d rest = refl
either_first Greater Greater l d rest = refl

-- two names are left out in either order
without-without : (v k : List ℕ) (ms : Members) → without v (without k ms) ≡ without k (without v ms)
without-without v k no_members = refl
without-without v k (member l d ms) =
    let p = slice_cmp nat_cmp k l in
    let o = slice_cmp nat_cmp v l in
    let new = λ (x : Members). match_ordering o (member l d x) x (member l d x) in
    let middle = ap (λ (x : Members). match_ordering p (new x) x (new x)) (without-without v k ms) ∙ either_first p o l d (without k (without v ms)) in
    left_out_first p v l d (without k ms) ∙ middle ∙ sym (left_out_first o k l d (without v ms))

fine_without : (n : ℕ) (v k : List ℕ) (ms : Members) → AreFineMembers n (without v ms) → AreFineMembers n (without v (without k ms))
fine_without n v k ms h = subst (λ (x : Members). AreFineMembers n x) (sym (without-without v k ms)) (AreFineMembers-without n k (without v ms) h)

fine_without_all : (n : ℕ) (v : List ℕ) (ks : List (List ℕ)) (ms : Members) → AreFineMembers n (without v ms) → AreFineMembers n (without v (without_all ks ms))
fine_without_all n v [] ms h = h
fine_without_all n v (k ∷ ks) ms h = fine_without_all n v ks (without k ms) (fine_without n v k ms h)

kept_of_map : (ms : Members) → AreFineMembers 126 (without VERSION.now ms) → AreKept map_tier map_names (without_all map_names ms)
kept_of_map ms h =
    let lacks = LacksAll-without_all map_names ms in
    let fine = subst (λ (x : Members). AreFineMembers 126 x) (without-absent VERSION.now (without_all map_names ms) lacks.1.1.1.1.1.1.1.1.1.1.1.0)
    (fine_without_all 126 VERSION.now map_names ms h) in
    let deep = members_depth-fine 126 (without_all map_names ms) fine in
    record {
      unread = lacks;
      whole = members_have_float-fine 126 (without_all map_names ms) fine;
      shallow = omega arith;
      readable = AreReadableMembers-fine 126 (without_all map_names ms) fine;
    }

-- ---- maps
-- a map that was read, but for what must differ over all of it
record WasReadMap (m : MapParts) : Type 0 where
  size : IsSize m.width m.height
  tile_size : IsTileSize m.tile_width m.tile_height
  next_layer_low : 1 ≤ m.next_layer_id
  next_layer_high : m.next_layer_id ≤ MAX_NEXT_ID
  next_object_low : 1 ≤ m.next_object_id
  next_object_high : m.next_object_id ≤ MAX_NEXT_ID
  layers_few : length (all_drawn m.layers) ≤ MAX_LAYERS
  layers : Each (WasReadDrawn (m.width * m.height)) (all_drawn m.layers)
  tilesets_few : length m.tilesets ≤ MAX_TILESETS
  tilesets : Each IsTileset m.tilesets
  properties : WereRead map_tier m.properties
  kept : AreKept map_tier map_names m.kept

parts_sound : (ms : Members) (m : MapParts) → AreFineMembers 126 (without VERSION.now ms) → parts_of ms ≡ Ok m → WasReadMap m
unfolding parts_of
parts_sound ms m fine e =
    let others = without VERSION.now ms in
    by_bind (required (whole_at 1 MAX_SIDE) (get_member WIDTH.now ms)) _ m e (λ width width_is e1.
    by_bind (required (whole_at 1 MAX_SIDE) (get_member HEIGHT.now ms)) _ m e1 (λ height height_is e2.
    by_check (nat_le (width * height) MAX_CELLS) OverLimit _ m e2 (λ cells_fit e3.
    by_bind (required (whole_at 1 MAX_TILE_SIDE) (get_member TILE_WIDTH.now ms)) _ m e3 (λ tile_width tile_width_is e4.
    by_bind (required (whole_at 1 MAX_TILE_SIDE) (get_member TILE_HEIGHT.now ms)) _ m e4 (λ tile_height tile_height_is e5.
    by_bind (absent_means false truth_at (get_member INFINITE.now ms)) _ m e5 (λ infinite infinite_is e6.
    by_check (not infinite) Infinite _ m e6 (λ finite e7.
    by_bind (required (whole_at 1 MAX_NEXT_ID) (get_member NEXT_LAYER_ID.now ms)) _ m e7 (λ next_layer_id next_layer_is e8.
    by_bind (required (whole_at 1 MAX_NEXT_ID) (get_member NEXT_OBJECT_ID.now ms)) _ m e8 (λ next_object_id next_object_is e9.
    by_bind (required (map_layers_at width height) (get_member LAYERS.now ms)) _ m e9 (λ layers layers_is e10.
    by_bind (required (elements_at MAX_TILESETS tileset_at) (get_member TILESETS.now ms)) _ m e10 (λ tilesets tilesets_is e11.
    by_bind (properties_of ms) _ m e11 (λ properties properties_is e12.
    let w = required_whole_sound 1 MAX_SIDE (get_member WIDTH.now ms) width width_is in
    let h = required_whole_sound 1 MAX_SIDE (get_member HEIGHT.now ms) height height_is in
    let tw = required_whole_sound 1 MAX_TILE_SIDE (get_member TILE_WIDTH.now ms) tile_width tile_width_is in
    let th = required_whole_sound 1 MAX_TILE_SIDE (get_member TILE_HEIGHT.now ms) tile_height tile_height_is in
    let next_layer = required_whole_sound 1 MAX_NEXT_ID (get_member NEXT_LAYER_ID.now ms) next_layer_id next_layer_is in
    let next_object = required_whole_sound 1 MAX_NEXT_ID (get_member NEXT_OBJECT_ID.now ms) next_object_id next_object_is in
    let layers_in = required_ok (map_layers_at width height) (get_member LAYERS.now ms) layers layers_is in
    let layers_fine = IsFine-get_member 126 LAYERS.now others layers_in.0 fine (get_member-without LAYERS.now VERSION.now ms refl ∙ layers_in.1) in
    let layers_read = map_layers_sound width height layers_in.0 layers layers_fine layers_in.2 in
    let tilesets_in = required_ok (elements_at MAX_TILESETS tileset_at) (get_member TILESETS.now ms) tilesets tilesets_is in
    let tilesets_fine = IsFine-get_member 126 TILESETS.now others tilesets_in.0 fine (get_member-without TILESETS.now VERSION.now ms refl ∙ tilesets_in.1) in
    let tilesets_read = elements_sound IsTileset tileset_at 125
    (tileset_sound 124 (omega arith)) MAX_TILESETS tilesets_in.0 tilesets tilesets_fine tilesets_in.2 in
    let properties_in : properties_of others ≡ Ok properties =
    ap (absent_means [] (elements_at MAX_PROPERTIES property_at)) (get_member-without PROPERTIES.now VERSION.now ms refl) ∙ properties_is in
    let kept = without_all map_names ms in
    let made : WasReadMap (record {
      width = width;
      height = height;
      tile_width = tile_width;
      tile_height = tile_height;
      layers = layers;
      tilesets = tilesets;
      properties = properties;
      next_layer_id = next_layer_id;
      next_object_id = next_object_id;
      kept = kept;
    }) = record {
      size = record { wide = w.0; high = h.0; width_limit = w.1; height_limit = h.1; cells_limit = leb-true (width * height) MAX_CELLS cells_fit };
      tile_size = record { wide = tw.0; high = th.0; width_limit = tw.1; height_limit = th.1 };
      next_layer_low = next_layer.0;
      next_layer_high = next_layer.1;
      next_object_low = next_object.0;
      next_object_high = next_object.1;
      layers_few = layers_read.0;
      layers = layers_read.1;
      tilesets_few = tilesets_read.0;
      tilesets = tilesets_read.1;
      properties = properties_sound map_tier 124 (omega arith) others properties fine properties_in;
      kept = kept_of_map ms fine;
    } in
    subst WasReadMap (ok_is (record {
      width = width;
      height = height;
      tile_width = tile_width;
      tile_height = tile_height;
      layers = layers;
      tilesets = tilesets;
      properties = properties;
      next_layer_id = next_layer_id;
      next_object_id = next_object_id;
      kept = kept;
    }) m e12) made))))))))))))

consistent_sound : (p m : MapParts) → consistent p ≡ Ok m → (p ≡ m) × (ids_are_unique p ≡ true) × (are_below_next p ≡ true)
unfolding consistent
consistent_sound p m e =
    by_check (ids_are_unique p) IdUsedTwice _ m e (λ apart e1.
    by_check (are_below_next p) OverLimit _ m e1 (λ below e2.
    (ok_is p m e2, apart, below)))

IsWellFormed-read : (m : MapParts) → WasReadMap m → ids_are_unique m ≡ true → are_below_next m ≡ true → IsWellFormed m
IsWellFormed-read m h apart below =
    let layers_apart = are_distinct (λ a b. a == b) (layer_ids m.layers) in
    let objects_apart = are_distinct (λ a b. a == b) (object_ids m.layers) in
    let tilesets_apart = are_distinct (λ a b. a == b) (flat_map first_ids_of m.tilesets) in
    let named_apart = list_all are_named_apart (property_lists m) in
    let a = and_parts (layers_apart && objects_apart && tilesets_apart) named_apart apart in
    let b = and_parts (layers_apart && objects_apart) tilesets_apart a.0 in
    let c = and_parts layers_apart objects_apart b.0 in
    let d = and_parts (are_named_apart m.properties) (list_all are_named_apart (flat_map lists_of_drawn (all_drawn m.layers))) a.1 in
    let f = and_parts (list_all (λ id. nat_lt id m.next_layer_id) (layer_ids m.layers))
    (list_all (λ id. nat_lt id m.next_object_id) (object_ids m.layers)) below in
    let size = m.width * m.height in
    record {
      size = h.size;
      tile_size = h.tile_size;
      layers = record {
        few = h.layers_few;
        each = Each-IsDrawn size (all_drawn m.layers) h.layers d.1;
        layer_ids = AreIds-read m.next_layer_id (layer_ids m.layers) h.next_layer_low h.next_layer_high
            (Each-flat_map (λ id. 1 ≤ id) (WasReadDrawn size) ids_of (λ x g. (g.low, tt)) (all_drawn m.layers) h.layers) c.0 f.0;
        object_ids = AreIds-read m.next_object_id (object_ids m.layers) h.next_object_low h.next_object_high
            (Each-flat_map (λ id. 1 ≤ id) (WasReadDrawn size) object_ids_of (λ x g. low_in x.0 size x.1.body g.body) (all_drawn m.layers) h.layers) c.1 f.1;
      };
      tilesets = record { few = h.tilesets_few; each = h.tilesets; distinct = Distinct-numbers (flat_map first_ids_of m.tilesets) b.1 };
      properties = AreProperties-read map_tier m.properties h.properties d.0;
      kept = h.kept;
    }

root_fine : (d : Data) (ms : Members) → as_object d ≡ Some ms → has_fraction d ≡ false → IsReadable d → depth d ≤ 127
    → AreFineMembers 126 (without VERSION.now ms)
root_fine null ms is e h le = absurd cc
root_fine (boolean b) ms is e h le = absurd cc
root_fine (number x) ms is e h le = absurd cc
root_fine (string s) ms is e h le = absurd cc
root_fine (array ds) ms is e h le = absurd cc
root_fine (object ks) ms is e h le =
    let same : ks ≡ ms = cc in
    let f = or_parts (members_have_float (without VERSION.now ks)) (version_has_fraction (get_member VERSION.now ks)) e in
    let less = members_depth-without VERSION.now ks in
    subst (λ (x : Members). AreFineMembers 126 (without VERSION.now x)) same
    (AreFineMembers-read 126 (without VERSION.now ks) (AreReadableMembers-without VERSION.now ks h) f.0 (omega arith))

-- what a tree says is well formed
pub IsWellFormed-map_of : (d : Data) (m : MapParts) → IsReadable d → depth d ≤ 127 → map_of d ≡ Ok m → IsWellFormed m
unfolding map_of
IsWellFormed-map_of d m h le e =
    by_check (not (has_fraction d)) Fraction _ m e (λ no_fraction e1.
    by_bind (ok_or (as_object d) NotAMap) _ m e1 (λ ms object e2.
    by_check (is_map_type (get_member TYPE.now ms)) NotAMap _ m e2 (λ is_map e3.
    by_bind (parts_of ms) _ m e3 (λ p p_is e4.
    let whole = not-true (has_fraction d) no_fraction in
    let fine = root_fine d ms (ok_or_ok (as_object d) NotAMap ms object) whole h le in
    let c = consistent_sound p m e4 in
    subst IsWellFormed c.0 (IsWellFormed-read p (parts_sound ms p fine p_is) c.1 c.2)))))
