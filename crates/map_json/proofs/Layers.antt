-- What was read is well formed: layers and what they hold, but for what must differ over the whole map.
use Rattle.std.proofs.Common.{◌≡◌, IsUtf8, ℕ, zero, suc, ◌+◌, ◌-◌, ◌*◌, ◌<◌, ◌≤◌, List, [], ◌∷◌, length, true, Option, Some, None, Ok, refl, sym, ap, ◌∙◌, subst}
use Rattle.std.proofs.Common.{arith}
use Rattle.std.specs.Prelude.{nat_le, replicate}
use Rattle.std.specs.Option.{ok_or}
use Rattle.std.proofs.lemmas.Bool.{leb-true}
use Rattle.std.proofs.lemmas.List.{length-replicate}
use Rattle.std.proofs.lemmas.Str.{IsUtf8-nil}
use Rattle.serde_json.specs.Data.{Data, Items, no_items, item, Members}
use Rattle.serde_json.specs.Events.{items_len}
use Rattle.serde_json.specs.Find.{get_member, as_object, as_array}
use Rattle.map_model.specs.declared.names.TheConstants.{ID, NAME, TYPE, VISIBLE, WIDTH, HEIGHT, LAYERS, CHUNKS, ENCODING, COMPRESSION, DATA, OBJECTS}
use Rattle.map_model.specs.declared.limits.TheConstants.{MAX_DEPTH, MAX_GROUPS, MAX_LAYERS, MAX_OBJECTS, MAX_NEXT_ID}
use Rattle.map_model.specs.declared.parts.Encoding.{Encoding}
use Rattle.map_model.specs.declared.parts.Encoding.TheVariants.{Array}
use Rattle.map_model.specs.declared.parts.Body.{Body}
use Rattle.map_model.specs.declared.parts.Body.TheVariants.{Tiles, Objects, Other, Group, Group'}
use Rattle.map_model.specs.declared.parts.Layer.{Layer}
use Rattle.map_model.specs.Groups.{all_drawn, bare, body_with_layers, drawn, group_in, tree}
use Rattle.map_model.specs.Lists.{Each}
use Rattle.map_model.specs.Keeping.{AreKept, deepest_tier, inner_tier, layer_tier, object_tier, property_tier}
use Rattle.map_model.specs.Format.{layer_names}
use Rattle.map_model.specs.Refusing.{◌>>=◌, ◌>>◌, check}
use Rattle.map_model.specs.WellFormed.{IsTileValue}
use Rattle.map_model.proofs.GroupBodies.{body_names-with}
use Rattle.map_model.proofs.NewMaps.{Each-replicate}
use Rattle.map_model.proofs.Trees.{below}
use Rattle.json_members.specs.Members.{without_all}
use Rattle.map_json.specs.declared.body.LayerType.{LayerType}
use Rattle.map_json.specs.declared.body.LayerType.TheVariants.{TileLayer, ObjectGroup, ImageLayer, GroupLayer}
use Rattle.map_json.specs.declared.body.NoData.{NoData}
use Rattle.map_json.specs.declared.body.NoData.TheVariants.{Refused, Empty}
use Rattle.map_json.specs.declared.layer.Head.{Head}
use Rattle.refusals.specs.declared.map_refusal.MapRefusal.TheVariants.{MemberOfAnotherKind, OverLimit}
use Rattle.map_values.specs.Presence.{required, absent_means}
use Rattle.map_values.specs.Scalars.{text_at, truth_at, id_at}
use Rattle.map_json.specs.Elements.{Counting, each_counted, elements_at}
use Rattle.map_json.specs.Reading.{properties_of, object_at, type_at, encoding_at, compression_at, same_at, cells_at, cells_or_empty, tile_values}
use Rattle.map_json.specs.Reading.{tiles_of, objects_of, body_by, layer_by, layers_at, map_layers_at, head_of}
use Rattle.map_values.proofs.Lists.{Each-both}
use Rattle.map_json.proofs.DrawnLayers.{Each-tree, length-drawn, drawn_in, below-drawn_in, drawn_in-none, drawn_in-Group}
use Rattle.map_json.proofs.Fine.{IsFine, AreFineItems, AreFineMembers}
use Rattle.map_json.proofs.FineLemmas.{IsFine-get_member}
use Rattle.map_json.proofs.Sound.{text_or_sound, by_bind, by_check, by_step, ok_is, ok_or_ok, required_ok, array_fine, object_fine, kept_sound}
use Rattle.map_json.proofs.Sound.{required_whole_sound, elements_sound, cells_tree_sound, WereRead, properties_sound}
use Rattle.map_json.proofs.Owners.{WasReadObject, object_sound}

-- what a layer at this tier holds itself, on a map of so many cells; whether names of properties differ is told apart
abbrev pub WasReadBody : ℕ → ℕ → Body → Type 0
WasReadBody tier size (Tiles e cells) = (length cells ≡ size) × Each IsTileValue cells
WasReadBody tier size (Objects os) = (length os ≤ MAX_OBJECTS) × Each (WasReadObject (object_tier tier)) os
WasReadBody tier size Other = Unit {0}
WasReadBody tier size (Group' s r) = tier < deepest_tier

pub record WasReadLayer (tier size : ℕ) (l : Layer) : Type 0 where
  pub low : 1 ≤ l.id
  pub high : l.id < MAX_NEXT_ID
  pub name : IsUtf8 l.name
  pub properties : WereRead tier l.properties
  pub kept : AreKept tier (layer_names l.body) l.kept
  pub body : WasReadBody tier size l.body

-- a layer with its tier
abbrev pub WasReadDrawn : ℕ → ℕ × Layer → Type 0
WasReadDrawn size d = WasReadLayer d.0 size d.1

-- so many layers more, which were read, and not too many in all
record WereCounted (size before after : ℕ) (more : List (ℕ × Layer)) : Type 0 where
  sum : after ≡ before + length more
  each : Each (WasReadDrawn size) more
  few : before ≤ MAX_LAYERS → after ≤ MAX_LAYERS

none_counted : (size count : ℕ) → WereCounted size count count []
none_counted size count = record { sum = omega arith; each = tt; few = λ h. h }

-- ---- other layers in a layer
WasReadBody-with : (f : List Layer → List Layer) (tier size : ℕ) (b : Body) → WasReadBody tier size (body_with_layers f b) ≡ WasReadBody tier size b
WasReadBody-with f tier size (Group' s r) = refl
WasReadBody-with f tier size b = refl

WasReadLayer-bare : (tier size : ℕ) (l : Layer) → WasReadLayer tier size l → WasReadLayer tier size (bare l)
WasReadLayer-bare tier size l h = record {
  low = h.low;
  high = h.high;
  name = h.name;
  properties = h.properties;
  kept = rw (body_names-with (λ ls. []) l.body) h.kept;
  body = rw (WasReadBody-with (λ ls. []) tier size l.body) h.body;
}

-- ---- layers one after another
-- a layer that was read with so many counted before it, and those in it
abbrev LayerRead : ℕ → ℕ → ℕ → ℕ → ℕ × Layer → Type 0
LayerRead groups tier size count r = WasReadLayer tier size r.1 × WereCounted size count r.0 (below groups tier r.1)

module _ (groups tier n size : ℕ) (read : Counting Layer) (sound : (count : ℕ) (d : Data) (r : ℕ × Layer) → IsFine n d → read count d ≡ Ok r → LayerRead groups
    tier size count r) where
  -- what was read of an array: after stands before its length was added
  record EachRead (ds : Items) (count : ℕ) (r : ℕ × List Layer) : Type 0 where
    long : length r.1 ≡ items_len ds
    sum : r.0 + length r.1 ≡ count + length (drawn groups tier r.1)
    each : Each (WasReadDrawn size) (drawn groups tier r.1)
    few : count ≤ MAX_LAYERS → r.0 ≤ MAX_LAYERS

  each_more : (d : Data) (ds : Items) (count : ℕ) (x : ℕ × Layer) (xs : ℕ × List Layer) → LayerRead groups tier size count x → EachRead ds x.0 xs
      → EachRead (item d ds) count (xs.0, x.1 ∷ xs.1)
  each_more d ds count x xs h more = record {
    long = ap suc more.long;
    sum = omega (arith, length-drawn groups tier x.1 xs.1, h.1.sum, more.sum);
    each = Each-both (WasReadDrawn size) (tree groups tier x.1) (drawn groups tier xs.1)
        (Each-tree (WasReadDrawn size) groups tier x.1 (WasReadLayer-bare tier size x.1 h.0) h.1.each) more.each;
    few = λ le. more.few (h.1.few le);
  }

  each_counted_sound : (ds : Items) (count : ℕ) (r : ℕ × List Layer) → AreFineItems n ds → each_counted read count ds ≡ Ok r → EachRead ds count r
  each_counted_sound no_items count r fine e = subst (EachRead no_items count) (ok_is (count, []) r e)
      (record { long = refl; sum = refl; each = tt; few = λ le. le })
  each_counted_sound (item d ds) count r fine e =
      by_bind (read count d) _ r e (λ x x_is e1.
      by_bind (each_counted read x.0 ds) _ r e1 (λ xs xs_is e2.
      subst (EachRead (item d ds) count) (ok_is (xs.0, x.1 ∷ xs.1) r e2)
      (each_more d ds count x xs (sound count d x fine.0 x_is) (each_counted_sound ds x.0 xs fine.1 xs_is))))

  array_sound : (d : Data) (count : ℕ) (r : ℕ × List Layer) → IsFine (suc n) d
      → (ok_or (as_array d) MemberOfAnotherKind >>= λ ds. check (nat_le (count + items_len ds) MAX_LAYERS) OverLimit >> each_counted read
      (count + items_len ds) ds) ≡ Ok r
      → WereCounted size count r.0 (drawn groups tier r.1)
  array_sound d count r fine e =
      by_bind (ok_or (as_array d) MemberOfAnotherKind) _ r e (λ ds ds_is e1.
      by_check (nat_le (count + items_len ds) MAX_LAYERS) OverLimit _ r e1 (λ fits e2.
      let all = each_counted_sound ds (count + items_len ds) r (array_fine n d ds fine (ok_or_ok (as_array d) MemberOfAnotherKind ds ds_is)) e2 in
      let few = all.few (leb-true (count + items_len ds) MAX_LAYERS fits) in
      record { sum = omega (arith, all.long, all.sum); each = all.each; few = λ le. few }))

-- ---- layers within layers
-- what a body holds that was read, and the layers in it
abbrev BodyRead : ℕ → ℕ → ℕ → ℕ → ℕ × Body → Type 0
BodyRead groups tier size count r = WasReadBody tier size r.1 × WereCounted size count r.0 (drawn_in groups tier r.1)

-- the layers of a group, by a reader with this room
abbrev IsInner : ℕ → ℕ → ℕ → ℕ → Counting (List Layer) → Type 0
IsInner groups tier n size inner = (d : Data) (count : ℕ) (ls : ℕ × List Layer) → IsFine n d → inner count d ≡ Ok ls
    → BodyRead groups tier size count (ls.0, Group ls.1)

alone : (groups tier size count : ℕ) (b : Body) → group_in b ≡ None → WasReadBody tier size b → BodyRead groups tier size count (count, b)
alone groups tier size count b none h = (h, subst (WereCounted size count count) (sym (drawn_in-none groups tier b none)) (none_counted size count))

-- the values of a tile layer
or_empty_sound : (encoding : Encoding) (count : ℕ) (chunks values : Option Data) (cells : List ℕ) → cells_or_empty encoding count chunks values ≡ Ok cells
    → (length cells ≡ count) × Each IsTileValue cells
or_empty_sound encoding count None None cells e =
    subst (λ cs. (length cs ≡ count) × Each IsTileValue cs) (ok_is (replicate count 0) cells e)
    (length-replicate count 0, Each-replicate IsTileValue count 0 (omega arith))
or_empty_sound encoding count (Some chunks) None cells e = absurd cc
or_empty_sound encoding count chunks (Some d) cells e = cells_tree_sound encoding count d cells e

tile_values_sound : (no_data : NoData) (encoding : Encoding) (count : ℕ) (ms : Members) (cells : List ℕ) → tile_values no_data encoding count ms ≡ Ok cells
    → (length cells ≡ count) × Each IsTileValue cells
tile_values_sound Refused encoding count ms cells e =
    let found = required_ok (cells_at encoding count) (get_member DATA.now ms) cells e in
    cells_tree_sound encoding count found.0 cells found.2
tile_values_sound Empty encoding count ms cells e =
    or_empty_sound encoding count (get_member CHUNKS.now ms) (get_member DATA.now ms) cells e

body_sound : (groups tier n : ℕ) → property_tier (object_tier tier) + n ≤ MAX_DEPTH
    → (no_data : NoData) (inner : Counting (List Layer)) (kind : LayerType) (width height count : ℕ) (ms : Members) (r : ℕ × Body)
    → IsInner groups tier (suc (suc (suc (suc n)))) (width * height) inner → AreFineMembers (suc (suc (suc (suc n)))) ms
    → body_by no_data inner kind width height count ms ≡ Ok r → BodyRead groups tier (width * height) count r
unfolding tiles_of objects_of
body_sound groups tier n deep no_data inner TileLayer width height count ms r sound h e =
    by_bind (tiles_of no_data width height ms) _ r e (λ b b_is last.
    by_bind (absent_means Array encoding_at (get_member ENCODING.now ms)) _ b b_is (λ encoding encoding_is e1.
    by_step (absent_means tt compression_at (get_member COMPRESSION.now ms)) _ b e1 (λ e2.
    by_step (absent_means tt (same_at width) (get_member WIDTH.now ms)) _ b e2 (λ e3.
    by_step (absent_means tt (same_at height) (get_member HEIGHT.now ms)) _ b e3 (λ e4.
    by_bind (tile_values no_data encoding (width * height) ms) _ b e4 (λ cells cells_is e5.
    let made = alone groups tier (width * height) count (Tiles encoding cells) refl
    (tile_values_sound no_data encoding (width * height) ms cells cells_is) in
    subst (BodyRead groups tier (width * height) count) (ap (λ c. (count, c)) (ok_is (Tiles encoding cells) b e5) ∙ ok_is (count, b) r last) made))))))
body_sound groups tier n deep no_data inner ObjectGroup width height count ms r sound h e =
    by_bind (objects_of ms) _ r e (λ b b_is last.
    by_bind (required (elements_at MAX_OBJECTS object_at) (get_member OBJECTS.now ms)) _ b b_is (λ objects objects_is e1.
    let found = required_ok (elements_at MAX_OBJECTS object_at) (get_member OBJECTS.now ms) objects objects_is in
    let fine = IsFine-get_member (suc (suc (suc (suc n)))) OBJECTS.now ms found.0 h found.1 in
    let made = alone groups tier (width * height) count (Objects objects) refl
    (elements_sound (WasReadObject (object_tier tier)) object_at (suc (suc (suc n)))
    (object_sound (object_tier tier) n deep) MAX_OBJECTS found.0 objects fine found.2) in
    subst (BodyRead groups tier (width * height) count) (ap (λ c. (count, c)) (ok_is (Objects objects) b e1) ∙ ok_is (count, b) r last) made))
body_sound groups tier n deep no_data inner ImageLayer width height count ms r sound h e =
    subst (BodyRead groups tier (width * height) count) (ok_is (count, Other) r e) (alone groups tier (width * height) count Other refl tt)
body_sound groups tier n deep no_data inner GroupLayer width height count ms r sound h e =
    by_bind (required (inner count) (get_member LAYERS.now ms)) _ r e (λ ls ls_is e1.
    let found = required_ok (inner count) (get_member LAYERS.now ms) ls ls_is in
    let fine = IsFine-get_member (suc (suc (suc (suc n)))) LAYERS.now ms found.0 h found.1 in
    subst (BodyRead groups tier (width * height) count) (ok_is (ls.0, Group ls.1) r e1) (sound found.0 count ls fine found.2))

-- what was read of the members of a layer of any kind
record HeadRead (ms : Members) (head : Head) : Type 0 where
  id : required id_at (get_member ID.now ms) ≡ Ok head.id
  name : absent_means [] text_at (get_member NAME.now ms) ≡ Ok head.name
  properties : properties_of ms ≡ Ok head.properties

head_read : (ms : Members) (head : Head) → head_of ms ≡ Ok head → HeadRead ms head
unfolding head_of
head_read ms head e =
    by_bind (required type_at (get_member TYPE.now ms)) _ head e (λ kind kind_is e1.
    by_bind (required id_at (get_member ID.now ms)) _ head e1 (λ id id_is e2.
    by_bind (absent_means [] text_at (get_member NAME.now ms)) _ head e2 (λ name name_is e3.
    by_bind (absent_means true truth_at (get_member VISIBLE.now ms)) _ head e3 (λ visible visible_is e4.
    by_bind (properties_of ms) _ head e4 (λ properties properties_is e5.
    let found : Head = record { kind = kind; id = id; name = name; visible = visible; properties = properties } in
    subst (HeadRead ms) (ok_is found head e5) (record { id = id_is; name = name_is; properties = properties_is }))))))

one_sound : (groups tier n : ℕ) → property_tier (object_tier tier) + n ≤ MAX_DEPTH
    → (no_data : NoData) (inner : Counting (List Layer)) (width height count : ℕ) (d : Data) (r : ℕ × Layer)
    → IsInner groups tier (suc (suc (suc (suc n)))) (width * height) inner → IsFine (suc (suc (suc (suc (suc n))))) d
    → layer_by no_data inner width height count d ≡ Ok r → LayerRead groups tier (width * height) count r
unfolding layer_by
one_sound groups tier n deep no_data inner width height count d r sound fine e =
    by_bind (ok_or (as_object d) MemberOfAnotherKind) _ r e (λ ms object e1.
    by_bind (head_of ms) _ r e1 (λ head head_is e2.
    by_bind (body_by no_data inner head.kind width height count ms) _ r e2 (λ body body_is e3.
    let read = head_read ms head head_is in
    let members = object_fine (suc (suc (suc (suc n)))) d ms fine (ok_or_ok (as_object d) MemberOfAnotherKind ms object) in
    let range = required_whole_sound 1 (MAX_NEXT_ID - 1) (get_member ID.now ms) head.id read.id in
    let held = body_sound groups tier n deep no_data inner head.kind width height count ms body sound members body_is in
    let l : Layer = record {
      id = head.id;
      name = head.name;
      visible = head.visible;
      properties = head.properties;
      kept = without_all (layer_names body.1) ms;
      body = body.1;
    } in
    let made : WasReadLayer tier (width * height) l = record {
      low = range.0;
      high = omega (arith, range.1);
      name = text_or_sound (suc (suc (suc (suc n)))) NAME.now ms members [] head.name IsUtf8-nil read.name;
      properties = properties_sound tier (suc (suc n)) (omega arith) ms head.properties members read.properties;
      kept = kept_sound tier (suc (suc (suc (suc n)))) (layer_names body.1) ms (omega arith) members;
      body = held.0;
    } in
    subst (LayerRead groups tier (width * height) count) (ok_is (body.0, l) r e3)
    (made, subst (WereCounted (width * height) count body.0) (sym (below-drawn_in groups tier l)) held.1))))

-- a group with room for layers, which a reader of one room less reads
inner_sound : (no_data : NoData) (groups tier n width height : ℕ) → tier + 2 * suc groups ≡ deepest_tier
    → ((count : ℕ) (d : Data) (r : ℕ × Layer) → IsFine n d → layer_by no_data (layers_at no_data groups width height) width height count d ≡ Ok r
    → LayerRead groups (inner_tier tier) (width * height) count r)
    → IsInner (suc groups) tier (suc n) (width * height) (layers_at no_data (suc groups) width height)
unfolding layers_at
inner_sound no_data groups tier n width height balance one d count ls fine e =
    let all = array_sound groups (inner_tier tier) n (width * height)
    (layer_by no_data (layers_at no_data groups width height) width height) one d count ls fine e in
    (omega (arith, balance), subst (WereCounted (width * height) count ls.0) (sym (drawn_in-Group groups tier ls.1)) all)

no_groups_sound : (no_data : NoData) (tier n width height : ℕ) → IsInner 0 tier n (width * height) (layers_at no_data 0 width height)
unfolding layers_at
no_groups_sound no_data tier n width height d count ls fine e =
    by_bind (ok_or (as_array d) MemberOfAnotherKind) _ ls e (λ ds ds_is e1. absurd cc)

layer_sound : (no_data : NoData) (groups tier n width height : ℕ) → tier + 2 * groups ≡ deepest_tier → property_tier (object_tier tier) + n ≡ MAX_DEPTH
    → (count : ℕ) (d : Data) (r : ℕ × Layer)
    → IsFine (suc (suc (suc (suc (suc n))))) d → layer_by no_data (layers_at no_data groups width height) width height count d ≡ Ok r
    → LayerRead groups tier (width * height) count r
layer_sound no_data zero tier n width height balance deep count d r fine e =
    one_sound 0 tier n (omega (arith, deep)) no_data (layers_at no_data 0 width height) width height count d r
    (no_groups_sound no_data tier (suc (suc (suc (suc n)))) width height) fine e
layer_sound no_data (suc groups) tier n width height balance deep count d r fine e =
    let m = n - 2 in
    let long : suc (suc (suc n)) ≡ suc (suc (suc (suc (suc m)))) = omega (arith, balance, deep) in
    let one = λ (k : ℕ) (x : Data) (y : ℕ × Layer) (f : IsFine (suc (suc (suc n))) x)
    (g : layer_by no_data (layers_at no_data groups width height) width height k x ≡ Ok y).
    layer_sound no_data groups (inner_tier tier) m width height (omega (arith, balance)) (omega (arith, balance, deep)) k x y (subst (λ i. IsFine i x) long f) g in
    one_sound (suc groups) tier n (omega (arith, deep)) no_data (layers_at no_data (suc groups) width height) width height count d r
    (inner_sound no_data groups tier (suc (suc (suc n))) width height balance one) fine e

-- the layers of a map
pub map_layers_sound : (width height : ℕ) (d : Data) (ls : List Layer) → IsFine 126 d → map_layers_at width height d ≡ Ok ls
    → (length (all_drawn ls) ≤ MAX_LAYERS) × Each (WasReadDrawn (width * height)) (all_drawn ls)
unfolding layers_at
map_layers_sound width height d ls fine e =
    by_bind (layers_at Refused (suc MAX_GROUPS) width height 0 d) _ ls e (λ r r_is e1.
    let all = array_sound MAX_GROUPS layer_tier 125 (width * height) (layer_by Refused (layers_at Refused MAX_GROUPS width height) width height)
    (λ count x y f g. layer_sound Refused MAX_GROUPS layer_tier 120 width height refl refl count x y f g) d 0 r fine r_is in
    let few = all.few (omega arith) in
    subst (λ ks. (length (all_drawn ks) ≤ MAX_LAYERS) × Each (WasReadDrawn (width * height)) (all_drawn ks)) (ok_is r.1 ls e1)
    (omega (arith, all.sum, few), all.each))

-- a layer that is all layers of a map
pub lone_sound : (no_data : NoData) (width height : ℕ) (d : Data) (r : ℕ × Layer) → IsFine 125 d
    → layer_by no_data (layers_at no_data MAX_GROUPS width height) width height 1 d ≡ Ok r
    → (length (all_drawn (r.1 ∷ [])) ≤ MAX_LAYERS) × Each (WasReadDrawn (width * height)) (all_drawn (r.1 ∷ []))
lone_sound no_data width height d r fine e =
    let size = width * height in
    let read = layer_sound no_data MAX_GROUPS layer_tier 120 width height refl refl 1 d r fine e in
    let few = read.1.few (omega arith) in (
      omega (arith, length-drawn MAX_GROUPS layer_tier r.1 [], read.1.sum, few),
      Each-both (WasReadDrawn size) (tree MAX_GROUPS layer_tier r.1) []
          (Each-tree (WasReadDrawn size) MAX_GROUPS layer_tier r.1 (WasReadLayer-bare layer_tier size r.1 read.0) read.1.each) tt,
    )
