-- What is written is read again: layers, and those that stand in them.
use Rattle.std.proofs.Common.{◌≡◌, ℕ, zero, suc, ◌+◌, ◌*◌, ◌≤◌, true, List, [], ◌∷◌, length, Option, Some, None, Ok, refl, sym, ap, ◌∙◌, subst, arith}
use Rattle.std.specs.Prelude.{nat_le}
use Rattle.std.specs.List.{flat_map}
use Rattle.std.proofs.lemmas.Bool.{le-leb}
use Rattle.serde_json.specs.Data.{Data, array, boolean, no_items, string, object, Members}
use Rattle.serde_json.specs.Events.{items_len}
use Rattle.serde_json.specs.Find.{get_member}
use Rattle.map_model.specs.declared.names.TheConstants.{ID, NAME, TYPE, VISIBLE, PROPERTIES, WIDTH, HEIGHT, LAYERS, ENCODING, COMPRESSION, DATA, OBJECTS}
use Rattle.map_model.specs.declared.limits.TheConstants.{MAX_GROUPS, MAX_LAYERS, MAX_NEXT_ID, MAX_PROPERTIES, MAX_OBJECTS}
use Rattle.map_model.specs.declared.parts.Encoding.{Encoding}
use Rattle.map_model.specs.declared.parts.Object.{Object}
use Rattle.map_model.specs.declared.parts.Body.{Body}
use Rattle.map_model.specs.declared.parts.Body.TheVariants.{Tiles, Objects, Other, Group'}
use Rattle.map_model.specs.declared.parts.Layer.{Layer}
use Rattle.map_model.specs.Groups.{all_drawn, bare, drawn, group_in, inside, tree}
use Rattle.map_model.specs.Lists.{Each, or_empty}
use Rattle.map_model.specs.Keeping.{deepest_tier, inner_tier, layer_tier, object_tier}
use Rattle.map_model.specs.Format.{layer_names}
use Rattle.map_model.specs.WellFormed.{IsId, IsObject, IsBody, IsDrawn, ids_of, ids_of_object, layer_ids, object_ids, object_ids_in, object_ids_of}
use Rattle.map_model.proofs.GroupBodies.{IsLayer-without, object_ids-with}
use Rattle.map_model.proofs.Trees.{below}
use Rattle.json_members.specs.Members.{without_all}
use Rattle.map_json.specs.Members.{with_own}
use Rattle.map_json.specs.declared.body.LayerType.{LayerType}
use Rattle.map_json.specs.declared.body.LayerType.TheVariants.{TileLayer, ObjectGroup, ImageLayer, GroupLayer}
use Rattle.map_json.specs.declared.body.NoData.TheVariants.{Refused}
use Rattle.map_values.specs.Presence.{absent_means}
use Rattle.map_values.specs.Scalars.{text_at, truth_at, id_at}
use Rattle.map_json.specs.Elements.{Counting, each_counted, elements_at}
use Rattle.map_json.specs.Reading.{property_at, object_at, type_at, cells_at, tiles_of, objects_of, body_by, head_of, layer_by, layers_at, map_layers_at}
use Rattle.map_values.specs.Arrays.{array_by, items_by, whole_tree}
use Rattle.map_json.specs.Trees.{properties_member, object_tree, cells_tree, encoding_member, body_own, type_word, layer_own}
use Rattle.map_json.specs.Trees.{layer_tree, layers_tree}
use Rattle.map_json.proofs.Again.{elements_again, items_len-items_by}
use Rattle.map_values.proofs.Lists.{Each-left, Each-right}
use Rattle.map_json.proofs.DrawnLayers.{Group-inside, drawn_in, drawn_in-none, length-drawn, tree-Each}
use Rattle.map_json.proofs.Law.{or_none, id_again, properties_again, object_again, encoding_again, cells_tree_again, same_again}
use Rattle.map_json.proofs.Lacking.{LacksAll}
use Rattle.map_json.proofs.Own.{get_member-with_own, find_own, without_all-with_own}

-- ---- ids of elements
objects_again : (tier next : ℕ) → next ≤ MAX_NEXT_ID → (os : List Object) → Each (IsObject tier) os → Each (IsId next) (flat_map ids_of_object os)
    → Each (λ o. object_at (object_tree o) ≡ Ok o) os
objects_again tier next few [] h g = tt
objects_again tier next few (o ∷ os) h g = (object_again tier o (id_again next o.id few g.0) h.0, objects_again tier next few os h.1 g.1)

-- ---- layers
abbrev kind_of : Body → LayerType
kind_of (Tiles e cells) = TileLayer
kind_of (Objects os) = ObjectGroup
kind_of Other = ImageLayer
kind_of (Group' s r) = GroupLayer

type_again : (b : Body) → type_at (string (type_word b)) ≡ Ok (kind_of b)
unfolding type_at
type_again (Tiles e cells) = refl
type_again b = refl

no_properties : (width height : ℕ) (layers : Data) (b : Body) (d : Option Data) → find_own PROPERTIES.now (body_own width height layers b) d ≡ d
no_properties width height layers (Tiles e cells) d = refl
no_properties width height layers b d = refl

tiles_read : (width height : ℕ) (e : Encoding) (cells : List ℕ) (ms : Members) → get_member ENCODING.now ms ≡ encoding_member e
    → get_member COMPRESSION.now ms ≡ None
    → get_member WIDTH.now ms ≡ Some (whole_tree width) → get_member HEIGHT.now ms ≡ Some (whole_tree height)
    → get_member DATA.now ms ≡ Some (cells_tree e cells)
    → cells_at e (width * height) (cells_tree e cells) ≡ Ok cells → tiles_of Refused width height ms ≡ Ok (Tiles e cells)
unfolding tiles_of
tiles_read width height e cells ms encoding compression wide high data_is cells_ok =
    rw (encoding, encoding_again e, compression, wide, same_again width, high, same_again height, data_is, cells_ok) refl

objects_read : (os : List Object) (ms : Members) → get_member OBJECTS.now ms ≡ Some (array_by object_tree os)
    → elements_at MAX_OBJECTS object_at (array_by object_tree os) ≡ Ok os → objects_of ms ≡ Ok (Objects os)
unfolding objects_of
objects_read os ms is ok = rw (is, ok) refl

-- the layer of these fields, with this body
abbrev with_body : Layer → Body → Layer
with_body l b = record l { body = b }

-- what is drawn of a body, counted behind those before
abbrev counted : ℕ → ℕ → ℕ → Body → ℕ
counted groups tier count b = count + length (drawn_in groups tier b)

counted-none : (groups tier count : ℕ) (b : Body) → group_in b ≡ None → counted groups tier count b ≡ count
counted-none groups tier count b none = ap (λ (ds : List (ℕ × Layer)). count + length ds) (drawn_in-none groups tier b none) ∙ omega arith

-- a reader reads the layers of a group from d
abbrev IsReadFrom : ℕ → ℕ → ℕ → Body → Counting (List Layer) → Data → Type 0
IsReadFrom groups tier count b inner d = (ls : List Layer) → group_in b ≡ Some ls → inner count d ≡ Ok (counted groups tier count b, ls)

body_again : (groups tier next width height count : ℕ) → next ≤ MAX_NEXT_ID → (inner : Counting (List Layer)) (d : Data) (l : Layer) (b : Body) (kept : Members)
    → IsReadFrom groups tier count b inner d
    → LacksAll (layer_names b) kept → IsBody tier (width * height) b → Each (IsId next) (object_ids_in b)
    → body_by Refused inner (kind_of b) width height count (with_own (layer_own width height d (with_body l b)) kept) ≡ Ok (counted groups tier count b, b)
body_again groups tier next width height count few inner d l (Tiles e cells) kept reads lacks h ids =
    let own = layer_own width height d (with_body l (Tiles e cells)) in
    let read = tiles_read width height e cells (with_own own kept)
    (get_member-with_own ENCODING.now own kept ∙ or_none (encoding_member e) (get_member ENCODING.now kept) lacks.1.1.1.1.1.0)
    (get_member-with_own COMPRESSION.now own kept ∙ lacks.1.1.1.1.1.1.0)
    (get_member-with_own WIDTH.now own kept) (get_member-with_own HEIGHT.now own kept) (get_member-with_own DATA.now own kept)
    (cells_tree_again e (width * height) cells h.0 h.1) in
    rw read (ap (λ n. Ok (n, Tiles e cells)) (sym (counted-none groups tier count (Tiles e cells) refl)))
body_again groups tier next width height count few inner d l (Objects os) kept reads lacks h ids =
    let own = layer_own width height d (with_body l (Objects os)) in
    let read = objects_read os (with_own own kept) (get_member-with_own OBJECTS.now own kept)
    (elements_again object_tree object_at MAX_OBJECTS os h.0 (objects_again (object_tier tier) next few os h.1 ids)) in
    rw read (ap (λ n. Ok (n, Objects os)) (sym (counted-none groups tier count (Objects os) refl)))
body_again groups tier next width height count few inner d l Other kept reads lacks h ids =
    ap (λ n. Ok (n, Other)) (sym (counted-none groups tier count Other refl))
body_again groups tier next width height count few inner d l (Group' s r) kept reads lacks h ids =
    let own = layer_own width height d (with_body l (Group' s r)) in
    let ls = or_empty (group_in (Group' s r)) in
    rw (get_member-with_own LAYERS.now own kept, reads ls refl) (ap (λ b. Ok (counted groups tier count (Group' s r), b)) (Group-inside (Group' s r) ls refl))

kept_again : (width height : ℕ) (d : Data) (l : Layer) (b : Body) (kept : Members) → LacksAll (layer_names b) kept
    → without_all (layer_names b) (with_own (layer_own width height d (with_body l b)) kept) ≡ kept
kept_again width height d l (Tiles e cells) kept lacks = without_all-with_own (layer_own width height d (with_body l (Tiles e cells))) kept refl lacks
kept_again width height d l b kept lacks = without_all-with_own (layer_own width height d (with_body l b)) kept refl lacks

layer_read : (inner : Counting (List Layer)) (width height count behind : ℕ) (l : Layer) (ms : Members)
    → get_member TYPE.now ms ≡ Some (string (type_word l.body)) → get_member ID.now ms ≡ Some (whole_tree l.id)
    → get_member NAME.now ms ≡ Some (string l.name) → get_member VISIBLE.now ms ≡ Some (boolean l.visible)
    → get_member PROPERTIES.now ms ≡ properties_member l.properties
    → id_at (whole_tree l.id) ≡ Ok l.id → absent_means [] (elements_at MAX_PROPERTIES property_at) (properties_member l.properties) ≡ Ok l.properties
    → body_by Refused inner (kind_of l.body) width height count ms ≡ Ok (behind, l.body) → without_all (layer_names l.body) ms ≡ l.kept
    → layer_by Refused inner width height count (object ms) ≡ Ok (behind, l)
unfolding layer_by head_of text_at truth_at
layer_read inner width height count behind l ms type id name visible properties id_ok properties_ok body_ok kept =
    rw (type, type_again l.body, id, id_ok, name, visible, properties, properties_ok, body_ok, kept) refl

-- a layer as deep as may be is no group
no_group : (tier size : ℕ) (b : Body) (ls : List Layer) → group_in b ≡ Some ls → IsBody tier size b → tier ≡ deepest_tier → ⊥
no_group tier size (Group' s r) ls g h balance = omega (arith, h, balance)
no_group tier size b ls g h balance = cc

-- a layer that fits a map of so many cells, with these next ids
abbrev Fits : ℕ → ℕ → ℕ → ℕ × Layer → Type 0
Fits size next next_object d = IsDrawn size d × (IsId next d.1.id × Each (IsId next_object) (object_ids_in d.1.body))

pub Each-Fits : (size next next_object : ℕ) (ds : List (ℕ × Layer)) → Each (IsDrawn size) ds → Each (IsId next) (flat_map ids_of ds)
    → Each (IsId next_object) (flat_map object_ids_of ds) → Each (Fits size next next_object) ds
Each-Fits size next next_object [] h ids objects = tt
Each-Fits size next next_object (d ∷ ds) h ids objects = (
  (h.0, (ids.0, Each-left (IsId next_object) (object_ids_of d) (flat_map object_ids_of ds) objects)),
  Each-Fits size next next_object ds h.1 ids.1 (Each-right (IsId next_object) (object_ids_of d) (flat_map object_ids_of ds) objects),
)

one_again : (groups tier next next_object width height count : ℕ) → next ≤ MAX_NEXT_ID → next_object ≤ MAX_NEXT_ID
    → (inner : Counting (List Layer)) (d : Data) (l : Layer) → IsReadFrom groups tier count l.body inner d
    → Fits (width * height) next next_object (tier, bare l)
    → layer_by Refused inner width height count (object (with_own (layer_own width height d l) l.kept)) ≡ Ok (counted groups tier count l.body, l)
one_again groups tier next next_object width height count few few_objects inner d l reads fits =
    let own = layer_own width height d l in
    let kept = l.kept in
    let h = IsLayer-without (λ ls. []) tier (width * height) l fits.0 in
    let ids : Each (IsId next_object) (object_ids_in l.body) = subst (Each (IsId next_object)) (object_ids-with (λ ls. []) l.body) fits.1.1 in
    let lacks = h.kept.unread in
    layer_read inner width height count (counted groups tier count l.body) l (with_own own kept) (get_member-with_own TYPE.now own kept)
    (get_member-with_own ID.now own kept) (get_member-with_own NAME.now own kept)
    (get_member-with_own VISIBLE.now own kept)
    (get_member-with_own PROPERTIES.now own kept ∙ or_none (properties_member l.properties)
    (find_own PROPERTIES.now (body_own width height d l.body) (get_member PROPERTIES.now kept))
    (no_properties width height d l.body (get_member PROPERTIES.now kept) ∙ lacks.1.1.1.1.0))
    (id_again next l.id few fits.1.0) (properties_again tier l.properties h.properties)
    (body_again groups tier next_object width height count few_objects inner d l l.body kept reads lacks h.body ids)
    (kept_again width height d l l.body kept lacks)

-- ---- layers one after another
module _ (groups tier width height : ℕ) (P : ℕ × Layer → Type 0)
    (one : (count : ℕ) (l : Layer) → Each P (tree groups tier l) → count + length (below groups tier l) ≤ MAX_LAYERS
    → layer_by Refused (layers_at Refused groups width height) width height count (layer_tree groups width height l)
    ≡ Ok (count + length (below groups tier l), l)) where
  -- how many stand in layers
  inside_all : List Layer → ℕ
  inside_all [] = 0
  inside_all (l ∷ ls) = length (below groups tier l) + inside_all ls

  inside_all-drawn : (ls : List Layer) → length (drawn groups tier ls) ≡ length ls + inside_all ls
  unfolding inside_all
  inside_all-drawn [] = refl
  inside_all-drawn (l ∷ ls) = omega (arith, length-drawn groups tier l ls, inside_all-drawn ls)

  each_again : (count : ℕ) (ls : List Layer) → Each P (drawn groups tier ls) → count + inside_all ls ≤ MAX_LAYERS
      → each_counted (layer_by Refused (layers_at Refused groups width height) width height) count (items_by (layer_tree groups width height) ls) ≡ Ok
      (count + inside_all ls, ls)
  unfolding inside_all
  each_again count [] h few = ap (λ n. Ok (n, [])) (omega arith)
  each_again count (l ∷ ls) h few =
      let first = one count l (Each-left P (tree groups tier l) (drawn groups tier ls) h) (omega (arith, few)) in
      let more = each_again (count + length (below groups tier l)) ls (Each-right P (tree groups tier l) (drawn groups tier ls) h) (omega (arith, few)) in
      rw (first, more) (ap (λ n. Ok (n, l ∷ ls)) (omega arith))

  array_again : (count : ℕ) (ls : List Layer) → Each P (drawn groups tier ls) → count + length (drawn groups tier ls) ≤ MAX_LAYERS
      → layers_at Refused (suc groups) width height count (layers_tree groups width height ls) ≡ Ok (count + length (drawn groups tier ls), ls)
  unfolding layers_at
  array_again count ls h few =
      let long = items_len-items_by (layer_tree groups width height) ls in
      let all = inside_all-drawn ls in
      let fits : nat_le (count + items_len (items_by (layer_tree groups width height) ls)) MAX_LAYERS ≡ true =
      le-leb (count + items_len (items_by (layer_tree groups width height) ls)) MAX_LAYERS (omega (arith, long, all, few)) in
      let each = each_again (count + items_len (items_by (layer_tree groups width height) ls)) ls h (omega (arith, long, all, few)) in
      rw (fits, each) (ap (λ n. Ok (n, ls)) (omega (arith, long, all)))

-- ---- layers within layers
layer_again : (groups tier next next_object width height count : ℕ) → tier + 2 * groups ≡ deepest_tier → next ≤ MAX_NEXT_ID → next_object ≤ MAX_NEXT_ID
    → (l : Layer)
    → Each (Fits (width * height) next next_object) (tree groups tier l) → count + length (below groups tier l) ≤ MAX_LAYERS
    → layer_by Refused (layers_at Refused groups width height) width height count (layer_tree groups width height l) ≡ Ok (count + length (below groups tier l), l)
unfolding layer_tree
layer_again zero tier next next_object width height count balance few few_objects l h fits =
    let own = tree-Each (Fits (width * height) next next_object) 0 tier l h in
    one_again 0 tier next next_object width height count few few_objects (layers_at Refused 0 width height) (array no_items) l
    (λ ls g. absurd (no_group tier (width * height) l.body ls g (IsLayer-without (λ ks. []) tier (width * height) l own.0.0).body (omega (arith, balance))))
    own.0
layer_again (suc groups) tier next next_object width height count balance few few_objects l h fits =
    let P = Fits (width * height) next next_object in
    let own = tree-Each P (suc groups) tier l h in
    let one = λ (k : ℕ) (x : Layer) (f : Each P (tree groups (inner_tier tier) x)) (g : k + length (below groups (inner_tier tier) x) ≤ MAX_LAYERS).
    layer_again groups (inner_tier tier) next next_object width height k (omega (arith, balance)) few few_objects x f g in
    let all = array_again groups (inner_tier tier) width height P one count (inside l) own.1 fits in
    one_again (suc groups) tier next next_object width height count few few_objects (layers_at Refused (suc groups) width height)
    (layers_tree groups width height (inside l)) l
    (λ ls g. all ∙ ap (λ o. Ok (count + length (drawn groups (inner_tier tier) (inside l)), or_empty o)) g) own.0

pub map_layers_again : (next next_object width height : ℕ) → next ≤ MAX_NEXT_ID → next_object ≤ MAX_NEXT_ID → (ls : List Layer)
    → length (all_drawn ls) ≤ MAX_LAYERS → Each (IsDrawn (width * height)) (all_drawn ls)
    → Each (IsId next) (layer_ids ls) → Each (IsId next_object) (object_ids ls) → map_layers_at width height (layers_tree MAX_GROUPS width height ls) ≡ Ok ls
map_layers_again next next_object width height few few_objects ls fits h ids objects =
    let P = Fits (width * height) next next_object in
    let all = array_again MAX_GROUPS layer_tier width height P
    (λ count l f g. layer_again MAX_GROUPS layer_tier next next_object width height count refl few few_objects l f g) 0 ls
    (Each-Fits (width * height) next next_object (all_drawn ls) h ids objects) (omega (arith, fits)) in
    rw all refl
