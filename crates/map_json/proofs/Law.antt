-- What is written is read again: properties, objects, tilesets, layers and maps.
use Rattle.std.proofs.Common.{◌≡◌, ℕ, ◌-◌, ◌*◌, ◌^◌, ◌<◌, ◌≤◌, ℤ, pos, negsuc, eqb, eq-eqb, Bool, true, false, List, [], ◌∷◌, length, Option, Some, None}
use Rattle.std.proofs.Common.{Result, Ok, refl, ap, ◌∙◌, arith}
use Rattle.std.specs.Prelude.{nat_le, nat_lt, int_le, neg_ℤ, IfSome}
use Rattle.std.specs.Option.{option_map}
use Rattle.std.proofs.Math.Dec.{T}
use Rattle.std.proofs.lemmas.Bool.{lt-ltb, leb-true}
use Rattle.serde_json.specs.Data.{Data, null, boolean, number, string, array, object, Members}
use Rattle.serde_json.specs.Find.{get_member, of_integer}
use Rattle.map_model.specs.declared.names.TheConstants.{ID, NAME, TYPE, VISIBLE, PROPERTIES, WIDTH, HEIGHT, X, Y, GID, FIRST_ID, SOURCE, VALUE}
use Rattle.map_model.specs.declared.limits.TheConstants.{MAX_NEXT_ID, MAX_PROPERTIES, MAX_FIRST_ID, MAX_PIXELS}
use Rattle.map_model.specs.declared.parts.Encoding.{Encoding}
use Rattle.map_model.specs.declared.parts.Encoding.TheVariants.{Array, Base64}
use Rattle.map_model.specs.declared.parts.PropValue.{PropValue}
use Rattle.map_model.specs.declared.parts.PropValue.TheVariants as values
use Rattle.map_model.specs.declared.parts.Property.{Property}
use Rattle.map_model.specs.declared.parts.Placing.{Placing}
use Rattle.map_model.specs.declared.parts.Object.{Object}
use Rattle.map_model.specs.declared.parts.Tileset.{Tileset}
use Rattle.map_model.specs.Lists.{Each}
use Rattle.map_model.specs.Keeping.{IsOfAnotherKind, property_tier}
use Rattle.map_model.specs.Format.{property_names, object_names, tileset_names}
use Rattle.map_model.specs.WellFormed.{IsId, IsValue, IsProperty, AreProperties, IsPixels, IsPlacing, IsTileValue, IsObject, IsTileset}
use Rattle.json_members.specs.Members.{without_all}
use Rattle.map_json.specs.Members.{with_own}
use Rattle.refusals.specs.declared.map_refusal.MapRefusal.{MapRefusal}
use Rattle.map_values.specs.Presence.{optional, absent_means}
use Rattle.map_values.specs.Scalars.{whole_at, signed_at, text_at, truth_at, id_at, pixels_at}
use Rattle.map_json.specs.Elements.{elements_at}
use Rattle.map_json.specs.Reading.{value_of, property_at, placing_of, object_at, tileset_at, encoding_at, same_at, cells_at}
use Rattle.map_values.specs.Cells.{array_cells_at, base64_cells_at, bytes_of}
use Rattle.map_values.specs.Arrays.{whole_tree}
use Rattle.map_json.specs.Trees.{value_tree, property_own, property_tree, properties_member, object_own, object_tree, tileset_own, tileset_tree}
use Rattle.map_json.specs.Trees.{cells_tree, encoding_member}
use Rattle.map_json.proofs.Own.{get_member-with_own, without_all-with_own, or_else}
use Rattle.map_json.proofs.Again.{whole_again, elements_again, cells_again, length-bytes_of, words_again}
use Rattle.map_values.proofs.Words.{is_byte-from_IsBytes}
use Rattle.map_values.proofs.Base64.{decoded_again, IsBytes-bytes_of}
use Rattle.map_model.proofs.TilesetChanges.{Each-along}

-- ---- scalars
to_true : (b : Bool) → T b → b ≡ true
to_true true t = refl
to_true false t = absurd t

pub or_none : (o d : Option Data) → d ≡ None → or_else o d ≡ o
or_none None d e = e
or_none (Some x) d e = refl

held_number : (k n : ℕ) → nat_le n k ≡ true → k < 2 ^ 63 → nat_lt n (2 ^ 63) ≡ true
held_number k n e lt = let le = leb-true n k e in lt-ltb n (2 ^ 63) (omega arith)

pixels_again : (z : ℤ) → IsPixels z → pixels_at (number (of_integer z)) ≡ Ok z
unfolding signed_at
pixels_again (pos n) h =
    let high = to_true (int_le (pos n) MAX_PIXELS) h.high.le in
    rw (held_number 1000000000 n high (omega arith), high) refl
pixels_again (negsuc n) h =
    rw (to_true (int_le (neg_ℤ MAX_PIXELS) (negsuc n)) h.low.le) refl

optional_again : {A : Type 0} (P : A → Type 0) (tree : A → Data) (read : Data → Result A MapRefusal) → ((x : A) → P x → read (tree x) ≡ Ok x) → (o : Option A)
    → IfSome o P → optional read (option_map tree o) ≡ Ok o
optional_again P tree read again None h = refl
optional_again P tree read again (Some x) h = rw (again x h) refl

text_again : (o : Option (List ℕ)) → optional text_at (option_map string o) ≡ Ok o
unfolding text_at
text_again None = refl
text_again (Some s) = refl

truth_again : (o : Option Bool) → optional truth_at (option_map boolean o) ≡ Ok o
unfolding truth_at
truth_again None = refl
truth_again (Some b) = refl

gid_again : (n : ℕ) → IsTileValue n → whole_at 0 4294967295 (whole_tree n) ≡ Ok n
gid_again n h = let lt : n < 2 ^ 32 = h in whole_again 0 4294967295 n (omega arith) (omega arith)

pub id_again : (next n : ℕ) → next ≤ MAX_NEXT_ID → IsId next n → id_at (whole_tree n) ≡ Ok n
id_again next n few h = let low = h.low in let high = h.high in whole_again 1 (MAX_NEXT_ID - 1) n low (omega arith)

-- ---- properties
other_again : (d : Data) → IsOfAnotherKind d → value_of d ≡ values.Other d
other_again null h = refl
other_again (boolean b) h = absurd h
other_again (number n) h = rw h refl
other_again (string s) h = absurd h
other_again (array ds) h = refl
other_again (object ms) h = refl

value_again : (tier : ℕ) (v : PropValue) → IsValue tier v → value_of (value_tree v) ≡ v
value_again tier (values.Text s) h = refl
value_again tier (values.Whole (pos n)) h = rw (held_number (2 ^ 63 - 1) n (to_true (int_le (pos n) (pos (2 ^ 63 - 1))) h.high.le) (omega arith)) refl
value_again tier (values.Whole (negsuc n)) h = refl
value_again tier (values.Truth b) h = refl
value_again tier (values.Other d) h = other_again d h.kind

property_read : (p : Property) (ms : Members) → get_member NAME.now ms ≡ Some (string p.name) → get_member TYPE.now ms ≡ Some (string p.kind)
    → get_member VALUE.now ms ≡ Some (value_tree p.value)
    → value_of (value_tree p.value) ≡ p.value → without_all property_names ms ≡ p.kept → property_at (object ms) ≡ Ok p
unfolding property_at text_at
property_read p ms name kind value held kept = rw (name, kind, value, held, kept) refl

property_again : (tier : ℕ) (p : Property) → IsProperty tier p → property_at (property_tree p) ≡ Ok p
unfolding property_tree
property_again tier p h =
    let own = property_own p in
    property_read p (with_own own p.kept) (get_member-with_own NAME.now own p.kept) (get_member-with_own TYPE.now own p.kept)
    (get_member-with_own VALUE.now own p.kept)
    (value_again tier p.value h.value) (without_all-with_own own p.kept refl h.kept.unread)

pub properties_again : (tier : ℕ) (ps : List Property) → AreProperties tier ps
    → absent_means [] (elements_at MAX_PROPERTIES property_at) (properties_member ps) ≡ Ok ps
properties_again tier [] h = refl
properties_again tier (p ∷ ps) h =
    elements_again property_tree property_at MAX_PROPERTIES (p ∷ ps) h.few
    (Each-along (IsProperty (property_tier tier)) (λ q. property_at (property_tree q) ≡ Ok q) (property_again (property_tier tier)) (p ∷ ps) h.each)

-- ---- tilesets
tileset_read : (t : Tileset) (ms : Members) → get_member FIRST_ID.now ms ≡ Some (whole_tree t.first_id) → get_member SOURCE.now ms ≡ option_map string t.source
    → whole_at 1 MAX_FIRST_ID (whole_tree t.first_id) ≡ Ok t.first_id → without_all tileset_names ms ≡ t.kept → tileset_at (object ms) ≡ Ok t
unfolding tileset_at
tileset_read t ms first source first_ok kept = rw (first, first_ok, source, text_again t.source, kept) refl

pub tileset_again : (t : Tileset) → IsTileset t → tileset_at (tileset_tree t) ≡ Ok t
unfolding tileset_tree
tileset_again t h =
    let own = tileset_own t in
    tileset_read t (with_own own t.kept) (get_member-with_own FIRST_ID.now own t.kept)
    (get_member-with_own SOURCE.now own t.kept ∙ or_none (option_map string t.source) (get_member SOURCE.now t.kept) h.kept.unread.1.0)
    (whole_again 1 MAX_FIRST_ID t.first_id h.low h.high) (without_all-with_own own t.kept refl h.kept.unread)

-- ---- objects
abbrev pixels_tree : ℤ → Data
pixels_tree z = number (of_integer z)

placing_read : (p : Placing) (ms : Members) → get_member X.now ms ≡ option_map pixels_tree p.x → get_member Y.now ms ≡ option_map pixels_tree p.y
    → get_member WIDTH.now ms ≡ option_map pixels_tree p.width → get_member HEIGHT.now ms ≡ option_map pixels_tree p.height → IsPlacing p → placing_of ms ≡ Ok p
unfolding placing_of
placing_read p ms x y width height h =
    let again = optional_again IsPixels pixels_tree pixels_at pixels_again in
    rw (x, again p.x h.x, y, again p.y h.y, width, again p.width h.width, height, again p.height h.height) refl

object_read : (o : Object) (ms : Members) → get_member ID.now ms ≡ Some (whole_tree o.id) → placing_of ms ≡ Ok o.placing
    → get_member NAME.now ms ≡ option_map string o.name
    → get_member VISIBLE.now ms ≡ option_map boolean o.visible → get_member GID.now ms ≡ option_map whole_tree o.gid
    → get_member PROPERTIES.now ms ≡ properties_member o.properties
    → id_at (whole_tree o.id) ≡ Ok o.id → optional (whole_at 0 4294967295) (option_map whole_tree o.gid) ≡ Ok o.gid
    → absent_means [] (elements_at MAX_PROPERTIES property_at) (properties_member o.properties) ≡ Ok o.properties → without_all object_names ms ≡ o.kept
    → object_at (object ms) ≡ Ok o
unfolding object_at
object_read o ms id placing name visible gid properties id_ok gid_ok properties_ok kept =
    rw (id, id_ok, placing, name, text_again o.name, visible, truth_again o.visible, gid, gid_ok, properties, properties_ok, kept) refl

pub object_again : (tier : ℕ) (o : Object) → id_at (whole_tree o.id) ≡ Ok o.id → IsObject tier o → object_at (object_tree o) ≡ Ok o
unfolding object_tree
object_again tier o id_ok h =
    let own = object_own o in
    let kept = o.kept in
    let ms = with_own own kept in
    let lacks = h.kept.unread in
    object_read o ms (get_member-with_own ID.now own kept)
    (placing_read o.placing ms
    (get_member-with_own X.now own kept ∙ or_none (option_map pixels_tree o.placing.x) (get_member X.now kept) lacks.1.0)
    (get_member-with_own Y.now own kept ∙ or_none (option_map pixels_tree o.placing.y) (get_member Y.now kept) lacks.1.1.0)
    (get_member-with_own WIDTH.now own kept ∙ or_none (option_map pixels_tree o.placing.width) (get_member WIDTH.now kept) lacks.1.1.1.0)
    (get_member-with_own HEIGHT.now own kept ∙ or_none (option_map pixels_tree o.placing.height) (get_member HEIGHT.now kept) lacks.1.1.1.1.0)
    h.placing)
    (get_member-with_own NAME.now own kept ∙ or_none (option_map string o.name) (get_member NAME.now kept) lacks.1.1.1.1.1.0)
    (get_member-with_own VISIBLE.now own kept ∙ or_none (option_map boolean o.visible) (get_member VISIBLE.now kept) lacks.1.1.1.1.1.1.0)
    (get_member-with_own GID.now own kept ∙ or_none (option_map whole_tree o.gid) (get_member GID.now kept) lacks.1.1.1.1.1.1.1.0)
    (get_member-with_own PROPERTIES.now own kept ∙ or_none (properties_member o.properties) (get_member PROPERTIES.now kept) lacks.1.1.1.1.1.1.1.1.0)
    id_ok (optional_again IsTileValue whole_tree (whole_at 0 4294967295) gid_again o.gid h.gid) (properties_again tier o.properties h.properties)
    (without_all-with_own own kept refl lacks)

-- ---- cells
pub encoding_again : (e : Encoding) → absent_means Array encoding_at (encoding_member e) ≡ Ok e
unfolding encoding_at
encoding_again Array = refl
encoding_again Base64 = refl

count_again : (n m : ℕ) → n ≡ m → eqb n m ≡ true
count_again n m e = rw e (eq-eqb m m refl)

pub cells_tree_again : (e : Encoding) (count : ℕ) (cells : List ℕ) → length cells ≡ count → Each IsTileValue cells
    → cells_at e count (cells_tree e cells) ≡ Ok cells
unfolding array_cells_at base64_cells_at
cells_tree_again Array count cells len h = rw (cells_again cells h, count_again (length cells) count len) refl
cells_tree_again Base64 count cells len h =
    let whole : length (bytes_of cells) ≡ 4 * count = length-bytes_of cells ∙ ap (λ n. 4 * n) len in
    rw (
      decoded_again (bytes_of cells) (IsBytes-bytes_of cells),
      count_again (length (bytes_of cells)) (4 * count) whole,
      is_byte-from_IsBytes (bytes_of cells) (IsBytes-bytes_of cells),
      words_again cells h,
    ) refl

pub same_again : (n : ℕ) → same_at n (whole_tree n) ≡ Ok tt
unfolding same_at
same_again n = rw (count_again n n refl) refl
