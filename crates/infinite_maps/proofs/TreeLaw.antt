-- The layers of an infinite map, beside those of the finite one.
use Rattle.std.proofs.Common.{◌≡◌, ℕ, zero, suc, List, [], ◌∷◌, ◌++◌, Bool, true, Option, Some, None, option_map, Ordering, Less, Equal, Greater}
use Rattle.std.proofs.Common.{nat_cmp, codes, map, refl, sym, ap, ◌∙◌, subst, arith}
use Rattle.std.specs.Prelude.{ℤ, ◌+ℤ◌, unsigned_abs, FitsSigned, ◌^◌, ◌<◌, option_and_then, unwrap_or}
use Rattle.std.specs.Int.{w64, int_wrapping_add}
use Rattle.std.proofs.lemmas.Int.{ints, wrapping_add_is, int_wrap_fits, fits_signed_from_abs}
use Rattle.std.specs.Cmp.Lexicographic.{slice_cmp}
use Rattle.std.specs.Ordering.{match_ordering}
use Rattle.std.proofs.lemmas.List.{map-append}
use Rattle.serde_json.specs.Data.{Data, null, boolean, number, string, array, object, Items, no_items, item, Members, no_members, member}
use Rattle.serde_json.specs.Find.{get, at, get_item, get_member, as_number, as_i64, as_array, of_integer}
use Rattle.serde_json.specs.View.{items_of}
use Rattle.serde_json.proofs.Views.{get_member-put}
use Rattle.json_members.specs.Members.{without, put_some}
use Rattle.json_members.proofs.MembersLemmas.{same_name, get_member-without}
use Rattle.infinite_maps.specs.declared.plane.Plane.{Plane}
use Rattle.infinite_maps.specs.declared.part.Part.{Part}
use Rattle.infinite_maps.specs.declared.part.Part.TheVariants.{Layers, Objects, Across, Down, Rest}
use Rattle.infinite_maps.specs.Infinite.{below, moved_by, spread, items_spread, members_spread, note_of, with_size, map_by, infinite_of}
use Rattle.infinite_maps.specs.Notes.{mark, plane_of}
use Rattle.infinite_maps.specs.Wide.{wide, widened}
use Rattle.infinite_maps.specs.Layers.{chunk, chunks, no_cell, with_right_bounds, rest_of, layer_cells, layer_by, layer_of, is_text_at}
use Rattle.infinite_maps.specs.Layers.{old_rectangles, new_rectangles}
use Rattle.infinite_maps.specs.Laws.{CellsStand, chunks_of, layer_at, AreSpelled, old_chunks, object_at, pixels, LayerStays, AllLayersStay}
use Rattle.infinite_maps.proofs.ChunkPlaces.{number_read}
use Rattle.infinite_maps.proofs.Keeps.{put_keeps, put_some_keeps, layer_keeps, layers, objects}
use Rattle.infinite_maps.proofs.LayerLaw.{usual, chunks_stand}
use Rattle.infinite_maps.proofs.Widened.{IsUsual}

-- what is done to the map leaves its list of layers alone
size_keeps : (note : Data) (ms : Members) → get_member (codes "layers") (with_size note ms) ≡ get_member (codes "layers") ms
size_keeps note ms =
    let a = without mark ms in
    let b = without (codes "width") a in
    let c = without (codes "height") b in
    let d = put_some (codes "width") (get (codes "width") note) c in
    let e = put_some (codes "height") (get (codes "height") note) d in
    put_keeps (codes "layers") (codes "infinite") (boolean true) e refl
    ∙ (put_some_keeps (codes "layers") (codes "height") (get (codes "height") note) d refl
    ∙ (put_some_keeps (codes "layers") (codes "width") (get (codes "width") note) c refl
    ∙ (get_member-without (codes "layers") (codes "height") b refl
    ∙ (get_member-without (codes "layers") (codes "width") a refl ∙ get_member-without (codes "layers") mark ms refl))))

-- a member of what was spread is that member, spread
member_at : (o : Ordering) (p : Plane) (part : Part) (k l : List ℕ) (d : Data) (ms : Members) → slice_cmp nat_cmp k l ≡ o
    → get_member k (members_spread p part ms) ≡ option_map (spread p (below part k)) (get_member k ms)
    → match_ordering o (get_member k (members_spread p part ms)) (Some (spread p (below part l) d)) (get_member k (members_spread p part ms))
    ≡ option_map (spread p (below part k)) (match_ordering o (get_member k ms) (Some d) (get_member k ms))
member_at Less p part k l d ms is later = later
member_at Equal p part k l d ms is later = ap (λ n. Some (spread p (below part n) d)) (sym (same_name k l is))
member_at Greater p part k l d ms is later = later

pub get_member-spread : (p : Plane) (part : Part) (k : List ℕ) (ms : Members)
    → get_member k (members_spread p part ms) ≡ option_map (spread p (below part k)) (get_member k ms)
get_member-spread p part k no_members = refl
get_member-spread p part k (member l d ms) = member_at (slice_cmp nat_cmp k l) p part k l d ms refl (get_member-spread p part k ms)

pub get_item-spread : (p : Plane) (part : Part) (n : ℕ) (ds : Items) → get_item n (items_spread p part ds) ≡ option_map (spread p part) (get_item n ds)
get_item-spread p part n no_items = refl
get_item-spread p part zero (item d ds) = refl
get_item-spread p part (suc n) (item d ds) = get_item-spread p part n ds

pub at-spread : (p : Plane) (n : ℕ) (d : Data) → at n (spread p Layers d) ≡ option_map (spread p Layers) (at n d)
at-spread p n null = refl
at-spread p n (boolean b) = refl
at-spread p n (number m) = refl
at-spread p n (string s) = refl
at-spread p n (array ds) = get_item-spread p Layers n ds
at-spread p n (object ms) = refl

-- nothing else of a layer is changed
mutual
  rest_same : (p : Plane) (d : Data) → spread p Rest d ≡ d
  rest_same p null = refl
  rest_same p (boolean b) = refl
  rest_same p (number n) = refl
  rest_same p (string s) = refl
  rest_same p (array ds) = ap array (items_same p ds)
  rest_same p (object ms) = ap object (members_same p ms)

  items_same : (p : Plane) (ds : Items) → items_spread p Rest ds ≡ ds
  items_same p no_items = refl
  items_same p (item d ds) = ap (λ e. item e (items_spread p Rest ds)) (rest_same p d) ∙ ap (item d) (items_same p ds)

  members_same : (p : Plane) (ms : Members) → members_spread p Rest ms ≡ ms
  members_same p no_members = refl
  members_same p (member k d ms) = ap (λ e. member k e (members_spread p Rest ms)) (rest_same p d) ∙ ap (member k d) (members_same p ms)

rest_same_option : (p : Plane) (o : Option Data) → option_map (spread p Rest) o ≡ o
rest_same_option p None = refl
rest_same_option p (Some d) = ap Some (rest_same p d)

-- the list of layers
pub get-spread : (p : Plane) (d : Data) → get (codes "layers") (spread p Layers d) ≡ option_map (spread p Layers) (get (codes "layers") d)
get-spread p null = refl
get-spread p (boolean b) = refl
get-spread p (number n) = refl
get-spread p (string s) = refl
get-spread p (array ds) = refl
get-spread p (object ms) = layer_keeps (codes "layers") layers p (members_spread p Layers ms) ∙ get_member-spread p Layers (codes "layers") ms

then_spread : (p : Plane) (n : ℕ) (o : Option Data)
    → option_and_then (at n) (option_map (spread p Layers) o) ≡ option_map (spread p Layers) (option_and_then (at n) o)
then_spread p n None = refl
then_spread p n (Some d) = at-spread p n d

further : (f : Data → Option Data) (g : Data → Data) (o : Option Data) → ((d : Data) → f (g d) ≡ option_map g (f d))
    → option_and_then f (option_map g o) ≡ option_map g (option_and_then f o)
further f g None h = refl
further f g (Some d) h = h d

layer_at-spread : (p : Plane) (path : List ℕ) (d : Data) → layer_at path (spread p Layers d) ≡ option_map (spread p Layers) (layer_at path d)
layer_at-spread p [] d = refl
layer_at-spread p (n ∷ ns) d =
    ap (λ o. option_and_then (layer_at ns) (option_and_then (at n) o)) (get-spread p d)
    ∙ (ap (option_and_then (layer_at ns)) (then_spread p n (get (codes "layers") d))
    ∙ further (layer_at ns) (spread p Layers) (option_and_then (at n) (get (codes "layers") d)) (layer_at-spread p ns))

-- the layers of the infinite map are those of the finite one, spread
pub layers_spread : (ms : Members) (note : Data) (n : ℕ) (path : List ℕ) → note_of ms ≡ Some note
    → option_and_then (layer_at (n ∷ path)) (infinite_of (object ms)) ≡ option_map (spread (plane_of ms note) Layers) (layer_at (n ∷ path) (object ms))
layers_spread ms note n path e =
    let p = plane_of ms note in
    let all = members_spread p Layers ms in
    ap (λ o. option_and_then (layer_at (n ∷ path)) (map_by ms o)) e
    ∙ (ap (λ o. option_and_then (layer_at path) (option_and_then (at n) o)) (size_keeps note all ∙ get_member-spread p Layers (codes "layers") ms)
    ∙ (ap (option_and_then (layer_at path)) (then_spread p n (get_member (codes "layers") ms))
    ∙ further (layer_at path) (spread p Layers) (option_and_then (at n) (get_member (codes "layers") ms)) (layer_at-spread p path)))

-- objects are moved
at-objects : (p : Plane) (n : ℕ) (d : Data) → at n (spread p Objects d) ≡ option_map (spread p Objects) (at n d)
at-objects p n null = refl
at-objects p n (boolean b) = refl
at-objects p n (number m) = refl
at-objects p n (string s) = refl
at-objects p n (array ds) = get_item-spread p Objects n ds
at-objects p n (object ms) = refl

then_objects : (p : Plane) (n : ℕ) (o : Option Data)
    → option_and_then (at n) (option_map (spread p Objects) o) ≡ option_map (spread p Objects) (option_and_then (at n) o)
then_objects p n None = refl
then_objects p n (Some d) = at-objects p n d

objects_spread : (p : Plane) (n : ℕ) (ms : Members) → object_at n (layer_of p (members_spread p Layers ms)) ≡ option_map (spread p Objects) (object_at n ms)
objects_spread p n ms =
    ap (option_and_then (at n)) (layer_keeps (codes "objects") objects p (members_spread p Layers ms) ∙ get_member-spread p Layers (codes "objects") ms)
    ∙ then_objects p n (get_member (codes "objects") ms)

moved_sum : (z by : ℤ) → unsigned_abs z < 2 ^ 61 → unsigned_abs by < 2 ^ 61 → as_i64 (of_integer (int_wrapping_add w64 z by)) ≡ Some (z +ℤ by)
moved_sum z by near small =
    let a : FitsSigned w64 z = fits_signed_from_abs w64 z (omega (arith, ints)) in
    let b : FitsSigned w64 by = fits_signed_from_abs w64 by (omega (arith, ints)) in
    let c : FitsSigned w64 (z +ℤ by) = fits_signed_from_abs w64 (z +ℤ by) (omega (arith, ints)) in
    let h : unsigned_abs (z +ℤ by) < 2 ^ 62 = omega (arith, ints) in
    ap (λ y. as_i64 (of_integer y)) (wrapping_add_is w64 z by a b ∙ int_wrap_fits w64 (z +ℤ by) c) ∙ number_read (z +ℤ by) h

across_moved : (p : Plane) (d : Data) (z : ℤ) → option_and_then as_i64 (as_number d) ≡ Some z → unsigned_abs z < 2 ^ 61 → unsigned_abs p.moved_x < 2 ^ 61
    → option_and_then as_i64 (as_number (spread p Across d)) ≡ Some (z +ℤ p.moved_x)
across_moved p null z e near small = absurd cc
across_moved p (boolean b) z e near small = absurd cc
across_moved p (number n) z e near small = ap (λ o. option_and_then as_i64 (as_number (moved_by p.moved_x n o))) e ∙ moved_sum z p.moved_x near small
across_moved p (string s) z e near small = absurd cc
across_moved p (array ds) z e near small = absurd cc
across_moved p (object ms) z e near small = absurd cc

down_moved : (p : Plane) (d : Data) (z : ℤ) → option_and_then as_i64 (as_number d) ≡ Some z → unsigned_abs z < 2 ^ 61 → unsigned_abs p.moved_y < 2 ^ 61
    → option_and_then as_i64 (as_number (spread p Down d)) ≡ Some (z +ℤ p.moved_y)
down_moved p null z e near small = absurd cc
down_moved p (boolean b) z e near small = absurd cc
down_moved p (number n) z e near small = ap (λ o. option_and_then as_i64 (as_number (moved_by p.moved_y n o))) e ∙ moved_sum z p.moved_y near small
down_moved p (string s) z e near small = absurd cc
down_moved p (array ds) z e near small = absurd cc
down_moved p (object ms) z e near small = absurd cc

get-object : (p : Plane) (name : List ℕ) (part : Part) → below Objects name ≡ part → (d : Data)
    → get name (spread p Objects d) ≡ option_map (spread p part) (get name d)
get-object p name part is null = refl
get-object p name part is (boolean b) = refl
get-object p name part is (number n) = refl
get-object p name part is (string s) = refl
get-object p name part is (array ds) = refl
get-object p name part is (object ms) = get_member-spread p Objects name ms ∙ ap (λ q. option_map (spread p q) (get_member name ms)) is

-- a layer with a cell for each cell of the map
chunks_put : (p : Plane) (ms : Members) (cells : List ℕ) → layer_cells p (get_member (codes "data") ms) ≡ Some cells
    → chunks_of (layer_of p ms) ≡ (let olds = old_rectangles p (get_member mark ms) in
    items_of (map (chunk (wide p) (is_text_at (get_member (codes "data") ms)) (widened p cells)) (olds ++ new_rectangles (wide p) (widened p cells) olds)))
unfolding layer_of
chunks_put p ms cells e =
    let note = get_member mark ms in
    let olds = old_rectangles p note in
    let text = is_text_at (get_member (codes "data") ms) in
    let news = new_rectangles (wide p) (widened p cells) olds in
    ap (λ o. chunks_of (layer_by p o ms)) e
    ∙ ap (λ o. unwrap_or (option_and_then as_array o) no_items)
    (get_member-put (codes "chunks") (chunks (wide p) text (widened p cells) (olds ++ news))
    (with_right_bounds (wide p) (no_cell p) note (olds ++ news) news (rest_of ms)))

cells_stand : (p : Plane) (ms : Members) (cells : List ℕ) → IsUsual p → layer_cells p (get_member (codes "data") ms) ≡ Some cells
    → AreSpelled (get_member (codes "data") ms) cells → CellsStand p cells (chunks_of (layer_of p ms))
cells_stand p ms cells u e words =
    subst (λ (items : Items). CellsStand p cells items) (sym (chunks_put p ms cells e))
    (chunks_stand p (is_text_at (get_member (codes "data") ms)) cells (get_member mark ms) u words)

-- the chunks that it had come first
first_chunks : (p : Plane) (all layer : Members) (cells : List ℕ) → get_member (codes "data") all ≡ get_member (codes "data") layer
    → get_member mark all ≡ get_member mark layer → layer_cells p (get_member (codes "data") layer) ≡ Some cells
    → (more : List Data) × (chunks_of (layer_of p all) ≡ items_of (old_chunks p layer cells ++ more))
first_chunks p all layer cells data_same note_same is =
    let note = get_member mark all in
    let olds = old_rectangles p note in
    let news = new_rectangles (wide p) (widened p cells) olds in
    let made = λ (text : Bool). chunk (wide p) text (widened p cells) in
    let text = is_text_at (get_member (codes "data") all) in
    let put' = chunks_put p all cells (ap (layer_cells p) data_same ∙ is) in
    let parts : chunks_of (layer_of p all) ≡ items_of (map (made text) olds ++ map (made text) news) = put' ∙ ap items_of (map-append (made text) olds news) in
    let same : old_chunks p all cells ≡ old_chunks p layer cells =
    ap (λ o. map (made (is_text_at o)) olds) data_same ∙ ap (λ o. map (made (is_text_at (get_member (codes "data") layer))) (old_rectangles p o)) note_same in
    (map (made text) news, parts ∙ ap (λ ds. items_of (ds ++ map (made text) news)) same)

-- a number of pixels of an object
pixels_by : (name : List ℕ) (p : Plane) (part : Part) (f : ℤ → ℤ) (n : ℕ) (layer : Members) (z : ℤ) → below Objects name ≡ part
    → ((d : Data) → option_and_then as_i64 (as_number d) ≡ Some z → option_and_then as_i64 (as_number (spread p part d)) ≡ Some (f z))
    → pixels name n layer ≡ Some z → pixels name n (layer_of p (members_spread p Layers layer)) ≡ Some (f z)
pixels_by name p part f n layer z is move e =
    let numbers = λ (o : Option Data). option_and_then as_i64 (option_and_then as_number o) in
    let IsMoved = λ (o : Option Data). numbers o ≡ Some z → numbers (option_map (spread p part) o) ≡ Some (f z) in
    let then_moved : (o : Option Data) → IsMoved o = λ o. elim o as IsMoved [
      | None ↦ λ e. absurd cc
      | Some d ↦ λ e. move d e
    ] in
    let IsSpread = λ (o : Option Data).
    option_and_then (get name) (option_map (spread p Objects) o) ≡ option_map (spread p part) (option_and_then (get name) o) in
    let of_object : (o : Option Data) → IsSpread o = λ o. elim o as IsSpread [
      | None ↦ refl
      | Some d ↦ get-object p name part is d
    ] in
    ap (λ o. numbers (option_and_then (get name) o)) (objects_spread p n layer)
    ∙ (ap numbers (of_object (object_at n layer)) ∙ then_moved (option_and_then (get name) (object_at n layer)) e)

pub all_layers_stay : AllLayersStay
all_layers_stay ms note e near n path layer at-layer =
    let p = plane_of ms note in
    let all = members_spread p Layers layer in
    let data_same : get_member (codes "data") all ≡ get_member (codes "data") layer =
    get_member-spread p Layers (codes "data") layer ∙ rest_same_option p (get_member (codes "data") layer) in
    let note_same : get_member mark all ≡ get_member mark layer =
    get_member-spread p Layers mark layer ∙ rest_same_option p (get_member mark layer) in
    let stays : LayerStays p layer (layer_of p all) = record {
      cells = λ cells is words.
          let is' : layer_cells p (get_member (codes "data") all) ≡ Some cells = ap (layer_cells p) data_same ∙ is in
          let words' : AreSpelled (get_member (codes "data") all) cells = subst (λ (o : Option Data). AreSpelled o cells) (sym data_same) words in
          cells_stand p all cells (usual ms note near) is' words';
      first = λ cells is. first_chunks p all layer cells data_same note_same is;
      across = λ k z is short by. pixels_by (codes "x") p Across (λ z. z +ℤ p.moved_x) k layer z refl (λ d f. across_moved p d z f short by) is;
      down = λ k z is short by. pixels_by (codes "y") p Down (λ z. z +ℤ p.moved_y) k layer z refl (λ d f. down_moved p d z f short by) is;
    } in
    (layer_of p all, (layers_spread ms note n path e ∙ ap (option_map (spread p Layers)) at-layer, stays))
