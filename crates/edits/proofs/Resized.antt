-- A document on the canvas of its new size.
use Rattle.std.proofs.Common.{◌≡◌, ℕ, ℤ, pos, negsuc, zero, suc, ◌+◌, ◌*◌, ◌≤◌, ◌≤ℤ◌, ◌*ℤ◌, ◌-ℤ◌, neg_ℤ, List, [], ◌∷◌, length, map, Bool, true, false}
use Rattle.std.proofs.Common.{cond, ◌&&◌, nat_lt, Option, Some, None, option_and_then, IfSome, refl, sym, ap, ◌∙◌, arith, length-append}
use Rattle.std.proofs.lemmas.Float.{T_from_true}
use Rattle.std.proofs.lemmas.Bool.{ltb-true}
use Rattle.std.specs.Int.Signed.{le_z_yes}
use Rattle.std.specs.Prelude.{int_le, slice_get, unsigned_abs}
use Rattle.std.specs.FinSet as set
use Rattle.std.specs.List.{list_all, flat_map, range_with_len}
use Rattle.std.specs.Option.{unwrap_or}
use Rattle.std.proofs.Math.IntN.{negsuc-*ℤ-pos}
use Rattle.std.proofs.Math.Nat.{mul-le-mul}
use Rattle.std.proofs.lemmas.Bool.Decides.{nat_tests}
use Rattle.std.proofs.lemmas.Int.{ints}
use Rattle.std.proofs.lemmas.List.{length-map, map-append}
use Rattle.std.proofs.lemmas.List.FromFn.{length-map-range_with_len}
use Rattle.region.specs.Cells.{cell_cmp, in_moved_cut, in_rectangle, has_at, rectangle}
use Rattle.region.specs.Equality.{cell_cmp_total}
use Rattle.region.proofs.Members.{cell_cmp-same, contains-rectangle}
use Rattle.map_model.specs.declared.canvas.Canvas.{Canvas}
use Rattle.map_model.specs.declared.limits.TheConstants.{MAX_GROUPS, MAX_PIXELS, MAX_TILE_SIDE}
use Rattle.map_model.specs.declared.parts.Body.{Body}
use Rattle.map_model.specs.declared.parts.Body.TheVariants.{Tiles, Objects}
use Rattle.map_model.specs.declared.parts.Layer.{Layer}
use Rattle.map_model.specs.declared.parts.Object.{Object}
use Rattle.map_model.specs.Bodies.{objects_in}
use Rattle.map_model.specs.Canvas.{lists_in, lists_of, tile_layers, with_canvas, IsShift, AreCells, MayBeDrawn, MayBeMoved, BodyMayBeMoved, IsCanvasOf}
use Rattle.map_model.specs.Document.{DocumentParts, IsDocument}
use Rattle.map_model.specs.Groups.{all_drawn}
use Rattle.map_model.specs.Keeping.{object_tier}
use Rattle.map_model.specs.Lists.{Each}
use Rattle.map_model.specs.WellFormed.{IsSize, IsTileValue, IsPixels, IsObject, IsBody, IsDrawn}
use Rattle.map_model.proofs.Listings.{Each-append}
use Rattle.edits.specs.Blocks.{ValueBlock, offset, value_in}
use Rattle.edits.specs.Resizing.{row, table, drawn_stays, each_under, value_at, layer_block, resized_values, pixels_right, pixels_down, are_pixels, stays}
use Rattle.edits.specs.Resizing.{all_stay, objects_stay, resized_layer, resized_selection, resized, IsDistance}
use Rattle.edits.proofs.ResizedTrees.{layer-with, layers-with}

-- ---- the values of a table
length-table : (f : ℕ → ℕ → ℕ) (width height : ℕ) → length (table f width height) ≡ width * height
length-table f width zero = omega arith
length-table f width (suc y) =
    let rest = length-table f width y in
    omega (arith, length-append (table f width y) (row f width y), length-map-range_with_len (λ x. f x y) 0 width, rest)

Each-map : {X Y : Type 0} (P : Y → Type 0) (f : X → Y) → ((x : X) → P (f x)) → (xs : List X) → Each P (map f xs)
Each-map P f h [] = tt
Each-map P f h (x ∷ xs) = (h x, Each-map P f h xs)

Each-table : (P : ℕ → Type 0) (f : ℕ → ℕ → ℕ) → ((x y : ℕ) → P (f x y)) → (width height : ℕ) → Each P (table f width height)
Each-table P f h width zero = tt
Each-table P f h width (suc y) =
    Each-append P (table f width y) (row f width y) (Each-table P f h width y) (Each-map P (λ x. f x y) (λ x. h x y) (range_with_len 0 width))

zero-range : IsTileValue 0
zero-range = omega arith

get-range : (values : List ℕ) (k : ℕ) → Each IsTileValue values → IsTileValue (unwrap_or (slice_get values k) 0)
get-range [] zero h = zero-range
get-range [] (suc k) h = zero-range
get-range (v ∷ values) zero h = h.0
get-range (v ∷ values) (suc k) h = get-range values k h.1

value-range : (block : ValueBlock) (x y : ℕ) → Each IsTileValue block.values → IsTileValue (value_at block x y)
value-range block x y h = by_columns (offset block.x x) (offset block.y y)
  where
    by_test : (b : Bool) (k : ℕ) → IsTileValue (unwrap_or (cond b (slice_get block.values k) None) 0)
    by_test false k = zero-range
    by_test true k = get-range block.values k h

    by_columns : (right down : Option ℕ) → IsTileValue (unwrap_or (option_and_then (λ r. option_and_then (λ d. value_in block r d) down) right) 0)
    by_columns None down = zero-range
    by_columns (Some r) None = zero-range
    by_columns (Some r) (Some d) = by_test (nat_lt r block.width) (d * block.width + r)

-- ---- what fits
layer-cells : (tier size more : ℕ) (f : List ℕ → List ℕ) → ((cells : List ℕ) → Each IsTileValue cells → AreCells more (f cells)) → (b : Body)
    → IsBody tier size b
    → Each (AreCells more) (map f (lists_in b))
layer-cells tier size more f good (Tiles e own) h = (good own h.1, tt)
layer-cells tier size more f good b h = tt

layers-cells : (size more : ℕ) (f : List ℕ → List ℕ) → ((cells : List ℕ) → Each IsTileValue cells → AreCells more (f cells)) → (ds : List (ℕ × Layer))
    → Each (IsDrawn size) ds
    → Each (AreCells more) (map f (flat_map lists_of ds))
layers-cells size more f good [] h = tt
layers-cells size more f good (d ∷ ds) h =
    rw (map-append f (lists_of d) (flat_map lists_of ds))
    (Each-append (AreCells more) (map f (lists_of d)) (map f (flat_map lists_of ds)) (layer-cells d.0 size more f good d.1.body h.0.body)
    (layers-cells size more f good ds h.1))

and-left : (a b : Bool) → (a && b) ≡ true → a ≡ true
and-left true b e = refl
and-left false b e = e

and-right : (a b : Bool) → (a && b) ≡ true → b ≡ true
and-right true b e = e
and-right false b e = cc

int_le-true : (a b : ℤ) → int_le a b ≡ true → a ≤ℤ b
int_le-true a b e = le_z_yes (T_from_true (int_le a b) e)

pixels-within : (o : Option ℤ) → are_pixels o ≡ true → IfSome o IsPixels
pixels-within None e = tt
pixels-within (Some z) e =
    record {
      low = int_le-true (neg_ℤ MAX_PIXELS) z (and-left (int_le (neg_ℤ MAX_PIXELS) z) (int_le z MAX_PIXELS) e);
      high = int_le-true z MAX_PIXELS (and-right (int_le (neg_ℤ MAX_PIXELS) z) (int_le z MAX_PIXELS) e);
    }

objects-may : (right down : ℤ) (tier : ℕ) (os : List Object) → Each (IsObject tier) os → list_all (stays right down) os ≡ true
    → Each (MayBeMoved right down) os
objects-may right down tier [] h e = tt
objects-may right down tier (o ∷ os) h e =
    let first = and-left (stays right down o) (list_all (stays right down) os) e in (
      record {
        x = pixels-within _ (and-left _ _ first);
        y = pixels-within _ (and-right _ _ first);
        width = h.0.placing.width;
        height = h.0.placing.height;
      },
      objects-may right down tier os h.1 (and-right (stays right down o) (list_all (stays right down) os) e),
    )

body-may : (right down : ℤ) (tier size : ℕ) (b : Body) → IsBody tier size b → all_stay right down (objects_in b) ≡ true → BodyMayBeMoved right down b
body-may right down tier size (Objects os) h stay = objects-may right down (object_tier tier) os h.1 stay
body-may right down tier size b h stay = tt

layers-may : (right down : ℤ) (size : ℕ) (ds : List (ℕ × Layer)) → Each (IsDrawn size) ds → list_all (drawn_stays right down) ds ≡ true
    → Each (MayBeDrawn right down) ds
layers-may right down size [] h stay = tt
layers-may right down size (d ∷ ds) h stay =
    let first = and-left (drawn_stays right down d) (list_all (drawn_stays right down) ds) stay in
    let rest = and-right (drawn_stays right down d) (list_all (drawn_stays right down) ds) stay in
    (body-may right down d.0 size d.1.body h.0.body first, layers-may right down size ds h.1 rest)

within-map : (width height : ℕ) (q : ℕ × ℕ) → (nat_lt q.0 width && nat_lt q.1 height) ≡ in_rectangle 0 0 width height q
within-map width height q = grind (arith, nat_tests)

-- ---- pixels
-- the most pixels, as a natural number
abbrev most : ℕ
most = unsigned_abs MAX_PIXELS

pub scaled-IsShift : (z : ℤ) (side : ℕ) → IsDistance z → side ≤ MAX_TILE_SIDE → IsShift (z *ℤ pos side)
scaled-IsShift (pos n) side h l =
    let few : n ≤ most = omega (arith, ints, h.high) in
    let product : n * side ≤ most * MAX_TILE_SIDE = mul-le-mul few l in
    record { low = omega (arith, ints); high = omega (arith, ints) }
scaled-IsShift (negsuc n) side h l =
    let few : suc n ≤ most = omega (arith, ints, h.low) in
    let product : suc n * side ≤ most * MAX_TILE_SIDE = mul-le-mul few l in
    rw (negsuc-*ℤ-pos n side) (record { low = omega (arith, ints); high = omega (arith, ints) })

-- ---- the canvas
module _ (d : DocumentParts) (width height : ℕ) (dx dy : ℤ) (lists : List (List ℕ)) (s : set.FinSet cell_cmp) (right down : ℤ)
    (laid : lists ≡ map (resized_values d.map width height dx dy) (tile_layers d.map))
    (cells : (q : ℕ × ℕ) → set.contains s q ≡ in_moved_cut d.selection dx dy width height q)
    (right_is : right ≡ pixels_right d.map dx) (down_is : down ≡ pixels_down d.map dy) where
  selection-is : s ≡ resized_selection width height dx dy d.selection
  selection-is = set.same_set cell_cmp_total cell_cmp-same s (resized_selection width height dx dy d.selection) (λ q.
      let old = λ (p : ℕ × ℕ). has_at d.selection (pos p.0 -ℤ dx) (pos p.1 -ℤ dy) in
      let retained = set.contains-retain (rectangle 0 0 width height) old q (λ p e. ap old (sym (cell_cmp-same q p e))) in
      cells q ∙ ap (λ b. b && old q) (within-map width height q ∙ sym (contains-rectangle 0 0 width height q)) ∙ sym retained)

  pub canvas-resized : with_canvas (record { width = width; height = height; layers = lists; selection = s; right = right; down = down }) d
      ≡ resized d width height dx dy
  canvas-resized =
      let c : Canvas = record { width = width; height = height; layers = lists; selection = s; right = right; down = down } in
      let on = layers-with c (resized_values d.map width height dx dy) MAX_GROUPS d.map.layers laid in
      let moved : map (each_under MAX_GROUPS (layer-with (resized_values d.map width height dx dy) right down)) d.map.layers
      ≡ map (each_under MAX_GROUPS (resized_layer d.map width height dx dy)) d.map.layers
      = λ i. map (each_under MAX_GROUPS (layer-with (resized_values d.map width height dx dy) (right_is i) (down_is i))) d.map.layers in
      λ i. record { map = record d.map { width = width; height = height; layers = (on ∙ moved) i }; selection = selection-is i }

  pub canvas-fits : IsDocument d → IsSize width height → objects_stay right down d.map ≡ true → IsShift right → IsShift down
      → IsCanvasOf d (record { width = width; height = height; layers = lists; selection = s; right = right; down = down })
  canvas-fits h size stay right_fits down_fits =
      let f = resized_values d.map width height dx dy in
      record {
        size = size;
        count = ap length laid ∙ length-map (tile_layers d.map) f;
        cells = rw laid (layers-cells (d.map.width * d.map.height) (width * height) f (λ own range. (
          length-table (value_at (layer_block d.map dx dy own)) width height,
          Each-table IsTileValue (value_at (layer_block d.map dx dy own)) (λ x y. value-range (layer_block d.map dx dy own) x y range) width height,
        ))
            (all_drawn d.map.layers) h.map.layers.each);
        selection = λ q one.
            let both = and-left (nat_lt q.0 width && nat_lt q.1 height) (has_at d.selection (pos q.0 -ℤ dx) (pos q.1 -ℤ dy)) (sym (cells q) ∙ one) in (
              ltb-true q.0 width (and-left (nat_lt q.0 width) (nat_lt q.1 height) both),
              ltb-true q.1 height (and-right (nat_lt q.0 width) (nat_lt q.1 height) both),
            );
        right = right_fits;
        down = down_fits;
        objects = layers-may right down (d.map.width * d.map.height) (all_drawn d.map.layers) h.map.layers.each stay;
      }
