-- The cells of a layer that takes what an edit puts over them.
use Rattle.std.proofs.Common.{◌≡◌, ℕ, zero, suc, ◌+◌, ◌*◌, ◌/◌, ◌%◌, ◌<◌, List, [], ◌∷◌, nat_lt, ◌&&◌, Bool, true, false, cond, Option, Some, None, option_map}
use Rattle.std.proofs.Common.{option_and_then, refl, sym, ap, ◌∙◌, arith}
use Rattle.std.specs.List.{slice_get}
use Rattle.std.proofs.lemmas.Nat.{mod-mul-add, div-mul-add}
use Rattle.std.proofs.lemmas.Bool.Decides.{nat_tests}
use Rattle.map_model.specs.declared.limits.TheConstants.{MAX_GROUPS}
use Rattle.map_model.specs.declared.parts.Body.{Body}
use Rattle.map_model.specs.declared.parts.Body.TheVariants.{Tiles}
use Rattle.map_model.specs.declared.parts.Layer.{Layer}
use Rattle.map_model.specs.declared.parts.MapParts.{MapParts}
use Rattle.map_model.specs.Bodies.{body_with_tiles, tile_at}
use Rattle.map_model.specs.Lookups.{cell_of, layer_of, layer_with_tiles}
use Rattle.map_model.proofs.TreeChanges.{layer_among-change_among}
use Rattle.edits.specs.Covering.{covered, covered_map, covered_value, each_at}

-- ---- lists
each_from : (f : ℕ → ℕ → ℕ) (n : ℕ) (vs : List ℕ) (k : ℕ) → slice_get (each_at f n vs) k ≡ option_map (f (n + k)) (slice_get vs k)
each_from f n [] zero = refl
each_from f n [] (suc k) = refl
each_from f n (v ∷ vs) zero = let at : n ≡ n + 0 = omega arith in ap (λ m. Some (f m v)) at
each_from f n (v ∷ vs) (suc k) = let at : suc n + k ≡ n + suc k = omega arith in each_from f (suc n) vs k ∙ ap (λ m. option_map (f m) (slice_get vs k)) at

covered-at : (w x y : ℕ) (over : ℕ → ℕ → Option ℕ) (vs : List ℕ) → x < w
    → slice_get (covered w over vs) (y * w + x) ≡ option_map (covered_value (over x y)) (slice_get vs (y * w + x))
covered-at w x y over vs l =
    each_from (λ number old. covered_value (over (number % w) (number / w)) old) 0 vs (y * w + x)
    ∙ (let at : 0 + (y * w + x) ≡ y * w + x = omega arith in
    ap (λ m. option_map (λ old. covered_value (over (m % w) (m / w)) old) (slice_get vs (y * w + x))) at)
    ∙ ap (λ n. option_map (covered_value (over n ((y * w + x) / w))) (slice_get vs (y * w + x))) (mod-mul-add y w x l)
    ∙ ap (λ n. option_map (covered_value (over x n)) (slice_get vs (y * w + x))) (div-mul-add y w x l)

-- ---- the cell of the layer
pub cell-covered : (layer : ℕ) (over : ℕ → ℕ → Option ℕ) (m : MapParts) (x y : ℕ)
    → cell_of (covered_map layer over m) layer x y ≡ option_map (covered_value (over x y)) (cell_of m layer x y)
cell-covered layer over m x y = by_tests (nat_lt x m.width) (nat_lt y m.height) refl
  where
    by_body : x < m.width → (b : Body) → tile_at (body_with_tiles (covered m.width over) b) (y * m.width + x)
        ≡ option_map (covered_value (over x y)) (tile_at b (y * m.width + x))
    by_body l (Tiles e cells) = covered-at m.width x y over cells l
    by_body l b = refl

    by_layer : x < m.width → (o : Option Layer)
        → option_and_then (λ l. tile_at l.body (y * m.width + x)) (option_map (layer_with_tiles (covered m.width over)) o)
        ≡ option_map (covered_value (over x y)) (option_and_then (λ l. tile_at l.body (y * m.width + x)) o)
    by_layer l None = refl
    by_layer l (Some k) = by_body l k.body

    by_tests : (a b : Bool) → nat_lt x m.width ≡ a
        → cond (a && b) (option_and_then (λ l. tile_at l.body (y * m.width + x)) (layer_of (covered_map layer over m) layer)) None
        ≡ option_map (covered_value (over x y)) (cond (a && b) (option_and_then (λ l. tile_at l.body (y * m.width + x)) (layer_of m layer)) None)
    by_tests true true e =
        let within : x < m.width = grind (arith, nat_tests) in
        ap (option_and_then (λ l. tile_at l.body (y * m.width + x)))
        (layer_among-change_among layer (layer_with_tiles (covered m.width over)) (λ l. refl) MAX_GROUPS m.layers)
        ∙ by_layer within (layer_of m layer)
    by_tests true false e = refl
    by_tests false b e = refl

-- ---- what stays
-- a look-up through what is read of a layer
pub then-kept : {X Y : Type 0} (k : X → Option Y) (a b : Option X) → option_map k a ≡ option_map k b → option_and_then k a ≡ option_and_then k b
then-kept {X = X} {Y = Y} k a b e = flat a ∙ ap joined e ∙ sym (flat b)
  where
    joined : Option (Option Y) → Option Y
    joined None = None
    joined (Some o) = o

    flat : (o : Option X) → option_and_then k o ≡ joined (option_map k o)
    flat None = refl
    flat (Some x) = refl
