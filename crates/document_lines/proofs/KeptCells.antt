-- Maps of which one layer has changed: the ids of their layers, and the cells that stay.
use Rattle.std.proofs.Common.{◌≡◌, ℕ, ◌+◌, ◌*◌, List, [], ◌∷◌, ◌++◌, nat_eq, nat_lt, ◌&&◌, Bool, true, false, cond, find, Option, Some, None}
use Rattle.std.proofs.Common.{option_map, option_and_then, refl, sym, ap, ◌∙◌}
use Rattle.std.specs.List.{flat_map}
use Rattle.map_model.specs.declared.limits.TheConstants.{MAX_GROUPS}
use Rattle.map_model.specs.declared.parts.Body.{Body}
use Rattle.map_model.specs.declared.parts.Body.TheVariants.{Group'}
use Rattle.map_model.specs.declared.parts.Layer.{Layer}
use Rattle.map_model.specs.declared.parts.MapParts.{MapParts}
use Rattle.map_model.specs.Bodies.{tile_at}
use Rattle.map_model.specs.Groups.{all_drawn, body_with_layers, change_among, has_id, inside}
use Rattle.map_model.specs.Keeping.{layer_tier}
use Rattle.map_model.specs.Lists.{or_else}
use Rattle.map_model.specs.Lookups.{cell_of, layer_of, with_layer}
use Rattle.map_model.specs.Properties.{is_drawn_with}
use Rattle.map_model.specs.WellFormed.{ids_of, layer_ids}
use Rattle.map_model.proofs.Keeps.{layer-Stands, own-IsReplaced}
use Rattle.map_model.proofs.Listings.{IsReplaced, flat-IsReplaced}
use Rattle.map_model.proofs.Trees.{below, change_among-none, none_among}

-- ---- what is found in a list of which one element has changed
found-append : {X Y : Type 0} (p : X → Bool) (t : X → Y) (xs ys : List X)
    → option_map t (find p (xs ++ ys)) ≡ or_else (option_map t (find p xs)) (option_map t (find p ys))
found-append p t [] ys = refl
found-append p t (x ∷ xs) ys =
    elim (p x) as (λ b. option_map t (cond b (Some x) (find p (xs ++ ys))) ≡ or_else (option_map t (cond b (Some x) (find p xs))) (option_map t (find p ys)))
    [ true ↦ refl | false ↦ found-append p t xs ys ]

found-replaced : {X Y : Type 0} (p : X → Bool) (t : X → Y) {prefix rest xs ys : List X} {x y : X} → IsReplaced prefix (x ∷ []) (y ∷ []) rest xs ys
    → p y ≡ p x → (p x ≡ true → t y ≡ t x) → option_map t (find p ys) ≡ option_map t (find p xs)
found-replaced p t {prefix = prefix} {rest = rest} {x = x} {y = y} r same found =
    ap (λ zs. option_map t (find p zs)) r.now ∙ found-append p t prefix (y ∷ rest)
    ∙ ap (or_else (option_map t (find p prefix))) (rw same (one (p x) refl))
    ∙ sym (found-append p t prefix (x ∷ rest)) ∙ ap (λ zs. option_map t (find p zs)) (sym r.was)
  where
    one : (b : Bool) → p x ≡ b → option_map t (cond b (Some y) (find p rest)) ≡ option_map t (cond b (Some x) (find p rest))
    one true e = ap Some (found e)
    one false e = refl

-- ---- a value of the layer with an id, where it is a tile layer: the one of the layer that is drawn with the id
abbrev value_in : ℕ → ℕ → MapParts → Option ℕ
value_in number id m = option_and_then (λ l. tile_at l.body number) (layer_of m id)

tile_at-bare : (number : ℕ) (b : Body) → tile_at (body_with_layers (λ ls. []) b) number ≡ tile_at b number
tile_at-bare number (Group' s r) = refl
tile_at-bare number b = refl

abbrev flat : {Y : Type 0} → Option (Option Y) → Option Y
flat o = option_and_then (λ p. p) o

value_in-drawn : (number id : ℕ) (m : MapParts)
    → value_in number id m ≡ flat (option_map (λ d. tile_at d.1.body number) (find (is_drawn_with id) (all_drawn m.layers)))
value_in-drawn number id m = by_layer (layer_of m id) refl
  where
    by_layer : (o : Option Layer) → layer_of m id ≡ o
        → option_and_then (λ l. tile_at l.body number) o ≡ flat (option_map (λ d. tile_at d.1.body number) (find (is_drawn_with id) (all_drawn m.layers)))
    by_layer None e = rw (none_among id MAX_GROUPS layer_tier m.layers e) refl
    by_layer (Some l) e = rw ((layer-Stands m id l e).first) (sym (tile_at-bare number l.body))

-- ---- a change of one layer that keeps its id and what stands in it
module _ (own : ℕ) (f : Layer → Layer) (ids : (l : Layer) → (f l).id ≡ l.id) (inner : (l : Layer) → inside (f l) ≡ inside l) (m : MapParts) where
  -- the ids of all layers stay
  pub layer_ids-with_layer : layer_ids (with_layer own f m).layers ≡ layer_ids m.layers
  layer_ids-with_layer = by_layer (layer_of m own) refl
    where
      by_layer : (o : Option Layer) → layer_of m own ≡ o → layer_ids (change_among own MAX_GROUPS f m.layers) ≡ layer_ids m.layers
      by_layer None e = ap layer_ids (change_among-none own MAX_GROUPS f m.layers e)
      by_layer (Some l) e =
          let s = layer-Stands m own l e in
          let r = flat-IsReplaced ids_of (own-IsReplaced s f (inner l)) in
          r.now ∙ ap (λ id. flat_map ids_of s.prefix ++ ((id ∷ []) ++ flat_map ids_of (below s.own_groups s.own_tier l ++ s.rest))) (ids l) ∙ sym r.was

  value_in-with_layer : (number id : ℕ) → ((l : Layer) → has_id own l ≡ true → has_id id l ≡ true → tile_at (f l).body number ≡ tile_at l.body number)
      → value_in number id (with_layer own f m) ≡ value_in number id m
  value_in-with_layer number id same = by_layer (layer_of m own) refl
    where
      by_layer : (o : Option Layer) → layer_of m own ≡ o → value_in number id (with_layer own f m) ≡ value_in number id m
      by_layer None e = ap (λ ls. value_in number id (record m { layers = ls })) (change_among-none own MAX_GROUPS f m.layers e)
      by_layer (Some l) e =
          let s = layer-Stands m own l e in
          value_in-drawn number id (with_layer own f m)
          ∙ ap flat (found-replaced (is_drawn_with id) (λ d. tile_at d.1.body number) (own-IsReplaced s f (inner l)) (ap (λ n. nat_eq n id) (ids l))
          (λ here. tile_at-bare number (f l).body ∙ same l s.has here ∙ sym (tile_at-bare number l.body)))
          ∙ sym (value_in-drawn number id m)

  -- a cell stays, where its layer is another one or keeps its value
  pub cell_of-with_layer : (id x y : ℕ)
      → (nat_lt x m.width ≡ true → nat_lt y m.height ≡ true → (l : Layer) → has_id own l ≡ true → has_id id l ≡ true
      → tile_at (f l).body (y * m.width + x) ≡ tile_at l.body (y * m.width + x))
      → cell_of (with_layer own f m) id x y ≡ cell_of m id x y
  cell_of-with_layer id x y same = by_test (nat_lt x m.width) (nat_lt y m.height) same
    where
      by_test : (a b : Bool) → (a ≡ true → b ≡ true → (l : Layer) → has_id own l ≡ true → has_id id l ≡ true
          → tile_at (f l).body (y * m.width + x) ≡ tile_at l.body (y * m.width + x))
          → cond (a && b) (value_in (y * m.width + x) id (with_layer own f m)) None ≡ cond (a && b) (value_in (y * m.width + x) id m) None
      by_test true true k = value_in-with_layer (y * m.width + x) id (k refl refl)
      by_test true false k = refl
      by_test false b k = refl
