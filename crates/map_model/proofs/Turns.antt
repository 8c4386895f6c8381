-- Changes of the values of one layer, one after another.
use Rattle.std.proofs.Common.{◌≡◌, ℕ, List, Option, Some, None, IsSomeAnd, option_map, refl, sym, ap, ◌∙◌, subst}
use Rattle.map_model.specs.declared.limits.TheConstants.{MAX_GROUPS}
use Rattle.map_model.specs.declared.parts.Body.{Body}
use Rattle.map_model.specs.declared.parts.Body.TheVariants.{Tiles}
use Rattle.map_model.specs.declared.parts.Layer.{Layer}
use Rattle.map_model.specs.declared.parts.MapParts.{MapParts}
use Rattle.map_model.specs.Bodies.{IsTiles, body_with_tiles, tiles_of}
use Rattle.map_model.specs.Lookups.{layer_of, HasTiles, tiles_of_layer, tiles_in, layer_with_tiles, with_tiles}
use Rattle.map_model.proofs.BodyLaws.{body_with_contents-same, body_with_contents-twice}
use Rattle.map_model.proofs.TreeChanges.{layer_among-change_among, change_among-change_among, change_among-along, change_among-same}

-- ---- bodies
body-along : (f g : List ℕ → List ℕ) (b : Body) → f (tiles_of b) ≡ g (tiles_of b) → body_with_tiles f b ≡ body_with_tiles g b
body-along f g (Tiles e cells) h = ap (Tiles e) h
body-along f g b h = refl

tiles_of-body : (f : List ℕ → List ℕ) (b : Body) → IsTiles b → tiles_of (body_with_tiles f b) ≡ f (tiles_of b)
tiles_of-body f (Tiles e cells) h = refl
tiles_of-body f b h = absurd h

IsTiles-body : (f : List ℕ → List ℕ) (b : Body) → IsTiles b → IsTiles (body_with_tiles f b)
IsTiles-body f (Tiles e cells) h = tt
IsTiles-body f b h = h

-- ---- maps
found_after : (m : MapParts) (id : ℕ) (f : List ℕ → List ℕ) → layer_of (with_tiles m id f) id ≡ option_map (layer_with_tiles f) (layer_of m id)
found_after m id f = layer_among-change_among id (layer_with_tiles f) (λ l. refl) MAX_GROUPS m.layers

-- one change after another is one change
pub with_tiles-with_tiles : (m : MapParts) (id : ℕ) (f g : List ℕ → List ℕ) → with_tiles (with_tiles m id g) id f ≡ with_tiles m id (λ vs. f (g vs))
with_tiles-with_tiles m id f g =
    ap (λ ls. record m { layers = ls }) (
    change_among-change_among id (layer_with_tiles g) (λ l. refl) MAX_GROUPS (layer_with_tiles f) m.layers
    ∙ change_among-along id (λ l. layer_with_tiles f (layer_with_tiles g l)) (layer_with_tiles (λ vs. f (g vs))) MAX_GROUPS m.layers
    (λ l e. ap (λ b. record l { body = b }) (body_with_contents-twice f (λ os. os) g (λ os. os) l.body))
    )

-- two changes that agree on the values of the layer
pub with_tiles-along : (m : MapParts) (id : ℕ) (f g : List ℕ → List ℕ) → f (tiles_in m id) ≡ g (tiles_in m id) → with_tiles m id f ≡ with_tiles m id g
with_tiles-along m id f g h =
    ap (λ ls. record m { layers = ls }) (
    change_among-along id (layer_with_tiles f) (layer_with_tiles g) MAX_GROUPS m.layers
    (λ l e. ap (λ b. record l { body = b }) (body-along f g l.body
    (let P : Option Layer → Type 0 = λ o. f (tiles_of_layer o) ≡ g (tiles_of_layer o) in subst P e h)))
    )

pub with_tiles-same : (m : MapParts) (id : ℕ) → with_tiles m id (λ vs. vs) ≡ m
with_tiles-same m id =
    ap (λ ls. record m { layers = ls }) (
    change_among-along id (layer_with_tiles (λ vs. vs)) (λ l. l) MAX_GROUPS m.layers (λ l e. ap (λ b. record l { body = b }) (body_with_contents-same l.body))
    ∙ change_among-same id MAX_GROUPS m.layers
    )

pub tiles_in-with_tiles : (m : MapParts) (id : ℕ) (f : List ℕ → List ℕ) → HasTiles m id → tiles_in (with_tiles m id f) id ≡ f (tiles_in m id)
tiles_in-with_tiles m id f h = ap tiles_of_layer (found_after m id f) ∙ by_layer (layer_of m id) h
  where
    by_layer : (o : Option Layer) → IsSomeAnd o (λ l. IsTiles l.body) → tiles_of_layer (option_map (layer_with_tiles f) o) ≡ f (tiles_of_layer o)
    by_layer None q = absurd q
    by_layer (Some l) q = tiles_of-body f l.body q

pub HasTiles-with_tiles : (m : MapParts) (id : ℕ) (f : List ℕ → List ℕ) → HasTiles m id → HasTiles (with_tiles m id f) id
HasTiles-with_tiles m id f h =
    let P : Option Layer → Type 0 = λ o. IsSomeAnd o (λ l. IsTiles l.body) in
    subst P (sym (found_after m id f)) (by_layer (layer_of m id) h)
  where
    by_layer : (o : Option Layer) → IsSomeAnd o (λ l. IsTiles l.body) → IsSomeAnd (option_map (layer_with_tiles f) o) (λ l. IsTiles l.body)
    by_layer None q = q
    by_layer (Some l) q = IsTiles-body f l.body q
