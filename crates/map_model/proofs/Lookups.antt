-- Look-ups in the layers in drawing order, of which one has changed.
use Rattle.std.proofs.Common.{◌≡◌, ◌≤◌, ℕ, List, [], ◌∷◌, ◌++◌, nat_eq, true, false, cond, find, Option, Some, None, option_map, refl, sym, ap, ◌∙◌, arith}
use Rattle.map_model.specs.declared.limits.TheConstants.{MAX_GROUPS}
use Rattle.map_model.specs.declared.parts.Layer.{Layer}
use Rattle.map_model.specs.declared.parts.MapParts.{MapParts}
use Rattle.map_model.specs.Groups.{all_drawn, bare, change_among, has_id, inside}
use Rattle.map_model.specs.Keeping.{deepest_tier, layer_tier}
use Rattle.map_model.specs.Lists.{first_some, or_else}
use Rattle.map_model.specs.Lookups.{layer_of, with_layer}
use Rattle.map_model.specs.Properties.{is_drawn_with, tier_by, tier_of}
use Rattle.map_model.proofs.Keeps.{layer-Stands, tier_of-found, own-IsReplaced}
use Rattle.map_model.proofs.Listings.{IsReplaced}
use Rattle.map_model.proofs.Trees.{change_among-none, none_among}

-- ---- lists
pub first_some-append : {X Y : Type 0} (h : X → Option Y) (xs ys : List X) → first_some h (xs ++ ys) ≡ or_else (first_some h xs) (first_some h ys)
first_some-append h [] ys = refl
first_some-append {Y = Y} h (x ∷ xs) ys = ap (or_else (h x)) (first_some-append h xs ys) ∙ turned (h x) (first_some h xs) (first_some h ys)
  where
    turned : (a b c : Option Y) → or_else a (or_else b c) ≡ or_else (or_else a b) c
    turned None b c = refl
    turned (Some y) b c = refl

first_some-replaced : {X Y : Type 0} (h : X → Option Y) {prefix rest xs ys : List X} {x y : X} → IsReplaced prefix (x ∷ []) (y ∷ []) rest xs ys → h y ≡ h x
    → first_some h ys ≡ first_some h xs
first_some-replaced h {prefix = prefix} {rest = rest} {x = x} {y = y} r same =
    ap (first_some h) r.now ∙ first_some-append h prefix (y ∷ rest)
    ∙ ap (λ o. or_else (first_some h prefix) (or_else o (first_some h rest))) same
    ∙ sym (first_some-append h prefix (x ∷ rest)) ∙ ap (first_some h) (sym r.was)

-- a look-up that sees the change of no layer
pub first_some-with_layer : {Y : Type 0} (id : ℕ) (f : Layer → Layer) (h : ℕ × Layer → Option Y) → ((l : Layer) → inside (f l) ≡ inside l)
    → ((tier : ℕ) (l : Layer) → h (tier, bare (f l)) ≡ h (tier, bare l)) → (m : MapParts)
    → first_some h (all_drawn (with_layer id f m).layers) ≡ first_some h (all_drawn m.layers)
first_some-with_layer id f h inner same m = by_layer (layer_of m id) refl
  where
    by_layer : (o : Option Layer) → layer_of m id ≡ o → first_some h (all_drawn (change_among id MAX_GROUPS f m.layers)) ≡ first_some h (all_drawn m.layers)
    by_layer None e = ap (λ ls. first_some h (all_drawn ls)) (change_among-none id MAX_GROUPS f m.layers e)
    by_layer (Some l) e =
        let s = layer-Stands m id l e in
        first_some-replaced h (own-IsReplaced s f (inner l)) (same s.own_tier l)

-- ---- a layer by its id
-- what k gives of the layer with the id
abbrev of_id : {Y : Type 0} → (ℕ × Layer → Y) → ℕ → ℕ × Layer → Option Y
of_id k id d = cond (has_id id d.1) (Some (k d)) None

first_some-find : {Y : Type 0} (k : ℕ × Layer → Y) (id : ℕ) (ds : List (ℕ × Layer)) → first_some (of_id k id) ds ≡ option_map k (find (is_drawn_with id) ds)
first_some-find k id [] = refl
first_some-find k id (d ∷ ds) =
    elim (has_id id d.1) as (λ b. or_else (cond b (Some (k d)) None) (first_some (of_id k id) ds) ≡ option_map k (cond b (Some d) (find (is_drawn_with id) ds)))
    [ true ↦ refl | false ↦ first_some-find k id ds ]

module _ (own : ℕ) (f : Layer → Layer) (inner : (l : Layer) → inside (f l) ≡ inside l) (ids : (l : Layer) → (f l).id ≡ l.id) (m : MapParts) where
  find-with_layer : {Y : Type 0} (k : ℕ × Layer → Y) → ((tier : ℕ) (l : Layer) → k (tier, bare (f l)) ≡ k (tier, bare l)) → (id : ℕ)
      → option_map k (find (is_drawn_with id) (all_drawn (with_layer own f m).layers)) ≡ option_map k (find (is_drawn_with id) (all_drawn m.layers))
  find-with_layer k same id =
      sym (first_some-find k id (all_drawn (with_layer own f m).layers))
      ∙ first_some-with_layer own f (of_id k id) inner (λ tier l i. cond (nat_eq (ids l i) id) (Some (same tier l i)) None) m
      ∙ first_some-find k id (all_drawn m.layers)

  -- the tiers of layers stay
  pub tier_of-with_layer : (id : ℕ) → tier_of (with_layer own f m) id ≡ tier_of m id
  tier_of-with_layer id = by_tier (all_drawn (with_layer own f m).layers) ∙ ap tier_or (find-with_layer (λ d. d.0) (λ tier l. refl) id)
      ∙ sym (by_tier (all_drawn m.layers))
    where
      tier_or : Option ℕ → ℕ
      tier_or None = layer_tier
      tier_or (Some tier) = tier

      by_found : (o : Option (ℕ × Layer)) → tier_by o ≡ tier_or (option_map (λ d. d.0) o)
      by_found None = refl
      by_found (Some d) = refl

      by_tier : (ds : List (ℕ × Layer)) → tier_by (find (is_drawn_with id) ds) ≡ tier_or (option_map (λ d. d.0) (find (is_drawn_with id) ds))
      by_tier ds = by_found (find (is_drawn_with id) ds)

  -- whether a layer is found stays
  pub found-with_layer : {Y : Type 0} (y : Y) (id : ℕ) → option_map (λ l. y) (layer_of (with_layer own f m) id) ≡ option_map (λ l. y) (layer_of m id)
  found-with_layer y id = by_drawn (with_layer own f m) ∙ find-with_layer (λ d. y) (λ tier l. refl) id ∙ sym (by_drawn m)
    where
      by_drawn : (n : MapParts) → option_map (λ l. y) (layer_of n id) ≡ option_map (λ d. y) (find (is_drawn_with id) (all_drawn n.layers))
      by_drawn n = by_layer (layer_of n id) refl
        where
          by_layer : (o : Option Layer) → layer_of n id ≡ o → option_map (λ l. y) o ≡ option_map (λ d. y) (find (is_drawn_with id) (all_drawn n.layers))
          by_layer None e = rw (none_among id MAX_GROUPS layer_tier n.layers e) refl
          by_layer (Some l) e = rw ((layer-Stands n id l e).first) refl

-- no layer stands deeper than in as many groups as may stand in one another
pub tier_of-low : (m : MapParts) (id : ℕ) → tier_of m id ≤ deepest_tier
tier_of-low m id = by_layer (layer_of m id) refl
  where
    by_layer : (o : Option Layer) → layer_of m id ≡ o → tier_of m id ≤ deepest_tier
    by_layer None e = rw (none_among id MAX_GROUPS layer_tier m.layers e) (omega arith)
    by_layer (Some l) e = let s = layer-Stands m id l e in rw (tier_of-found m id l e) (omega (arith, s.deep))
