-- What a change of one layer leaves as it is.
use Rattle.std.proofs.Common.{◌≡◌, ℕ, List, [], ◌∷◌, ◌++◌, nat_eq, Bool, true, false, cond, find, map, Option, Some, None, option_map, refl, sym, ap, ◌∙◌}
use Rattle.map_model.specs.declared.limits.TheConstants.{MAX_GROUPS}
use Rattle.map_model.specs.declared.parts.Layer.{Layer}
use Rattle.map_model.specs.declared.parts.MapParts.{MapParts}
use Rattle.map_model.specs.Groups.{all_drawn, bare, has_id, inside}
use Rattle.map_model.specs.Keeping.{layer_tier}
use Rattle.map_model.specs.Lists.{first_some, or_else}
use Rattle.map_model.specs.Lookups.{layer_of, with_layer}
use Rattle.map_model.specs.Properties.{is_drawn_with}
use Rattle.map_model.proofs.Keeps.{layer-Stands, own-IsReplaced}
use Rattle.map_model.proofs.Lookups.{first_some-append}
use Rattle.map_model.proofs.Trees.{change_among-none, none_among}

-- ---- lists of which one element has changed
pub first_some-one : {X Y : Type 0} (h : X → Option Y) (prefix rest : List X) (x y : X) → h y ≡ h x
    → first_some h (prefix ++ (y ∷ rest)) ≡ first_some h (prefix ++ (x ∷ rest))
first_some-one h prefix rest x y same =
    first_some-append h prefix (y ∷ rest) ∙ ap (λ o. or_else (first_some h prefix) (or_else o (first_some h rest))) same
    ∙ sym (first_some-append h prefix (x ∷ rest))

map-one : {X Y : Type 0} (h : X → Y) (prefix rest : List X) (x y : X) → h y ≡ h x → map h (prefix ++ (y ∷ rest)) ≡ map h (prefix ++ (x ∷ rest))
map-one h [] rest x y same = ap (λ z. z ∷ map h rest) same
map-one h (z ∷ prefix) rest x y same = ap (λ zs. h z ∷ zs) (map-one h prefix rest x y same)

-- ---- a layer by its id
-- what k gives of the layer with the id
abbrev of_id : {Y : Type 0} → (Layer → Y) → ℕ → ℕ × Layer → Option Y
of_id k id d = cond (has_id id d.1) (Some (k d.1)) None

first_some-find : {Y : Type 0} (k : Layer → Y) (id : ℕ) (ds : List (ℕ × Layer))
    → first_some (of_id k id) ds ≡ option_map (λ d. k d.1) (find (is_drawn_with id) ds)
first_some-find k id [] = refl
first_some-find k id (d ∷ ds) =
    elim (has_id id d.1) as (λ b. or_else (cond b (Some (k d.1)) None) (first_some (of_id k id) ds)
    ≡ option_map (λ e. k e.1) (cond b (Some d) (find (is_drawn_with id) ds)))
    [ true ↦ refl | false ↦ first_some-find k id ds ]

-- what is read of a layer without those that stand in it is read of the one in drawing order
by_drawn : {Y : Type 0} (k : Layer → Y) → ((l : Layer) → k (bare l) ≡ k l) → (m : MapParts) (id : ℕ)
    → option_map k (layer_of m id) ≡ first_some (of_id k id) (all_drawn m.layers)
by_drawn {Y = Y} k alone m id = by_layer (layer_of m id) refl ∙ sym (first_some-find k id (all_drawn m.layers))
  where
    by_layer : (o : Option Layer) → layer_of m id ≡ o → option_map k o ≡ option_map (λ d. k d.1) (find (is_drawn_with id) (all_drawn m.layers))
    by_layer None e = rw (none_among id MAX_GROUPS layer_tier m.layers e) refl
    by_layer (Some l) e = rw ((layer-Stands m id l e).first) (ap Some (sym (alone l)))

-- two tests that are the same, and two values that are, where the second one passes
same_test : {Y : Type 0} (a b : Bool) (x y : Y) → a ≡ b → (b ≡ true → x ≡ y) → cond a (Some x) None ≡ cond b (Some y) None
same_test true true x y e h = ap Some (h refl)
same_test true false x y e h = cc
same_test false true x y e h = cc
same_test false false x y e h = refl

module _ (own : ℕ) (f : Layer → Layer) (inner : (l : Layer) → inside (f l) ≡ inside l) (m : MapParts) where
  -- a look-up in drawing order that does not see the change
  pub first_some-kept : {Y : Type 0} (h : ℕ × Layer → Option Y)
      → ((tier : ℕ) (l : Layer) → has_id own l ≡ true → h (tier, bare (f l)) ≡ h (tier, bare l))
      → first_some h (all_drawn (with_layer own f m).layers) ≡ first_some h (all_drawn m.layers)
  first_some-kept {Y = Y} h same = by_layer (layer_of m own) refl
    where
      by_layer : (o : Option Layer) → layer_of m own ≡ o → first_some h (all_drawn (with_layer own f m).layers) ≡ first_some h (all_drawn m.layers)
      by_layer None e = ap (λ ls. first_some h (all_drawn ls)) (change_among-none own MAX_GROUPS f m.layers e)
      by_layer (Some l) e =
          let s = layer-Stands m own l e in
          let r = own-IsReplaced s f (inner l) in
          ap (first_some h) r.now ∙ first_some-one h s.prefix _ _ _ (same s.own_tier l s.has) ∙ ap (first_some h) (sym r.was)

  -- what is read of each layer in drawing order
  pub map-kept : {Y : Type 0} (h : ℕ × Layer → Y) → ((tier : ℕ) (l : Layer) → has_id own l ≡ true → h (tier, bare (f l)) ≡ h (tier, bare l))
      → map h (all_drawn (with_layer own f m).layers) ≡ map h (all_drawn m.layers)
  map-kept {Y = Y} h same = by_layer (layer_of m own) refl
    where
      by_layer : (o : Option Layer) → layer_of m own ≡ o → map h (all_drawn (with_layer own f m).layers) ≡ map h (all_drawn m.layers)
      by_layer None e = ap (λ ls. map h (all_drawn ls)) (change_among-none own MAX_GROUPS f m.layers e)
      by_layer (Some l) e =
          let s = layer-Stands m own l e in
          let r = own-IsReplaced s f (inner l) in
          ap (map h) r.now ∙ map-one h s.prefix _ _ _ (same s.own_tier l s.has) ∙ ap (map h) (sym r.was)

  -- what is read of the layer with an id, that sees no change
  pub layer_of-kept : ((l : Layer) → (f l).id ≡ l.id) → {Y : Type 0} (k : Layer → Y) → ((l : Layer) → k (bare l) ≡ k l) → (id : ℕ)
      → ((l : Layer) → has_id own l ≡ true → has_id id l ≡ true → k (f l) ≡ k l)
      → option_map k (layer_of (with_layer own f m) id) ≡ option_map k (layer_of m id)
  layer_of-kept ids {Y = Y} k alone id same =
      by_drawn k alone (with_layer own f m) id ∙ first_some-kept (of_id k id) each ∙ sym (by_drawn k alone m id)
    where
      each : (tier : ℕ) (l : Layer) → has_id own l ≡ true → of_id k id (tier, bare (f l)) ≡ of_id k id (tier, bare l)
      each tier l has =
          same_test (has_id id (f l)) (has_id id l) (k (bare (f l))) (k (bare l)) (ap (λ n. nat_eq n id) (ids l))
          (λ e. alone (f l) ∙ same l has e ∙ sym (alone l))
