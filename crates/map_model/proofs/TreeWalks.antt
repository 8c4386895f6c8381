-- Walks through all layers in drawing order, one step at a time.
use Rattle.std.proofs.Common.{◌≡◌, ◌≢◌, ℕ, zero, suc, ◌-◌, List, [], ◌∷◌, Bool, true, false, ◌||◌, Option, Some, None, refl, sym, ap, ◌∙◌, arith}
use Rattle.std.specs.List.{list_any}
use Rattle.std.proofs.lemmas.List.Folds.{list_any-append}
use Rattle.map_model.specs.declared.parts.Layer.{Layer}
use Rattle.map_model.specs.Groups.{bare, drawn, group_of, inside, tree}
use Rattle.map_model.specs.Keeping.{inner_tier, layer_tier}
use Rattle.map_model.specs.Lists.{first_some, or_else, or_empty}
use Rattle.map_model.proofs.Lookups.{first_some-append}
use Rattle.map_model.proofs.Trees.{below, tree-is}

-- ---- the first layer for which there is something
module _ {Y : Type 0} (h : ℕ × Layer → Option Y) (same : (a b : ℕ) (l : Layer) → h (a, bare l) ≡ h (b, l)) where
  tiers_list : (groups : ℕ) → ((a b : ℕ) (l : Layer) → first_some h (tree groups a l) ≡ first_some h (tree groups b l)) → (a b : ℕ) (ls : List Layer)
      → first_some h (drawn groups a ls) ≡ first_some h (drawn groups b ls)
  tiers_list groups each a b [] = refl
  tiers_list groups each a b (l ∷ ls) =
      first_some-append h (tree groups a l) (drawn groups a ls) ∙ (λ i. or_else (each a b l i) (tiers_list groups each a b ls i))
      ∙ sym (first_some-append h (tree groups b l) (drawn groups b ls))

  tiers_one : (groups a b : ℕ) (l : Layer) → first_some h (tree groups a l) ≡ first_some h (tree groups b l)
  tiers_one zero a b l = ap (first_some h) (tree-is zero a l) ∙ ap (λ o. or_else o None) (same a b l ∙ sym (same b b l))
      ∙ sym (ap (first_some h) (tree-is zero b l))
  tiers_one (suc groups) a b l =
      ap (first_some h) (tree-is (suc groups) a l)
      ∙ (λ i. or_else ((same a b l ∙ sym (same b b l)) i) (tiers_list groups (tiers_one groups) (inner_tier a) (inner_tier b) (inside l) i))
      ∙ sym (ap (first_some h) (tree-is (suc groups) b l))

  module _ (groups tier : ℕ) (l : Layer) where
    pub first-own : (y : Y) → h (tier, l) ≡ Some y → Some y ≡ first_some h (tree groups tier l)
    first-own y e = sym (ap (first_some h) (tree-is groups tier l) ∙ ap (λ o. or_else o (first_some h (below groups tier l))) (same tier tier l ∙ e))

    pub first-no_groups : h (tier, l) ≡ None → groups ≡ 0 → None ≡ first_some h (tree groups tier l)
    first-no_groups e z = sym (by_groups groups z)
      where
        by_groups : (n : ℕ) → n ≡ 0 → first_some h (tree n tier l) ≡ None
        by_groups zero q = ap (first_some h) (tree-is zero tier l) ∙ ap (λ o. or_else o None) (same tier tier l ∙ e)
        by_groups (suc n) q = absurd (omega (arith, q))

    pub first-no_group : h (tier, l) ≡ None → group_of l ≡ None → None ≡ first_some h (tree groups tier l)
    first-no_group e g = sym (by_groups groups)
      where
        by_groups : (n : ℕ) → first_some h (tree n tier l) ≡ None
        by_groups zero = ap (first_some h) (tree-is zero tier l) ∙ ap (λ o. or_else o None) (same tier tier l ∙ e)
        by_groups (suc n) =
            ap (first_some h) (tree-is (suc n) tier l) ∙ ap (λ o. or_else o (first_some h (drawn n (inner_tier tier) (inside l)))) (same tier tier l ∙ e)
            ∙ ap (λ o. first_some h (drawn n (inner_tier tier) (or_empty o))) g

  pub first-group : (groups : ℕ) (l : Layer) (ks : List Layer) → h (layer_tier, l) ≡ None → groups ≢ 0 → group_of l ≡ Some ks
      → first_some h (drawn (groups - 1) layer_tier ks) ≡ first_some h (tree groups layer_tier l)
  first-group zero l ks e z g = absurd (z refl)
  first-group (suc groups) l ks e z g =
      let n : suc groups - 1 ≡ groups = omega arith in
      ap (λ k. first_some h (drawn k layer_tier ks)) n ∙ tiers_list groups (tiers_one groups) layer_tier (inner_tier layer_tier) ks
      ∙ sym (ap (first_some h) (tree-is (suc groups) layer_tier l)
      ∙ ap (λ o. or_else o (first_some h (drawn groups (inner_tier layer_tier) (inside l)))) (same layer_tier layer_tier l ∙ e)
      ∙ ap (λ o. first_some h (drawn groups (inner_tier layer_tier) (or_empty o))) g)

-- ---- whether a layer passes
module _ (p : ℕ × Layer → Bool) (same : (a b : ℕ) (l : Layer) → p (a, bare l) ≡ p (b, l)) where
  any_list : (groups : ℕ) → ((a b : ℕ) (l : Layer) → list_any p (tree groups a l) ≡ list_any p (tree groups b l)) → (a b : ℕ) (ls : List Layer)
      → list_any p (drawn groups a ls) ≡ list_any p (drawn groups b ls)
  any_list groups each a b [] = refl
  any_list groups each a b (l ∷ ls) =
      list_any-append p (tree groups a l) (drawn groups a ls) ∙ (λ i. each a b l i || any_list groups each a b ls i)
      ∙ sym (list_any-append p (tree groups b l) (drawn groups b ls))

  any_one : (groups a b : ℕ) (l : Layer) → list_any p (tree groups a l) ≡ list_any p (tree groups b l)
  any_one zero a b l = ap (list_any p) (tree-is zero a l) ∙ ap (λ o. o || false) (same a b l ∙ sym (same b b l)) ∙ sym (ap (list_any p) (tree-is zero b l))
  any_one (suc groups) a b l =
      ap (list_any p) (tree-is (suc groups) a l)
      ∙ (λ i. (same a b l ∙ sym (same b b l)) i || any_list groups (any_one groups) (inner_tier a) (inner_tier b) (inside l) i)
      ∙ sym (ap (list_any p) (tree-is (suc groups) b l))

  module _ (groups tier : ℕ) (l : Layer) where
    pub any-own : p (tier, l) ≡ true → true ≡ list_any p (tree groups tier l)
    any-own e = sym (ap (list_any p) (tree-is groups tier l) ∙ ap (λ o. o || list_any p (below groups tier l)) (same tier tier l ∙ e))

    pub any-no_groups : p (tier, l) ≡ false → groups ≡ 0 → false ≡ list_any p (tree groups tier l)
    any-no_groups e z = sym (by_groups groups z)
      where
        by_groups : (n : ℕ) → n ≡ 0 → list_any p (tree n tier l) ≡ false
        by_groups zero q = ap (list_any p) (tree-is zero tier l) ∙ ap (λ o. o || false) (same tier tier l ∙ e)
        by_groups (suc n) q = absurd (omega (arith, q))

    pub any-no_group : p (tier, l) ≡ false → group_of l ≡ None → false ≡ list_any p (tree groups tier l)
    any-no_group e g = sym (by_groups groups)
      where
        by_groups : (n : ℕ) → list_any p (tree n tier l) ≡ false
        by_groups zero = ap (list_any p) (tree-is zero tier l) ∙ ap (λ o. o || false) (same tier tier l ∙ e)
        by_groups (suc n) =
            ap (list_any p) (tree-is (suc n) tier l) ∙ ap (λ o. o || list_any p (drawn n (inner_tier tier) (inside l))) (same tier tier l ∙ e)
            ∙ ap (λ o. list_any p (drawn n (inner_tier tier) (or_empty o))) g

  pub any-group : (groups : ℕ) (l : Layer) (ks : List Layer) → p (layer_tier, l) ≡ false → groups ≢ 0 → group_of l ≡ Some ks
      → list_any p (drawn (groups - 1) layer_tier ks) ≡ list_any p (tree groups layer_tier l)
  any-group zero l ks e z g = absurd (z refl)
  any-group (suc groups) l ks e z g =
      let n : suc groups - 1 ≡ groups = omega arith in
      ap (λ k. list_any p (drawn k layer_tier ks)) n ∙ any_list groups (any_one groups) layer_tier (inner_tier layer_tier) ks
      ∙ sym (ap (list_any p) (tree-is (suc groups) layer_tier l)
      ∙ ap (λ o. o || list_any p (drawn groups (inner_tier layer_tier) (inside l))) (same layer_tier layer_tier l ∙ e)
      ∙ ap (λ o. list_any p (drawn groups (inner_tier layer_tier) (or_empty o))) g)
