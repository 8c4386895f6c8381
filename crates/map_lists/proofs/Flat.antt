-- Lists that are gathered from all layers in drawing order, one step at a time.
use Rattle.std.proofs.Common.{◌≡◌, ◌≢◌, ℕ, zero, suc, ◌-◌, List, [], ◌∷◌, ◌++◌, append-nil, append_assoc, Option, Some, None, refl, sym, ap, ◌∙◌, arith}
use Rattle.std.specs.List.{flat_map}
use Rattle.std.proofs.lemmas.Grind.{flat_map-append}
use Rattle.map_model.specs.declared.parts.Layer.{Layer}
use Rattle.map_model.specs.Groups.{bare, drawn, group_of, inside, tree}
use Rattle.map_model.specs.Keeping.{inner_tier, layer_tier}
use Rattle.map_model.specs.Lists.{or_empty}
use Rattle.map_model.proofs.Trees.{tree-is}

-- what is put behind a list, and then behind that
pub behind : {X : Type 0} (old now new one rest all : List X) → now ++ (one ++ rest) ≡ old ++ all → new ≡ now ++ one → new ++ rest ≡ old ++ all
behind old now new one rest all h e = ap (λ xs. xs ++ rest) e ∙ append_assoc now one rest ∙ h

module _ {Y : Type 0} (h : ℕ × Layer → List Y) (same : (a b : ℕ) (l : Layer) → h (a, bare l) ≡ h (b, l)) where
  tiers_list : (groups : ℕ) → ((a b : ℕ) (l : Layer) → flat_map h (tree groups a l) ≡ flat_map h (tree groups b l)) → (a b : ℕ) (ls : List Layer)
      → flat_map h (drawn groups a ls) ≡ flat_map h (drawn groups b ls)
  tiers_list groups each a b [] = refl
  tiers_list groups each a b (l ∷ ls) =
      flat_map-append h (tree groups a l) (drawn groups a ls) ∙ (λ i. each a b l i ++ tiers_list groups each a b ls i)
      ∙ sym (flat_map-append h (tree groups b l) (drawn groups b ls))

  tiers_one : (groups a b : ℕ) (l : Layer) → flat_map h (tree groups a l) ≡ flat_map h (tree groups b l)
  tiers_one zero a b l = ap (flat_map h) (tree-is zero a l) ∙ ap (λ ys. ys ++ []) (same a b l ∙ sym (same b b l)) ∙ sym (ap (flat_map h) (tree-is zero b l))
  tiers_one (suc groups) a b l =
      ap (flat_map h) (tree-is (suc groups) a l)
      ∙ (λ i. (same a b l ∙ sym (same b b l)) i ++ tiers_list groups (tiers_one groups) (inner_tier a) (inner_tier b) (inside l) i)
      ∙ sym (ap (flat_map h) (tree-is (suc groups) b l))

  alone : (tier : ℕ) (l : Layer) → h (tier, l) ≡ h (tier, bare l) ++ []
  alone tier l = sym (append-nil (h (tier, bare l)) ∙ same tier tier l)

  -- the layers of a list: the first one's, and those of the others
  pub flat-more : (groups tier : ℕ) (l : Layer) (ls : List Layer)
      → flat_map h (drawn groups tier (l ∷ ls)) ≡ flat_map h (tree groups tier l) ++ flat_map h (drawn groups tier ls)
  flat-more groups tier l ls = flat_map-append h (tree groups tier l) (drawn groups tier ls)

  pub flat-no_groups : (groups tier : ℕ) (l : Layer) → groups ≡ 0 → h (tier, l) ≡ flat_map h (tree groups tier l)
  flat-no_groups zero tier l z = alone tier l ∙ sym (ap (flat_map h) (tree-is zero tier l))
  flat-no_groups (suc groups) tier l z = absurd (omega (arith, z))

  pub flat-no_group : (groups tier : ℕ) (l : Layer) → group_of l ≡ None → h (tier, l) ≡ flat_map h (tree groups tier l)
  flat-no_group zero tier l g = alone tier l ∙ sym (ap (flat_map h) (tree-is zero tier l))
  flat-no_group (suc groups) tier l g =
      alone tier l ∙ ap (λ o. h (tier, bare l) ++ flat_map h (drawn groups (inner_tier tier) (or_empty o))) (sym g)
      ∙ sym (ap (flat_map h) (tree-is (suc groups) tier l))

  pub flat-group : (groups : ℕ) (l : Layer) (ks : List Layer) → groups ≢ 0 → group_of l ≡ Some ks
      → h (layer_tier, l) ++ flat_map h (drawn (groups - 1) layer_tier ks) ≡ flat_map h (tree groups layer_tier l)
  flat-group zero l ks z g = absurd (z refl)
  flat-group (suc groups) l ks z g =
      let n : suc groups - 1 ≡ groups = omega arith in
      ap (λ k. h (layer_tier, l) ++ flat_map h (drawn k layer_tier ks)) n
      ∙ (λ i. sym (same layer_tier layer_tier l) i ++ tiers_list groups (tiers_one groups) layer_tier (inner_tier layer_tier) ks i)
      ∙ ap (λ o. h (layer_tier, bare l) ++ flat_map h (drawn groups (inner_tier layer_tier) (or_empty o))) (sym g)
      ∙ sym (ap (flat_map h) (tree-is (suc groups) layer_tier l))
