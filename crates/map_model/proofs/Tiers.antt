-- Layers at some tier: which tier that is, and whether they fit there.
use Rattle.std.proofs.Common.{◌≡◌, ◌≢◌, ℕ, zero, suc, ◌-◌, List, [], ◌∷◌, ◌++◌, true, false, ◌&&◌, cond, find, Option, Some, None, option_map, refl}
use Rattle.std.proofs.Common.{sym, ap, ◌∙◌, arith}
use Rattle.std.specs.List.{list_all}
use Rattle.std.proofs.lemmas.Bool.Decides.{nat_tests}
use Rattle.std.proofs.lemmas.List.Folds.{list_all-append}
use Rattle.map_model.specs.declared.parts.Body.{Body}
use Rattle.map_model.specs.declared.parts.Body.TheVariants.{Group'}
use Rattle.map_model.specs.declared.parts.Layer.{Layer}
use Rattle.map_model.specs.Groups.{bare, body_with_layers, drawn, group_of, has_id, inside, tree}
use Rattle.map_model.specs.Keeping.{inner_tier, layer_tier}
use Rattle.map_model.specs.Lists.{or_else, or_empty}
use Rattle.map_model.specs.Moving.{body_fits, members_fit, own_fits, properties_fit}
use Rattle.map_model.specs.Properties.{is_drawn_with, tier_by}
use Rattle.map_model.proofs.Trees.{below, tree-is}

-- ---- what is drawn behind a layer
below-no_groups : (groups tier : ℕ) (l : Layer) → groups ≡ 0 → below groups tier l ≡ []
below-no_groups zero tier l z = refl
below-no_groups (suc groups) tier l z = absurd (omega (arith, z))

below-childless : (groups tier : ℕ) (l : Layer) → inside l ≡ [] → below groups tier l ≡ []
below-childless zero tier l none = refl
below-childless (suc groups) tier l none = ap (drawn groups (inner_tier tier)) none

below-no_group : (groups tier : ℕ) (l : Layer) → group_of l ≡ None → below groups tier l ≡ []
below-no_group groups tier l g = below-childless groups tier l (ap or_empty g)

below-group : (groups tier : ℕ) (l : Layer) (ks : List Layer) → groups ≢ 0 → group_of l ≡ Some ks
    → below groups tier l ≡ drawn (groups - 1) (inner_tier tier) ks
below-group zero tier l ks z g = absurd (z refl)
below-group (suc groups) tier l ks z g =
    let same : groups ≡ suc groups - 1 = omega arith in
    ap (λ o. drawn groups (inner_tier tier) (or_empty o)) g ∙ ap (λ n. drawn n (inner_tier tier) ks) same

-- ---- the tier of the layer with an id
abbrev pub tier_found : ℕ → List (ℕ × Layer) → Option ℕ
tier_found id ds = option_map (λ d. d.0) (find (is_drawn_with id) ds)

pub tier_found-append : (id : ℕ) (xs ys : List (ℕ × Layer)) → tier_found id (xs ++ ys) ≡ or_else (tier_found id xs) (tier_found id ys)
tier_found-append id [] ys = refl
tier_found-append id (d ∷ ds) ys =
    elim (is_drawn_with id d)
    as (λ b. option_map (λ e. e.0) (cond b (Some d) (find (is_drawn_with id) (ds ++ ys)))
    ≡ or_else (option_map (λ e. e.0) (cond b (Some d) (find (is_drawn_with id) ds))) (tier_found id ys))
    [ true ↦ refl | false ↦ tier_found-append id ds ys ]

pub tier_by-found : (o : Option (ℕ × Layer)) (tier : ℕ) → option_map (λ d. d.0) o ≡ Some tier → tier ≡ tier_by o
tier_by-found None tier e = cc
tier_by-found (Some d) tier e = cc

pub tier_by-none : (o : Option (ℕ × Layer)) → option_map (λ d. d.0) o ≡ None → layer_tier ≡ tier_by o
tier_by-none None e = refl
tier_by-none (Some d) e = cc

module _ (id groups tier : ℕ) (l : Layer) where
  tier-tree : tier_found id (tree groups tier l) ≡ cond (has_id id l) (Some tier) (tier_found id (below groups tier l))
  tier-tree =
      ap (tier_found id) (tree-is groups tier l)
      ∙ elim (has_id id l)
      as (λ b. option_map (λ e. e.0) (cond b (Some (tier, bare l)) (find (is_drawn_with id) (below groups tier l)))
      ≡ cond b (Some tier) (tier_found id (below groups tier l)))
      [ true ↦ refl | false ↦ refl ]

  pub tier-own : l.id ≡ id → tier_found id (tree groups tier l) ≡ Some tier
  tier-own e = let own : has_id id l ≡ true = grind (arith, nat_tests, e) in tier-tree ∙ rw own refl

  tier-other : l.id ≢ id → tier_found id (tree groups tier l) ≡ tier_found id (below groups tier l)
  tier-other e = let other : has_id id l ≡ false = grind (arith, nat_tests, e) in tier-tree ∙ rw other refl

  pub tier-no_groups : l.id ≢ id → groups ≡ 0 → tier_found id (tree groups tier l) ≡ None
  tier-no_groups e z = tier-other e ∙ ap (tier_found id) (below-no_groups groups tier l z)

  pub tier-no_group : l.id ≢ id → group_of l ≡ None → tier_found id (tree groups tier l) ≡ None
  tier-no_group e g = tier-other e ∙ ap (tier_found id) (below-no_group groups tier l g)

  pub tier-group : (ks : List Layer) → l.id ≢ id → groups ≢ 0 → group_of l ≡ Some ks
      → tier_found id (tree groups tier l) ≡ tier_found id (drawn (groups - 1) (inner_tier tier) ks)
  tier-group ks e z g = tier-other e ∙ ap (tier_found id) (below-group groups tier l ks z g)

-- ---- whether a layer fits
body_fits-with : (f : List Layer → List Layer) (tier : ℕ) (b : Body) → body_fits tier (body_with_layers f b) ≡ body_fits tier b
body_fits-with f tier (Group' s r) = refl
body_fits-with f tier b = refl

module _ (groups tier : ℕ) (l : Layer) where
  fits-tree : list_all own_fits (tree groups tier l) ≡ (own_fits (tier, l) && list_all own_fits (below groups tier l))
  fits-tree =
      ap (list_all own_fits) (tree-is groups tier l)
      ∙ ap (λ b. (members_fit tier l.kept && properties_fit tier l.properties && b) && list_all own_fits (below groups tier l))
      (body_fits-with (λ ls. []) tier l.body)

  pub fits-gone : own_fits (tier, l) ≡ false → false ≡ list_all own_fits (tree groups tier l)
  fits-gone e = sym (fits-tree ∙ ap (λ b. b && list_all own_fits (below groups tier l)) e)

  fits-below : own_fits (tier, l) ≡ true → list_all own_fits (below groups tier l) ≡ list_all own_fits (tree groups tier l)
  fits-below e = sym (fits-tree ∙ ap (λ b. b && list_all own_fits (below groups tier l)) e)

  pub fits-no_groups : own_fits (tier, l) ≡ true → groups ≡ 0 → true ≡ list_all own_fits (tree groups tier l)
  fits-no_groups e z = ap (list_all own_fits) (sym (below-no_groups groups tier l z)) ∙ fits-below e

  pub fits-no_group : own_fits (tier, l) ≡ true → group_of l ≡ None → true ≡ list_all own_fits (tree groups tier l)
  fits-no_group e g = ap (list_all own_fits) (sym (below-no_group groups tier l g)) ∙ fits-below e

  pub fits-group : (ks : List Layer) → own_fits (tier, l) ≡ true → groups ≢ 0 → group_of l ≡ Some ks
      → list_all own_fits (drawn (groups - 1) (inner_tier tier) ks) ≡ list_all own_fits (tree groups tier l)
  fits-group ks e z g = ap (list_all own_fits) (sym (below-group groups tier l ks z g)) ∙ fits-below e

  pub fits-first : (ls : List Layer) → list_all own_fits (tree groups tier l) ≡ false → false ≡ list_all own_fits (drawn groups tier (l ∷ ls))
  fits-first ls e =
      sym (list_all-append own_fits (tree groups tier l) (drawn groups tier ls) ∙ ap (λ b. b && list_all own_fits (drawn groups tier ls)) e)
