-- Lists of something of each layer that stands in layers, one after another.
use Rattle.std.proofs.Common.{◌≡◌, ℕ, zero, suc, List, [], ◌∷◌, ◌++◌, append-nil, Bool, true, false, refl, sym, ap, ap₂, ◌∙◌}
use Rattle.std.specs.List.{list_all, flat_map}
use Rattle.std.proofs.lemmas.Grind.{flat_map-append}
use Rattle.map_model.specs.declared.parts.Layer.{Layer}
use Rattle.map_model.specs.Groups.{tree, drawn, bare, inside}
use Rattle.map_model.specs.Keeping.{inner_tier, layer_tier}
use Rattle.map_model.proofs.Trees.{tree-is}
use Rattle.map_json.proofs.Walks.{all_pass, one_fails}

module _ {B : Type 0} (f : Layer → List B) where
  -- what is gathered of layers with their tiers
  abbrev pub of_drawn : ℕ × Layer → List B
  of_drawn d = f d.1

  abbrev pub gathered : ℕ → ℕ → List Layer → List B
  gathered groups tier ls = flat_map of_drawn (drawn groups tier ls)

  -- what is gathered of a layer: its own, and that of those in it
  abbrev pub gathered_below : ℕ → ℕ → Layer → List B
  gathered_below zero tier l = []
  gathered_below (suc groups) tier l = gathered groups (inner_tier tier) (inside l)

  one-gathered : (groups tier : ℕ) (l : Layer) → flat_map of_drawn (tree groups tier l) ≡ f (bare l) ++ gathered_below groups tier l
  one-gathered zero tier l = ap (flat_map of_drawn) (tree-is zero tier l)
  one-gathered (suc groups) tier l = ap (flat_map of_drawn) (tree-is (suc groups) tier l)

  gathered-cons : (groups tier : ℕ) (l : Layer) (ls : List Layer)
      → gathered groups tier (l ∷ ls) ≡ (f (bare l) ++ gathered_below groups tier l) ++ gathered groups tier ls
  gathered-cons groups tier l ls = flat_map-append of_drawn (tree groups tier l) (drawn groups tier ls)
      ∙ ap (λ (xs : List B). xs ++ gathered groups tier ls) (one-gathered groups tier l)

  -- at whatever tier
  tier_list : (groups a b : ℕ) → ((l : Layer) → gathered_below groups a l ≡ gathered_below groups b l) → (ls : List Layer)
      → gathered groups a ls ≡ gathered groups b ls
  tier_list groups a b same [] = refl
  tier_list groups a b same (l ∷ ls) =
      gathered-cons groups a l ls ∙ ap₂ (λ (x y : List B). (f (bare l) ++ x) ++ y) (same l) (tier_list groups a b same ls) ∙ sym (gathered-cons groups b l ls)

  tier_below : (groups a b : ℕ) (l : Layer) → gathered_below groups a l ≡ gathered_below groups b l
  tier_below zero a b l = refl
  tier_below (suc groups) a b l = tier_list groups (inner_tier a) (inner_tier b) (tier_below groups (inner_tier a) (inner_tier b)) (inside l)

  pub any_tier : (groups a b : ℕ) (ls : List Layer) → gathered groups a ls ≡ gathered groups b ls
  any_tier groups a b ls = tier_list groups a b (tier_below groups a b) ls

  module _ (own : (l : Layer) → f (bare l) ≡ f l) where
    -- one layer more: with no room for layers in it, or with these in it
    pub gathered-alone : (groups : ℕ) (l : Layer) (ls : List Layer) → groups ≡ 0 → gathered groups layer_tier (l ∷ ls) ≡ f l ++ gathered groups layer_tier ls
    gathered-alone groups l ls none =
        gathered-cons groups layer_tier l ls
        ∙ (ap (λ n. (f (bare l) ++ gathered_below n layer_tier l) ++ gathered groups layer_tier ls) none
        ∙ ap (λ (xs : List B). xs ++ gathered groups layer_tier ls) (append-nil (f (bare l)) ∙ own l))

    pub gathered-inside : (groups less : ℕ) (l : Layer) (ls ks : List Layer) → groups ≡ suc less → inside l ≡ ks
        → gathered groups layer_tier (l ∷ ls) ≡ (f l ++ gathered less layer_tier ks) ++ gathered groups layer_tier ls
    gathered-inside groups less l ls ks more are =
        gathered-cons groups layer_tier l ls
        ∙ (ap (λ n. (f (bare l) ++ gathered_below n layer_tier l) ++ gathered groups layer_tier ls) more
        ∙ ap₂ (λ (x y : List B). (x ++ y) ++ gathered groups layer_tier ls) (own l)
        (any_tier less (inner_tier layer_tier) layer_tier (inside l) ∙ ap (gathered less layer_tier) are))

    -- the same where none stand in it
    pub gathered-empty : (groups less : ℕ) (l : Layer) (ls : List Layer) → groups ≡ suc less → inside l ≡ []
        → gathered groups layer_tier (l ∷ ls) ≡ f l ++ gathered groups layer_tier ls
    gathered-empty groups less l ls more are =
        gathered-inside groups less l ls [] more are ∙ ap (λ (xs : List B). xs ++ gathered groups layer_tier ls) (append-nil (f l))

    -- a test of all that is gathered
    module _ (p : B → Bool) where
      pub failed-own : (groups : ℕ) (l : Layer) (ls : List Layer) → list_all p (f l) ≡ false → list_all p (gathered groups layer_tier (l ∷ ls)) ≡ false
      failed-own groups l ls h =
          ap (list_all p) (gathered-cons groups layer_tier l ls)
          ∙ one_fails p (f (bare l) ++ gathered_below groups layer_tier l) (gathered groups layer_tier ls)
          (one_fails p (f (bare l)) (gathered_below groups layer_tier l) (ap (list_all p) (own l) ∙ h))

      pub failed-inside : (groups less : ℕ) (l : Layer) (ls ks : List Layer) → groups ≡ suc less → inside l ≡ ks → list_all p (f l) ≡ true
          → list_all p (gathered less layer_tier ks) ≡ false
          → list_all p (gathered groups layer_tier (l ∷ ls)) ≡ false
      failed-inside groups less l ls ks more are passed h =
          ap (list_all p) (gathered-inside groups less l ls ks more are)
          ∙ one_fails p (f l ++ gathered less layer_tier ks) (gathered groups layer_tier ls)
          (all_pass p (f l) (gathered less layer_tier ks) passed ∙ h)

      pub passed-inside : (groups less : ℕ) (l : Layer) (ls ks : List Layer) → groups ≡ suc less → inside l ≡ ks → list_all p (f l) ≡ true
          → list_all p (gathered less layer_tier ks) ≡ true
          → list_all p (gathered groups layer_tier (l ∷ ls)) ≡ list_all p (gathered groups layer_tier ls)
      passed-inside groups less l ls ks more are passed h =
          ap (list_all p) (gathered-inside groups less l ls ks more are)
          ∙ all_pass p (f l ++ gathered less layer_tier ks) (gathered groups layer_tier ls)
          (all_pass p (f l) (gathered less layer_tier ks) passed ∙ h)

      pub passed-empty : (groups less : ℕ) (l : Layer) (ls : List Layer) → groups ≡ suc less → inside l ≡ [] → list_all p (f l) ≡ true
          → list_all p (gathered groups layer_tier (l ∷ ls)) ≡ list_all p (gathered groups layer_tier ls)
      passed-empty groups less l ls more are passed = passed-inside groups less l ls [] more are passed refl

      pub passed-alone : (groups : ℕ) (l : Layer) (ls : List Layer) → groups ≡ 0 → list_all p (f l) ≡ true
          → list_all p (gathered groups layer_tier (l ∷ ls)) ≡ list_all p (gathered groups layer_tier ls)
      passed-alone groups l ls none passed =
          ap (list_all p) (gathered-alone groups l ls none) ∙ all_pass p (f l) (gathered groups layer_tier ls) passed
