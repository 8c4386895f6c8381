-- What holds of each layer in drawing order: of a layer, of those in it, and of the layers of a list.
use Rattle.std.proofs.Common.{◌≡◌, ℕ, zero, suc, ◌+◌, List, [], ◌∷◌, length, length-append, Option, Some, None, refl, sym, ap, ◌∙◌, subst}
use Rattle.map_model.specs.declared.parts.Body.{Body}
use Rattle.map_model.specs.declared.parts.Body.TheVariants.{Group}
use Rattle.map_model.specs.declared.parts.Layer.{Layer}
use Rattle.map_model.specs.Groups.{tree, drawn, bare, group_in}
use Rattle.map_model.specs.Keeping.{inner_tier}
use Rattle.map_model.specs.Lists.{Each, or_empty}
use Rattle.map_model.proofs.GroupBodies.{group_cases, group_in-Group}
use Rattle.map_model.proofs.Trees.{below, tree-is}

module _ (P : ℕ × Layer → Type 0) where
  pub tree-Each : (groups tier : ℕ) (l : Layer) → Each P (tree groups tier l) → P (tier, bare l) × Each P (below groups tier l)
  tree-Each groups tier l h = subst (Each P) (tree-is groups tier l) h

  pub Each-tree : (groups tier : ℕ) (l : Layer) → P (tier, bare l) → Each P (below groups tier l) → Each P (tree groups tier l)
  Each-tree groups tier l own more = subst (Each P) (sym (tree-is groups tier l)) (own, more)

-- ---- how many
pub length-tree : (groups tier : ℕ) (l : Layer) → length (tree groups tier l) ≡ suc (length (below groups tier l))
length-tree groups tier l = ap length (tree-is groups tier l)

pub length-drawn : (groups tier : ℕ) (l : Layer) (ls : List Layer)
    → length (drawn groups tier (l ∷ ls)) ≡ suc (length (below groups tier l)) + length (drawn groups tier ls)
length-drawn groups tier l ls = length-append (tree groups tier l) (drawn groups tier ls)
    ∙ ap (λ n. n + length (drawn groups tier ls)) (length-tree groups tier l)

-- ---- the layers of a body
abbrev pub drawn_in : ℕ → ℕ → Body → List (ℕ × Layer)
drawn_in zero tier b = []
drawn_in (suc groups) tier b = drawn groups (inner_tier tier) (or_empty (group_in b))

pub below-drawn_in : (groups tier : ℕ) (l : Layer) → below groups tier l ≡ drawn_in groups tier l.body
below-drawn_in zero tier l = refl
below-drawn_in (suc groups) tier l = refl

pub drawn_in-none : (groups tier : ℕ) (b : Body) → group_in b ≡ None → drawn_in groups tier b ≡ []
drawn_in-none zero tier b none = refl
drawn_in-none (suc groups) tier b none = ap (λ o. drawn groups (inner_tier tier) (or_empty o)) none

pub drawn_in-Group : (groups tier : ℕ) (ls : List Layer) → drawn_in (suc groups) tier (Group ls) ≡ drawn groups (inner_tier tier) ls
drawn_in-Group groups tier ls = ap (λ o. drawn groups (inner_tier tier) (or_empty o)) (group_in-Group ls)

abbrev layers_in : List Layer → Option (List Layer) → List Layer
layers_in other None = other
layers_in other (Some ls) = ls

-- a group is that of its layers
pub Group-inside : (b : Body) (ls : List Layer) → group_in b ≡ Some ls → Group ls ≡ b
Group-inside =
    group_cases (λ b. (ls : List Layer) → group_in b ≡ Some ls → Group ls ≡ b)
    (λ b none same ls e. let other : None ≡ Some ls = sym none ∙ e in cc)
    (λ ks ls e. ap Group (sym (ap (layers_in ls) (sym (group_in-Group ks) ∙ e))))
