-- Layers that stand where the layers were last changed or gone to.
use Rattle.std.proofs.Common.{◌≡◌, ◌≢◌, ℕ, zero, suc, ◌-◌, ◌<◌, List, [], ◌∷◌, true, Option, None, Some, IfSome, is_some, refl, ap, ◌∙◌, arith}
use Rattle.std.specs.List.{flat_map, slice_get, slice_set}
use Rattle.map_model.specs.declared.parts.Layer.{Layer}
use Rattle.map_model.specs.Groups.{drawn, find_one, group_of, holds, inside, layer_among}
use Rattle.map_model.specs.Keeping.{inner_tier}
use Rattle.map_model.specs.Lists.{Distinct, or_empty}
use Rattle.map_model.specs.Ways.{IsDrawnIn}
use Rattle.map_model.specs.WellFormed.{ids_of}
use Rattle.map_model.proofs.Places.{Distinct-tree, found-inside, position-held, position-holder}
use Rattle.map_model.proofs.Trees.{tree-is}
use Rattle.map_model.proofs.Walks.{first_some-at, own-found}

-- a layer that is put where it stands leaves the list as it is
pub set-same : (layers : List Layer) (at : ℕ) (layer : Layer) → slice_get layers at ≡ Some layer → slice_set layers at layer ≡ layers
set-same [] at layer e = refl
set-same (l ∷ layers) zero layer e = grind arith
set-same (l ∷ layers) (suc at) layer e = ap (λ rest. l ∷ rest) (set-same layers at layer e)

-- a layer of a list is drawn, and so is one that is drawn in the group there
pub IsDrawnIn-own : (groups : ℕ) (ls : List Layer) (at : ℕ) (l : Layer) → slice_get ls at ≡ Some l → IsDrawnIn groups ls l
IsDrawnIn-own groups ls at l e tier distinct = own-found l.id groups ls at l (position-holder l.id groups tier ls at l e refl distinct) e refl

IsDrawnIn-group : (groups : ℕ) (ls ks : List Layer) (at : ℕ) (k l : Layer) → slice_get ls at ≡ Some k → 0 < groups → group_of k ≡ Some ks
    → IsDrawnIn (groups - 1) ks l → IsDrawnIn groups ls l
IsDrawnIn-group zero ls ks at k l e some g h tier distinct = absurd (omega (arith, some))
IsDrawnIn-group (suc groups) ls ks at k l e some g h tier distinct =
    let same : suc groups - 1 ≡ groups = omega arith in
    let own = Distinct-tree (suc groups) tier ls at k e distinct in
    let within : Distinct (k.id ∷ flat_map ids_of (drawn groups (inner_tier tier) (inside k))) = rw (tree-is (suc groups) tier k) at own in
    let those : inside k ≡ ks = ap or_empty g in
    let drawn_there : layer_among l.id groups ks ≡ Some l = (rw same at h) (inner_tier tier) ((rw those at within).1) in
    let one : find_one l.id (suc groups) k ≡ Some l = found-inside groups tier k l (rw those drawn_there) own in
    let held : holds l.id (suc groups) k ≡ true = ap is_some one in
    let place = position-held l.id (suc groups) tier ls at k e held distinct in
    (first_some-at (find_one l.id (suc groups)) ls at k place e).0 ∙ one

-- what is found in the group of a layer is drawn in the layers where that one stands; f gives its layer
pub IsDrawnIn-inside : {X : Type 0} (groups : ℕ) (ls ks : List Layer) (at : ℕ) (k : Layer) (f : X → Layer) (found : Option X) → slice_get ls at ≡ Some k
    → groups ≢ 0 → group_of k ≡ Some ks
    → IfSome found (λ x. IsDrawnIn (groups - 1) ks (f x)) → IfSome found (λ x. IsDrawnIn groups ls (f x))
IsDrawnIn-inside groups ls ks at k f None e some g h = tt
IsDrawnIn-inside groups ls ks at k f (Some x) e some g h = IsDrawnIn-group groups ls ks at k (f x) e (omega (arith, some)) g h
