-- The way to a layer that stands in groups.
use Rattle.std.specs.Prelude.{◌≡◌, ◌≢◌, ℕ, zero, suc, List, [], ◌∷◌, Some, IsSomeAnd}
use Rattle.std.specs.List.{flat_map, position, slice_get}
use Rattle.map_model.specs.declared.parts.Layer.{Layer}
use Rattle.map_model.specs.Groups.{drawn, group_of, holds, layer_among}
use Rattle.map_model.specs.Lists.{Distinct}
use Rattle.map_model.specs.WellFormed.{ids_of}

-- The places lead from a layer to the one with the id: the first is a place among the layers that stand in it, the next one a
-- place in the group there, and so on. From the layer with the id there is none to go to.
unfoldable pub LeadsFrom : ℕ → ℕ → List ℕ → Layer → Type 0
LeadsFrom id groups [] l = l.id ≡ id
LeadsFrom id zero (at ∷ way) l = ⊥
LeadsFrom id (suc groups) (at ∷ way) l = (l.id ≢ id) × IsSomeAnd (group_of l)
    (λ ls. (position (holds id groups) ls ≡ Some at) × IsSomeAnd (slice_get ls at) (LeadsFrom id groups way))

-- the places lead from a list of layers to the layer with the id: the first is a place in the list
abbrev pub IsWay : ℕ → ℕ → List ℕ → List Layer → Type 0
IsWay id groups [] ls = ⊥
IsWay id groups (at ∷ way) ls = (position (holds id groups) ls ≡ Some at) × IsSomeAnd (slice_get ls at) (LeadsFrom id groups way)

-- The places lead from a layer to one with the id, be it the first one or not.
unfoldable pub ArrivesAt : ℕ → List ℕ → Layer → Type 0
ArrivesAt id [] l = l.id ≡ id
ArrivesAt id (at ∷ way) l = IsSomeAnd (group_of l) (λ ls. IsSomeAnd (slice_get ls at) (ArrivesAt id way))

-- the places lead from a list of layers to one with the id, be it the first one or not
abbrev pub ArrivesIn : ℕ → List ℕ → List Layer → Type 0
ArrivesIn id [] ls = ⊥
ArrivesIn id (at ∷ way) ls = IsSomeAnd (slice_get ls at) (ArrivesAt id way)

-- A layer stands among layers, or in a group of them: where ids are distinct, it is the one with its id.
abbrev pub IsDrawnIn : ℕ → List Layer → Layer → Type 0
IsDrawnIn groups ls l = (tier : ℕ) → Distinct (flat_map ids_of (drawn groups tier ls)) → layer_among l.id groups ls ≡ Some l
