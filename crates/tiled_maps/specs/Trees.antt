-- The tree of a map that is set aside, and of one that is put back.
use Rattle.std.specs.Prelude.{◌≡◌, ◌<◌, ◌≤◌, ◌⊎◌, true, false, Result, Ok, Err, Option, Some, None, unwrap_or}
use Rattle.serde_json.specs.Data.{Data, depth}
use Rattle.serde_json.specs.Read.{max_depth}
use Rattle.serde_json.specs.View.{view}
use Rattle.serde_json.specs.declared.value.Value.{Value}
use Rattle.infinite_maps.specs.Finite.{IsUnlike, finite_of}
use Rattle.infinite_maps.specs.Infinite.{is_infinite, infinite_of}
use Rattle.infinite_maps.specs.Overlaps.{has_overlap}
use Rattle.infinite_maps.specs.Sound.{has_bad_chunk}
use Rattle.infinite_maps.specs.Survey.{is_too_large}
use Rattle.infinite_maps.specs.declared.fault.Fault.{Fault as InfiniteFault}
use Rattle.infinite_maps.specs.declared.fault.Fault.TheVariants as infinite
use Rattle.tiled_maps.specs.declared.fault.Fault.{Fault}
use Rattle.tiled_maps.specs.declared.fault.Fault.TheVariants.{Memory, NotJson, NameTaken, TooManyFractions, TooDeep, BadChunk, Overlap, TooLarge, Unlike}
use Rattle.fractions.specs.declared.place.Place.TheVariants.{Map}
use Rattle.fractions.specs.Fractions.{has_fraction}
use Rattle.fractions.specs.Aside.{set_aside_of}
use Rattle.fractions.specs.Back.{back}

-- the fault of a map that is not made finite
abbrev pub fault_of : InfiniteFault → Fault
fault_of infinite.Memory = Memory
fault_of infinite.BadChunk = BadChunk
fault_of infinite.Overlap = Overlap
fault_of infinite.TooLarge = TooLarge
fault_of infinite.Unlike = Unlike

-- t is d with its fractions set aside; or, if d is an infinite map, a finite map whose infinite map is that
pub record IsAside (d t : Data) : Type 0 where
  pub plain : is_infinite d ≡ false → t ≡ set_aside_of d
  pub spread : is_infinite d ≡ true → infinite_of t ≡ Some (set_aside_of d)

-- the map as an infinite one, if it was one; then its fractions are put back
abbrev pub spread_of : Data → Data
spread_of d = unwrap_or (infinite_of d) d

abbrev pub put_back_of : Data → Data
put_back_of d = back (spread_of d)

-- with its fractions set aside, or made finite, the tree nests too deep for a text
abbrev pub IsTooDeep : Data → Type 0
IsTooDeep d = (max_depth < depth (set_aside_of d)) ⊎ ((is_infinite (set_aside_of d) ≡ true) × (max_depth < depth (finite_of (set_aside_of d))))

-- the finite map of an infinite one does not lead back to it, or has a fraction
abbrev pub HasNoFinite : Data → Type 0
HasNoFinite a = IsUnlike a ⊎ (has_fraction Map (finite_of a) ≡ true)

-- ---- within both
abbrev pub MakesWhole : Data → Result Value Fault → Type 0
MakesWhole d (Ok whole) = (view whole ≡ set_aside_of d) × (depth d ≤ max_depth → depth (view whole) ≤ max_depth)
MakesWhole d (Err Memory) = Unit {0}
MakesWhole d (Err NotJson) = ⊥
MakesWhole d (Err NameTaken) = ⊥
MakesWhole d (Err TooManyFractions) = ⊥
MakesWhole d (Err TooDeep) = max_depth < depth (set_aside_of d)
MakesWhole d (Err BadChunk) = ⊥
MakesWhole d (Err Overlap) = ⊥
MakesWhole d (Err TooLarge) = ⊥
MakesWhole d (Err Unlike) = ⊥

-- a finite map of an infinite one, which has a text
pub record IsFiniteOf (a t : Data) : Type 0 where
  pub spread : infinite_of t ≡ Some a
  pub finite : is_infinite t ≡ false
  pub whole : has_fraction Map t ≡ false
  pub within : depth t ≤ max_depth

-- the finite map of an infinite one, or why there is none
abbrev pub MakesFinite : Data → Result (Option Value) Fault → Type 0
MakesFinite a (Ok None) = is_infinite a ≡ false
MakesFinite a (Ok (Some finite)) = (is_infinite a ≡ true) × IsFiniteOf a (view finite)
MakesFinite a (Err Memory) = Unit {0}
MakesFinite a (Err NotJson) = ⊥
MakesFinite a (Err NameTaken) = ⊥
MakesFinite a (Err TooManyFractions) = ⊥
MakesFinite a (Err TooDeep) = (is_infinite a ≡ true) × (max_depth < depth (finite_of a))
MakesFinite a (Err BadChunk) = (is_infinite a ≡ true) × (has_bad_chunk a ≡ true)
MakesFinite a (Err Overlap) = (is_infinite a ≡ true) × (has_overlap a ≡ true)
MakesFinite a (Err TooLarge) = (is_infinite a ≡ true) × (is_too_large a ≡ true)
MakesFinite a (Err Unlike) = (is_infinite a ≡ true) × HasNoFinite a
