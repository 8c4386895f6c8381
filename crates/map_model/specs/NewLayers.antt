-- A layer that is put into a map, with all that stand in it, as it is given.
use Rattle.std.specs.Prelude.{ℕ, ◌*◌, ◌++◌, List, [], ◌∷◌, length}
use Rattle.map_model.specs.declared.limits.TheConstants.{MAX_NEXT_ID}
use Rattle.map_model.specs.declared.parts.Layer.{Layer}
use Rattle.map_model.specs.declared.parts.MapParts.{MapParts}
use Rattle.map_model.specs.Groups.{all_drawn}
use Rattle.map_model.specs.Lists.{Distinct}
use Rattle.map_model.specs.WellFormed.{AreLayers, layer_ids, object_ids}

-- the ids of a layer and of those that stand in it, and those of their objects
abbrev pub own_layer_ids : Layer → List ℕ
own_layer_ids l = layer_ids (l ∷ [])

abbrev pub own_object_ids : Layer → List ℕ
own_object_ids l = object_ids (l ∷ [])

-- how many layers it is, those that stand in it counted too
abbrev pub own_count : Layer → ℕ
own_count l = length (all_drawn (l ∷ []))

-- it alone could be all layers of a map of that size, and no id stands twice in it and in the map
pub record IsNewLayer (m : MapParts) (l : Layer) : Type 0 where
  pub alone : AreLayers (m.width * m.height) MAX_NEXT_ID MAX_NEXT_ID (l ∷ [])
  pub layers_apart : Distinct (own_layer_ids l ++ layer_ids m.layers)
  pub objects_apart : Distinct (own_object_ids l ++ object_ids m.layers)
