-- The lists of properties of layers.
use Rattle.std.proofs.Common.{◌≡◌, List, [], ◌∷◌, map, Option, ap}
use Rattle.map_model.specs.declared.parts.Layer.{Layer}
use Rattle.map_model.specs.declared.parts.Object.{Object}
use Rattle.map_model.specs.Groups.{bare}
use Rattle.map_model.specs.Lists.{or_empty}
use Rattle.map_model.proofs.GroupBodies.{objects_in-with}
use Rattle.map_json.specs.Distinctness.{lists_of_layer}

-- those of a layer are its own
pub lists_of_bare : (l : Layer) → lists_of_layer (bare l) ≡ lists_of_layer l
lists_of_bare l =
    ap (λ (os : Option (List Object)). l.properties ∷ map (λ (o : Object). o.properties) (or_empty os)) (objects_in-with (λ ls. []) l.body)
