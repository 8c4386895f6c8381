-- The id of a layer of a name, or of its first object that has it, does not rest on what stands in a group.
use Rattle.std.proofs.Common.{◌≡◌, ℕ, List, [], refl, ap, option_and_then}
use Rattle.map_model.specs.declared.parts.Layer.{Layer}
use Rattle.map_model.specs.Groups.{bare}
use Rattle.map_model.proofs.GroupBodies.{objects_in-with}
use Rattle.map_lists.specs.declared.named.Subject.{Subject}
use Rattle.map_lists.specs.declared.named.Subject.TheVariants as subjects
use Rattle.map_lists.specs.Named.{id_in_layer, id_of_named}

pub id_in_layer-bare : (subject : Subject) (name : List ℕ) (a b : ℕ) (l : Layer) → id_in_layer subject name (a, bare l) ≡ id_in_layer subject name (b, l)
id_in_layer-bare subjects.Layer name a b l = refl
id_in_layer-bare subjects.Object name a b l = ap (option_and_then (id_of_named name)) (objects_in-with (λ ls. []) l.body)
