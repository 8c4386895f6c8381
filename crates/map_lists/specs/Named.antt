-- The first thing of a name.
use Rattle.std.specs.Prelude.{ℕ, List, Bool, false, find, Option, Some, None, if◌then◌else◌, option_and_then}
use Rattle.std.specs.Option.{option_map}
use Rattle.std.specs.Str.{bytes_eq}
use Rattle.map_model.specs.declared.parts.Layer.{Layer}
use Rattle.map_model.specs.declared.parts.MapParts.{MapParts}
use Rattle.map_model.specs.declared.parts.Object.{Object}
use Rattle.map_model.specs.Groups.{all_drawn}
use Rattle.map_model.specs.Lists.{first_some}
use Rattle.map_model.specs.Objects.{objects_of}
use Rattle.map_lists.specs.declared.named.Subject.{Subject}
use Rattle.map_lists.specs.declared.named.Subject.TheVariants as subjects

-- whether an object has a name, and this one
abbrev pub is_name : List ℕ → Option (List ℕ) → Bool
is_name name None = false
is_name name (Some own) = bytes_eq own name

abbrev pub has_name : List ℕ → Object → Bool
has_name name o = is_name name o.name

-- the id of the first of these objects that has it
abbrev pub id_of_named : List ℕ → List Object → Option ℕ
id_of_named name os = option_map (λ o. o.id) (find (has_name name) os)

-- the id of a layer, or of the first of its objects, that has the name
abbrev pub id_in_layer : Subject → List ℕ → ℕ × Layer → Option ℕ
id_in_layer subjects.Layer name d = if bytes_eq d.1.name name then Some d.1.id else None
id_in_layer subjects.Object name d = option_and_then (id_of_named name) (objects_of d.1)

-- the id of the first layer or object in drawing order that has the name
abbrev pub id_of_name : Subject → List ℕ → MapParts → Option ℕ
id_of_name subject name m = first_some (id_in_layer subject name) (all_drawn m.layers)
