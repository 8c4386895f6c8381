-- Whether what must differ does: layer ids, object ids and first ids over the whole map, and names within one owner.
use Rattle.std.specs.Prelude.{ℕ, ◌==◌, ◌&&◌, List, [], ◌∷◌, map, Bool, true, not, nat_lt}
use Rattle.std.specs.List.{list_any, list_all, flat_map}
use Rattle.std.specs.Str.{bytes_eq}
use Rattle.map_model.specs.declared.parts.Property.{Property}
use Rattle.map_model.specs.declared.parts.Object.{Object}
use Rattle.map_model.specs.declared.parts.Body.{Body}
use Rattle.map_model.specs.declared.parts.Layer.{Layer}
use Rattle.map_model.specs.declared.parts.MapParts.{MapParts}
use Rattle.map_model.specs.Bodies.{objects_in}
use Rattle.map_model.specs.Groups.{all_drawn}
use Rattle.map_model.specs.Lists.{or_empty}
use Rattle.map_model.specs.WellFormed.{layer_ids, object_ids, first_ids_of, names_of_property}

-- no element is there twice, by this test
abbrev pub are_distinct : {A : Type 0} → (A → A → Bool) → List A → Bool
are_distinct eq [] = true
are_distinct eq (x ∷ xs) = not (list_any (eq x) xs) && are_distinct eq xs

-- the lists of properties of objects, of a layer without those in it, and of a map
abbrev pub lists_in : Body → List (List Property)
lists_in b = map (λ (o : Object). o.properties) (or_empty (objects_in b))

abbrev pub lists_of_layer : Layer → List (List Property)
lists_of_layer l = l.properties ∷ lists_in l.body

abbrev pub lists_of_drawn : ℕ × Layer → List (List Property)
lists_of_drawn d = lists_of_layer d.1

abbrev pub property_lists : MapParts → List (List Property)
property_lists m = m.properties ∷ flat_map lists_of_drawn (all_drawn m.layers)

-- no name stands twice in a list of properties
abbrev pub are_named_apart : List Property → Bool
are_named_apart ps = are_distinct bytes_eq (flat_map names_of_property ps)

-- no id and no first id is used twice, nor a name within one owner
abbrev pub ids_are_unique : MapParts → Bool
ids_are_unique m =
    are_distinct (λ a b. a == b) (layer_ids m.layers)
    && are_distinct (λ a b. a == b) (object_ids m.layers)
    && are_distinct (λ a b. a == b) (flat_map first_ids_of m.tilesets)
    && list_all are_named_apart (property_lists m)

-- each id is below the next one
abbrev pub are_below_next : MapParts → Bool
are_below_next m = list_all (λ id. nat_lt id m.next_layer_id) (layer_ids m.layers) && list_all (λ id. nat_lt id m.next_object_id) (object_ids m.layers)
