-- What is told of one thing of a map that may be absent, and of the open documents.
use Rattle.std.specs.Prelude.{ℕ, ◌==◌, List, length, Bool, true, false, Option, Some, None, option_and_then, slice_get}
use Rattle.std.specs.List.{flat_map}
use Rattle.std.specs.Option.{option_map}
use Rattle.map_model.specs.declared.owner.Owner.{Owner}
use Rattle.map_model.specs.declared.parts.MapParts.{MapParts}
use Rattle.map_model.specs.Objects.{object_place, objects_of_layer}
use Rattle.map_model.specs.WellFormed.{ids_of_object}
use Rattle.map_lists.specs.declared.named.Subject.{Subject}
use Rattle.map_lists.specs.Named.{id_of_name}
use Rattle.map_json.specs.PartTexts.{layer_head_text, object_text, properties_text, property_text, tileset_text}
use Rattle.undo_stack.specs.History.{History, count, is_clean}
use Rattle.undo_group.specs.Groups.{GroupParts, active_place}
use Rattle.memory_editor.specs.declared.lookups.Status.{Status}

-- ---- a map's
abbrev pub object_ids_in : ℕ → Option MapParts → Option (List ℕ)
object_ids_in layer m = option_and_then (λ n. option_map (flat_map ids_of_object) (objects_of_layer n layer)) m

-- the layer of the object with an id
abbrev pub object_layer : ℕ → Option MapParts → Option ℕ
object_layer id m = option_map (λ p. p.layer) (option_and_then (λ n. object_place n id) m)

abbrev pub id_of_name_in : Subject → List ℕ → Option MapParts → Option ℕ
id_of_name_in subject name m = option_and_then (id_of_name subject name) m

abbrev pub object_in : ℕ → Option MapParts → Option (List ℕ)
object_in id m = option_and_then (λ n. object_text n id) m

abbrev pub layer_in : ℕ → Option MapParts → Option (List ℕ)
layer_in id m = option_and_then (λ n. layer_head_text n id) m

abbrev pub tileset_in : ℕ → Option MapParts → Option (List ℕ)
tileset_in first_id m = option_and_then (λ n. tileset_text n first_id) m

abbrev pub properties_in : Owner → Option MapParts → Option (List ℕ)
properties_in owner m = option_and_then (λ n. properties_text n owner) m

abbrev pub property_in : Owner → List ℕ → Option MapParts → Option (List ℕ)
property_in owner name m = option_and_then (λ n. property_text n owner name) m

-- ---- the open documents
-- whether a place is the active one
abbrev pub is_place : Option ℕ → ℕ → Bool
is_place None place = false
is_place (Some active) place = active == place

-- how one stands
abbrev pub status_of : Bool → History → Status
status_of active h = record { index = h.position; count = count h; depth = length h.levels; is_clean = is_clean h; is_active = active }

-- how the active document stands, where there is one, and else as a new one that is not open
abbrev pub standing_of : Option History → Status
standing_of None = record { index = 0; count = 0; depth = 0; is_clean = true; is_active = false }
standing_of (Some h) = status_of true h

abbrev pub status_at : ℕ → GroupParts → Option Status
status_at place g = option_map (λ d. status_of (is_place (active_place g) place) d.history) (slice_get g.documents place)
