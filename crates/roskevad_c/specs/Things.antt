-- Sizes, layers and documents, as C sees them, and what it is told of one thing.
use Rattle.std.specs.Prelude.{◌≡◌, ◌⊎◌, ℕ, nat_eq, nat_le, List, ◌++◌, map, drop, length, Option, None, Some, option_and_then, unwrap_or}
use Rattle.std.specs.Prelude.{if◌then◌else◌}
use Rattle.std.specs.List.{flat_map}
use Rattle.std.specs.Option.{option_map}
use Rattle.map_model.specs.declared.owner.Owner.{Owner}
use Rattle.map_model.specs.declared.owner.Owner.TheVariants as owners
use Rattle.map_model.specs.WellFormed.{first_ids_of, object_ids}
use Rattle.map_lists.specs.Rows.{layer_rows}
use Rattle.map_lists.specs.declared.named.Subject.{Subject}
use Rattle.map_lists.specs.declared.named.Subject.TheVariants as subjects
use Rattle.map_lists.specs.declared.rows.Kind.{Kind}
use Rattle.map_lists.specs.declared.rows.Kind.TheVariants.{Tiles, Objects, Group, Image}
use Rattle.map_lists.specs.declared.rows.LayerRow.{LayerRow}
use Rattle.map_lists.specs.declared.sizes.Sizes.{Sizes}
use Rattle.map_lists.specs.Sizes as map_sizes
use Rattle.memory_editor.specs.Buffers.{filled}
use Rattle.memory_editor.specs.Lookups.{id_of_name_in, layer_in, object_ids_in, object_in, object_layer, properties_in, property_in, status_at, tileset_in}
use Rattle.memory_editor.specs.Parts.{MemoryEditorParts, active_map}
use Rattle.memory_editor.specs.declared.lookups.Status.{Status}
use Rattle.roskevad_c.specs.Answers.{size_of}
use Rattle.roskevad_c.specs.declared.answers.TheConstants.{DONE, NONE, CLOSED, NO_MEMORY}
use Rattle.roskevad_c.specs.declared.things.CLayerRow.{CLayerRow}
use Rattle.roskevad_c.specs.declared.things.DocumentStatus.{DocumentStatus}
use Rattle.roskevad_c.specs.declared.things.MapSizes.{MapSizes}

-- ---- in C's numbers
abbrev pub kind_number : Kind → ℕ
kind_number Tiles = 1
kind_number Objects = 2
kind_number Group = 3
kind_number Image = 4

abbrev pub sizes_of : Sizes → MapSizes
sizes_of s = record {
  width = s.width;
  height = s.height;
  tile_width = s.tile_width;
  tile_height = s.tile_height;
  next_layer = s.next_layer_id;
  next_object = s.next_object_id;
  layers = s.layers;
  tilesets = s.tilesets;
}

abbrev pub row_of : LayerRow → CLayerRow
row_of r = record {
  id = r.id;
  parent = unwrap_or r.parent 0;
  kind = kind_number r.kind;
  is_visible = if r.is_visible then 1 else 0;
  count = r.count;
}

abbrev pub status_of : Status → DocumentStatus
status_of s = record {
  index = s.index;
  count = s.count;
  depth = s.depth;
  is_clean = if s.is_clean then 1 else 0;
  is_active = if s.is_active then 1 else 0;
}

-- the owner of properties, and what is looked for by its name: 1 is the map, 2 a layer, 3 an object
abbrev pub owner_of : ℕ → ℕ → Option Owner
owner_of kind id =
    if nat_eq kind 1 then Some owners.Map else (if nat_eq kind 2 then Some (owners.Layer id) else (if nat_eq kind 3 then Some (owners.Object id) else None))

abbrev pub subject_of : ℕ → Option Subject
subject_of kind = if nat_eq kind 2 then Some subjects.Layer else (if nat_eq kind 3 then Some subjects.Object else None)

-- ---- of the active document's map
abbrev pub object_at : ℕ → MemoryEditorParts → Option (List ℕ)
object_at id s = object_in id (active_map s.machine)

abbrev pub object_layer_at : ℕ → MemoryEditorParts → Option ℕ
object_layer_at id s = object_layer id (active_map s.machine)

abbrev pub layer_at : ℕ → MemoryEditorParts → Option (List ℕ)
layer_at id s = layer_in id (active_map s.machine)

abbrev pub tileset_at : ℕ → MemoryEditorParts → Option (List ℕ)
tileset_at first_id s = tileset_in first_id (active_map s.machine)

abbrev pub properties_at : ℕ → ℕ → MemoryEditorParts → Option (List ℕ)
properties_at kind id s = option_and_then (λ owner. properties_in owner (active_map s.machine)) (owner_of kind id)

abbrev pub property_at : ℕ → ℕ → List ℕ → MemoryEditorParts → Option (List ℕ)
property_at kind id name s = option_and_then (λ owner. property_in owner name (active_map s.machine)) (owner_of kind id)

abbrev pub named_at : ℕ → List ℕ → MemoryEditorParts → Option ℕ
named_at kind name s = option_and_then (λ subject. id_of_name_in subject name (active_map s.machine)) (subject_of kind)

-- the ids of the objects of a layer, or of all layers at 0
abbrev pub object_ids_at : ℕ → MemoryEditorParts → Option (List ℕ)
object_ids_at layer s =
    if nat_eq layer 0 then option_map (λ m. object_ids m.layers) (active_map s.machine) else object_ids_in layer (active_map s.machine)

abbrev pub first_ids_at : MemoryEditorParts → Option (List ℕ)
first_ids_at s = option_map (λ m. flat_map first_ids_of m.tilesets) (active_map s.machine)

abbrev pub rows_at : MemoryEditorParts → Option (List CLayerRow)
rows_at s = option_map (λ m. map row_of (layer_rows m)) (active_map s.machine)

abbrev pub sizes_at : MemoryEditorParts → Option MapSizes
sizes_at s = option_map (λ m. sizes_of (map_sizes.sizes_of m)) (active_map s.machine)

abbrev pub document_status_at : ℕ → MemoryEditorParts → Option DocumentStatus
document_status_at at s = option_map status_of (status_at at s.machine.group)

-- ---- what is given out
-- bytes or ids that may be absent, or there was no memory for them
abbrev pub Gives : Option (List ℕ) → ℕ → List ℕ → List ℕ → Type 0
Gives values answer old new = ((answer ≡ size_of values) × (new ≡ filled values old)) ⊎ ((answer ≡ NO_MEMORY) × (new ≡ old))

abbrev pub Tells : Option (Option (List ℕ)) → ℕ → List ℕ → List ℕ → Type 0
Tells None answer old new = (answer ≡ CLOSED) × (new ≡ old)
Tells (Some values) answer old new = Gives values answer old new

-- the same of rows
abbrev pub count_of_rows : Option (List CLayerRow) → ℕ
count_of_rows None = NONE
count_of_rows (Some rows) = length rows

abbrev pub filled_rows : Option (List CLayerRow) → List CLayerRow → List CLayerRow
filled_rows None buffer = buffer
filled_rows (Some rows) buffer = if nat_le (length rows) (length buffer) then rows ++ drop (length rows) buffer else buffer

abbrev pub GivesRows : Option (List CLayerRow) → ℕ → List CLayerRow → List CLayerRow → Type 0
GivesRows rows answer old new = ((answer ≡ count_of_rows rows) × (new ≡ filled_rows rows old)) ⊎ ((answer ≡ NO_MEMORY) × (new ≡ old))

abbrev pub TellsRows : Option (Option (List CLayerRow)) → ℕ → List CLayerRow → List CLayerRow → Type 0
TellsRows None answer old new = (answer ≡ CLOSED) × (new ≡ old)
TellsRows (Some rows) answer old new = GivesRows rows answer old new

-- a struct, where there is one
abbrev pub TellsOne : {A : Type 0} → Option (Option A) → ℕ → A → A → Type 0
TellsOne None answer old new = (answer ≡ CLOSED) × (new ≡ old)
TellsOne (Some None) answer old new = (answer ≡ NONE) × (new ≡ old)
TellsOne (Some (Some one)) answer old new = (answer ≡ DONE) × (new ≡ one)
