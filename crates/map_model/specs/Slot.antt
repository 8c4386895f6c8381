-- Slots: places of a document at which a thing can be put in, and taken out.
use Rattle.std.specs.Prelude.{◌≡◌, ℕ, ◌+◌, ◌-◌, ◌<◌, ◌≤◌, List, length, slice_get, Option, Some, IsSome, IsSomeAnd, option_and_then}
use Rattle.std.specs.List.{insert, remove}
use Rattle.map_model.specs.declared.parts.Layer.{Layer}
use Rattle.map_model.specs.declared.parts.Tileset.{Tileset}
use Rattle.map_model.specs.declared.parts.Object.{Object}
use Rattle.map_model.specs.declared.next_ids.NextIds.{NextIds}
use Rattle.map_model.specs.declared.place.LayerPlace.{LayerPlace}
use Rattle.map_model.specs.declared.place.ObjectPlace.{ObjectPlace}
use Rattle.map_model.specs.Document.{DocumentParts}
use Rattle.map_model.specs.Lens.{Lens, put, siblings, next_ids, tilesets, layer_objects, next_object_id}

-- a place at which a thing can stand: the document with one there and without it, and when it is vacant and filled
pub record Slot (X : Type 0) : Type 1 where
  pub item : DocumentParts → Option X
  pub with_item : X → DocumentParts → DocumentParts
  pub without_item : DocumentParts → DocumentParts
  pub is_vacant : DocumentParts → Type 0
  pub is_filled : DocumentParts → Type 0

-- the laws of a slot
pub record IsLawfulSlot {X : Type 0} (s : Slot X) : Type 0 where
  pub there : (d : DocumentParts) → s.is_filled d → IsSome (s.item d)
  pub filled : (x : X) (d : DocumentParts) → s.is_vacant d → s.is_filled (s.with_item x d)
  pub without-with : (x : X) (d : DocumentParts) → s.is_vacant d → s.without_item (s.with_item x d) ≡ d
  pub vacated : (x : X) (d : DocumentParts) → s.is_filled d → s.item d ≡ Some x → s.is_vacant (s.without_item d)
  pub with-without : (x : X) (d : DocumentParts) → s.is_filled d → s.item d ≡ Some x → s.with_item x (s.without_item d) ≡ d

-- the place k of a list
abbrev pub slot_in : {X : Type 0} → Lens DocumentParts (List X) → ℕ → Slot X
slot_in p k = record {
  item = λ d. option_and_then (λ xs. slice_get xs k) (p.get d);
  with_item = λ x. p.update (λ xs. insert xs k x);
  without_item = p.update (λ xs. remove xs k);
  is_vacant = λ d. IsSomeAnd (p.get d) (λ xs. k ≤ length xs);
  is_filled = λ d. IsSome (option_and_then (λ xs. slice_get xs k) (p.get d));
}

-- the place behind a list, for a thing with an id: the next id is `next` while it is away, and `raised` once it is there
abbrev pub next_slot_in : {X : Type 0} → Lens DocumentParts (List X) → Lens DocumentParts ℕ → ℕ → ℕ → Slot X
next_slot_in p ids next raised = record {
  item = λ d. option_and_then (λ xs. slice_get xs (length xs - 1)) (p.get d);
  with_item = λ x d. ids.update (λ n. raised) (p.update (λ xs. insert xs (length xs) x) d);
  without_item = λ d. ids.update (λ n. next) (p.update (λ xs. remove xs (length xs - 1)) d);
  is_vacant = λ d. (ids.get d ≡ Some next) × IsSome (p.get d);
  is_filled = λ d. (ids.get d ≡ Some raised) × IsSomeAnd (p.get d) (λ xs. 0 < length xs);
}

-- the place k of a list, for a thing with ids: the next ids are `next` while it is away, and `raised` once it is there
abbrev pub raising_slot_in : {X V : Type 0} → Lens DocumentParts (List X) → Lens DocumentParts V → V → V → ℕ → Slot X
raising_slot_in p ids next raised k = record {
  item = (slot_in p k).item;
  with_item = λ x d. put ids raised ((slot_in p k).with_item x d);
  without_item = λ d. put ids next ((slot_in p k).without_item d);
  is_vacant = λ d. (ids.get d ≡ Some next) × (slot_in p k).is_vacant d;
  is_filled = λ d. (ids.get d ≡ Some raised) × (slot_in p k).is_filled d;
}

-- ---- slots of layers
-- the place of a layer among its siblings
abbrev pub layer_slot : LayerPlace → Slot Layer
layer_slot place = slot_in (siblings place.parent) place.at

-- the same of a layer that raises the next ids so
abbrev pub new_layer_slot : LayerPlace → NextIds → NextIds → Slot Layer
new_layer_slot place next raised = raising_slot_in (siblings place.parent) next_ids next raised place.at

-- ---- the place of a tileset
abbrev pub tileset_slot : ℕ → Slot Tileset
tileset_slot at = slot_in tilesets at

-- ---- slots of objects
-- the place of an object in its layer
abbrev pub object_slot : ObjectPlace → Slot Object
object_slot place = slot_in (layer_objects place.layer) place.at

-- the place behind the last object of a layer, of an object that raises the next object id so
abbrev pub next_object_slot : ℕ → ℕ → ℕ → Slot Object
next_object_slot layer next raised = next_slot_in (layer_objects layer) next_object_id next raised
