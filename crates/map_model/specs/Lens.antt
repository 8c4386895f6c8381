-- Lenses: what can be read of a value, and changed there.
use Rattle.std.specs.Prelude.{◌≡◌, ℕ, List, Bool, Option, Some, None, option_and_then, find, slice_get}
use Rattle.std.specs.FinSet as set
use Rattle.region.specs.Cells.{cell_cmp}
use Rattle.map_model.specs.declared.parts.Layer.{Layer}
use Rattle.map_model.specs.declared.parts.Object.{Object}
use Rattle.map_model.specs.declared.parts.Tileset.{Tileset}
use Rattle.map_model.specs.declared.parts.Placing.{Placing}
use Rattle.map_model.specs.declared.next_ids.NextIds.{NextIds}
use Rattle.map_model.specs.declared.place.ObjectPlace.{ObjectPlace}
use Rattle.map_model.specs.Document.{DocumentParts, with_map, with_selection}
use Rattle.map_model.specs.Groups.{group_of, layer_with_layers}
use Rattle.map_model.specs.Layers.{layer_name, layer_with_name, layer_visible, layer_with_visible, next_ids_of, with_next_ids}
use Rattle.map_model.specs.Lists.{change_at, change_first}
use Rattle.map_model.specs.Objects.{objects_of, layer_with_objects, object_place, object_placing, object_with_placing}
use Rattle.map_model.specs.Lookups.{layer_of, with_layer}
use Rattle.map_model.specs.Tilesets.{tileset_with, with_tileset}

-- a lens of A: its value, where there is one, and A with a function of that value in its place
pub record Lens (A V : Type 0) : Type 0 where
  pub get : A → Option V
  pub update : (V → V) → A → A

-- the laws of a lens
pub record IsLawfulLens {A V : Type 0} (p : Lens A V) : Type 0 where
  pub get-update : (f : V → V) (v : V) (a : A) → p.get a ≡ Some v → p.get (p.update f a) ≡ Some (f v)
  pub update-same : (f : V → V) (v : V) (a : A) → p.get a ≡ Some v → f v ≡ v → p.update f a ≡ a
  pub update-update : (f g : V → V) (a : A) → p.update f (p.update g a) ≡ p.update (λ v. f (g v)) a

-- two lenses of one value that do not meet
pub record AreApart {A V W : Type 0} (p : Lens A V) (q : Lens A W) : Type 0 where
  pub get-left : (g : W → W) (a : A) → p.get (q.update g a) ≡ p.get a
  pub get-right : (f : V → V) (a : A) → q.get (p.update f a) ≡ q.get a
  pub swapped : (f : V → V) (g : W → W) (a : A) → p.update f (q.update g a) ≡ q.update g (p.update f a)

-- a value put in
abbrev pub put : {A V : Type 0} → Lens A V → V → A → A
put p v = p.update (λ own. v)

-- a lens that is always there
abbrev pub whole : {A V : Type 0} → (A → V) → (V → A → A) → Lens A V
whole get set = record { get = λ a. Some (get a); update = λ f a. set (f (get a)) a }

-- a lens through a lens
abbrev pub inner : {A V W : Type 0} → Lens A V → Lens V W → Lens A W
inner p q = record { get = λ a. option_and_then q.get (p.get a); update = λ f. p.update (q.update f) }

-- a lens of the first element that passes a test
abbrev pub of_first : {A V : Type 0} → (A → Bool) → Lens A V → Lens (List A) V
of_first test p = record { get = λ xs. option_and_then p.get (find test xs); update = λ f. change_first test (p.update f) }

-- a lens of the element at a place
abbrev pub of_place : {A V : Type 0} → ℕ → Lens A V → Lens (List A) V
of_place k p = record { get = λ xs. option_and_then p.get (slice_get xs k); update = λ f. change_at k (p.update f) }

-- f put to use at the place that was found, where there is one
abbrev pub update_found : {A K V : Type 0} → (K → Lens A V) → (V → V) → A → Option K → A
update_found p f a None = a
update_found p f a (Some k) = (p k).update f a

-- a lens at the place that a look-up finds
abbrev pub found : {A K V : Type 0} → (A → Option K) → (K → Lens A V) → Lens A V
found place p = record { get = λ a. option_and_then (λ k. (p k).get a) (place a); update = λ f a. update_found p f a (place a) }

-- ---- lenses of a layer
abbrev pub name : Lens Layer (List ℕ)
name = whole layer_name layer_with_name

abbrev pub visible : Lens Layer Bool
visible = whole layer_visible layer_with_visible

-- the objects, where it is an object layer
abbrev pub objects : Lens Layer (List Object)
objects = record { get = objects_of; update = layer_with_objects }

-- the layers, where it is a group
abbrev pub group : Lens Layer (List Layer)
group = record { get = group_of; update = layer_with_layers }

-- ---- lenses of an object
abbrev pub placing : Lens Object Placing
placing = whole object_placing object_with_placing

-- ---- lenses of a document
-- the layers
abbrev pub layers : Lens DocumentParts (List Layer)
layers = whole (λ d. d.map.layers) (λ ls d. record d { map = record d.map { layers = ls } })

-- a lens of the layer with an id
abbrev pub of_layer : {V : Type 0} → ℕ → Lens Layer V → Lens DocumentParts V
of_layer id p = record { get = λ d. option_and_then p.get (layer_of d.map id); update = λ f. with_map (with_layer id (p.update f)) }

-- the layers among which the layers of this parent stand: those of a group, or else the map's own
abbrev pub siblings : Option ℕ → Lens DocumentParts (List Layer)
siblings None = layers
siblings (Some id) = of_layer id group

-- the objects of the object layer with an id
abbrev pub layer_objects : ℕ → Lens DocumentParts (List Object)
layer_objects id = of_layer id objects

-- a lens of the object at a place
abbrev pub of_object : {V : Type 0} → ObjectPlace → Lens Object V → Lens DocumentParts V
of_object place p = of_layer place.layer (inner objects (of_place place.at p))

-- the placing of the object with an id
abbrev pub placing_with_id : ℕ → Lens DocumentParts Placing
placing_with_id id = found (λ d. object_place d.map id) (λ place. of_object place placing)

-- the tilesets
abbrev pub tilesets : Lens DocumentParts (List Tileset)
tilesets = whole (λ d. d.map.tilesets) (λ ts d. record d { map = record d.map { tilesets = ts } })

-- a lens of the tileset with a first id
abbrev pub of_tileset : {V : Type 0} → ℕ → Lens Tileset V → Lens DocumentParts V
of_tileset first_id p = record {
  get = λ d. option_and_then p.get (tileset_with d.map first_id);
  update = λ f. with_map (with_tileset first_id (p.update f));
}

-- the next ids
abbrev pub next_ids : Lens DocumentParts NextIds
next_ids = whole (λ d. next_ids_of d.map) (λ n d. record d { map = with_next_ids n.layer n.object d.map })

-- the next object id
abbrev pub next_object_id : Lens DocumentParts ℕ
next_object_id = whole (λ d. d.map.next_object_id) (λ n d. record d { map = record d.map { next_object_id = n } })

-- the selection
abbrev pub selection : Lens DocumentParts (set.FinSet cell_cmp)
selection = whole (λ d. d.selection) with_selection
