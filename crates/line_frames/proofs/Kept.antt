-- What stands at the places that a change of one layer does not touch.
use Rattle.std.proofs.Common.{◌≡◌, ℕ, List, [], ◌+◌, ◌*◌, nat_lt, ◌&&◌, true, cond, find, map, Option, Some, None, option_map, option_and_then}
use Rattle.std.proofs.Common.{refl, sym, ap, ◌∙◌}
use Rattle.std.specs.List.{slice_get, position}
use Rattle.map_model.specs.declared.owner.MemberOwner.TheVariants as members
use Rattle.map_model.specs.declared.owner.Owner.TheVariants as owners
use Rattle.map_model.specs.declared.parts.Body.{Body}
use Rattle.map_model.specs.declared.parts.Body.TheVariants.{Group'}
use Rattle.map_model.specs.declared.parts.Layer.{Layer}
use Rattle.map_model.specs.declared.parts.Object.{Object}
use Rattle.map_model.specs.declared.parts.Property.{Property}
use Rattle.map_model.specs.declared.parts.MapParts.{MapParts}
use Rattle.map_model.specs.declared.place.ObjectPlace.{ObjectPlace}
use Rattle.map_model.specs.declared.place.OwnerPlace.{OwnerPlace}
use Rattle.map_model.specs.declared.place.OwnerPlace.TheVariants as places
use Rattle.map_model.specs.Bodies.{tile_at}
use Rattle.map_model.specs.Groups.{all_drawn, bare, body_with_layers, has_id, inside}
use Rattle.map_model.specs.Document.{DocumentParts, with_map}
use Rattle.map_model.specs.Heads.{head, layer_head, object_head}
use Rattle.map_model.specs.Lens.{of_object}
use Rattle.map_model.specs.Lookups.{cell_of, layer_of, with_layer}
use Rattle.map_model.specs.Objects.{has_object_id, object_at, object_place, objects_of, place_in_layer}
use Rattle.map_model.specs.Properties.{has_name, layer_properties, object_properties, owner_place, properties_of}
use Rattle.map_model.proofs.GroupBodies.{objects_in-with}
use Rattle.line_frames.proofs.Cells.{then-kept}
use Rattle.line_frames.proofs.OneLayer.{first_some-kept, layer_of-kept, map-kept}
use Rattle.line_frames.specs.Places.{AgreeAt, LayerOf, MembersOf, Outline, PropertyOf, drawn_outline, layer_outline}

-- ---- a layer without those that stand in it
pub tile-alone : (n : ℕ) (l : Layer) → tile_at (bare l).body n ≡ tile_at l.body n
tile-alone n l = by_body l.body
  where
    by_body : (b : Body) → tile_at (body_with_layers (λ ls. []) b) n ≡ tile_at b n
    by_body (Group' s r) = refl
    by_body b = refl

pub objects-alone : (l : Layer) → objects_of (bare l) ≡ objects_of l
objects-alone l = objects_in-with (λ ls. []) l.body

module _ (own : ℕ) (f : Layer → Layer) (inner_same : (l : Layer) → inside (f l) ≡ inside l) (ids : (l : Layer) → (f l).id ≡ l.id) (m : MapParts) where
  -- a cell of a layer whose cells stay
  pub cell-kept : (id x y : ℕ) → ((n : ℕ) (l : Layer) → has_id own l ≡ true → has_id id l ≡ true → tile_at (f l).body n ≡ tile_at l.body n)
      → cell_of (with_layer own f m) id x y ≡ cell_of m id x y
  cell-kept id x y same =
      let n = y * m.width + x in
      ap (λ o. cond (nat_lt x m.width && nat_lt y m.height) o None)
      (then-kept (λ l. tile_at l.body n) (layer_of (with_layer own f m) id) (layer_of m id)
      (layer_of-kept own f inner_same m ids (λ l. tile_at l.body n) (tile-alone n) id (same n)))

  -- a layer's members
  pub layer_head-kept : (id : ℕ) → ((l : Layer) → has_id own l ≡ true → has_id id l ≡ true → layer_head (f l) ≡ layer_head l)
      → option_and_then (λ l. Some (layer_head l)) (layer_of (with_layer own f m) id) ≡ option_and_then (λ l. Some (layer_head l)) (layer_of m id)
  layer_head-kept id same =
      then-kept (λ l. Some (layer_head l)) (layer_of (with_layer own f m) id) (layer_of m id)
      (layer_of-kept own f inner_same m ids (λ l. Some (layer_head l)) (λ l. refl) id (λ l h k. ap Some (same l h k)))

  -- its properties
  pub layer_properties-kept : (id : ℕ) → ((l : Layer) → has_id own l ≡ true → has_id id l ≡ true → (f l).properties ≡ l.properties)
      → option_map layer_properties (layer_of (with_layer own f m) id) ≡ option_map layer_properties (layer_of m id)
  layer_properties-kept id same = layer_of-kept own f inner_same m ids layer_properties (λ l. refl) id same

  -- the outlines of layers
  pub outlines-kept : ((l : Layer) → layer_outline (bare (f l)) ≡ layer_outline (bare l))
      → map drawn_outline (all_drawn (with_layer own f m).layers)
      ≡ map drawn_outline (all_drawn m.layers)
  outlines-kept same = map-kept own f inner_same m drawn_outline (λ tier l h i. (tier, same l i))

  module _ (objects_same : (l : Layer) → objects_of (f l) ≡ objects_of l) where
    -- where objects stand
    pub object_place-kept : (id : ℕ) → object_place (with_layer own f m) id ≡ object_place m id
    object_place-kept id = first_some-kept own f inner_same m (place_in_layer id) each
      where
        each : (tier : ℕ) (l : Layer) → has_id own l ≡ true → place_in_layer id (tier, bare (f l)) ≡ place_in_layer id (tier, bare l)
        each tier l h i =
            option_map (λ at. record { layer = ids l i; at = at })
            (option_and_then (position (has_object_id id)) ((objects-alone (f l) ∙ objects_same l ∙ sym (objects-alone l)) i))

    -- what is read of the object at a place
    pub object-kept : {Y : Type 0} (q : Object → Option Y) (place : ObjectPlace)
        → option_and_then (λ l. option_and_then (λ os. option_and_then q (slice_get os place.at)) (objects_of l)) (layer_of (with_layer own f m) place.layer)
        ≡ option_and_then (λ l. option_and_then (λ os. option_and_then q (slice_get os place.at)) (objects_of l)) (layer_of m place.layer)
    object-kept {Y = Y} q place =
        let k : Layer → Option Y = λ l. option_and_then (λ os. option_and_then q (slice_get os place.at)) (objects_of l) in
        let of = λ (o : Option (List Object)). option_and_then (λ os. option_and_then q (slice_get os place.at)) o in
        then-kept k (layer_of (with_layer own f m) place.layer) (layer_of m place.layer)
        (layer_of-kept own f inner_same m ids k (λ l. ap of (objects-alone l)) place.layer (λ l h j. ap of (objects_same l)))

    pub object_at-kept : (place : ObjectPlace) → object_at (with_layer own f m) place ≡ object_at m place
    object_at-kept place =
        ap (option_and_then (λ os. slice_get os place.at))
        (then-kept objects_of (layer_of (with_layer own f m) place.layer) (layer_of m place.layer)
        (layer_of-kept own f inner_same m ids objects_of objects-alone place.layer (λ l h k. objects_same l)))

-- ---- properties of an owner
pub of_layer-properties : (m : MapParts) (id : ℕ)
    → option_and_then (properties_of m) (owner_place m (owners.Layer id)) ≡ option_map layer_properties (layer_of m id)
of_layer-properties m id = by_layer (layer_of m id) refl
  where
    by_layer : (o : Option Layer) → layer_of m id ≡ o → option_and_then (properties_of m) (option_map (λ l. places.Layer id) o) ≡ option_map layer_properties o
    by_layer None e = refl
    by_layer (Some l) e = ap (option_map layer_properties) e

abbrev pub properties_by : MapParts → Option OwnerPlace → Option (List Property)
properties_by m o = option_and_then (properties_of m) o

-- ---- what stands at the places of a document
module _ (own : ℕ) (f : Layer → Layer) (inner_same : (l : Layer) → inside (f l) ≡ inside l) (ids : (l : Layer) → (f l).id ≡ l.id) (d : DocumentParts) where
  -- the properties of a layer
  pub layer_property-kept : (id : ℕ) (name : List ℕ)
      → ((l : Layer) → has_id own l ≡ true → has_id id l ≡ true → (f l).properties ≡ l.properties)
      → AgreeAt (PropertyOf (owners.Layer id) name) (with_map (with_layer own f) d) d
  layer_property-kept id name same =
      ap (option_and_then (find (has_name name)))
      (of_layer-properties (with_layer own f d.map) id ∙ layer_properties-kept own f inner_same ids d.map id same ∙ sym (of_layer-properties d.map id))

  module _ (objects_same : (l : Layer) → objects_of (f l) ≡ objects_of l) where
    -- the members of an object
    pub object_members-kept : (id : ℕ) → AgreeAt (MembersOf (members.Object id)) (with_map (with_layer own f) d) d
    object_members-kept id =
        let n = with_map (with_layer own f) d in
        ap (option_and_then (λ (at : ObjectPlace). (of_object at head).get n)) (object_place-kept own f inner_same ids d.map objects_same id)
        ∙ (λ i. option_and_then (λ (at : ObjectPlace). object-kept own f inner_same ids d.map objects_same (λ o. Some (object_head o)) at i)
        (object_place d.map id))

    -- its properties
    pub object_property-kept : (id : ℕ) (name : List ℕ) → AgreeAt (PropertyOf (owners.Object id) name) (with_map (with_layer own f) d) d
    object_property-kept id name =
        ap (option_and_then (find (has_name name)))
        (ap (λ o. properties_by (with_layer own f d.map) (option_map places.Object o)) (object_place-kept own f inner_same ids d.map objects_same id)
        ∙ by_place (object_place d.map id))
      where
        by_place : (o : Option ObjectPlace) → properties_by (with_layer own f d.map) (option_map places.Object o)
            ≡ properties_by d.map (option_map places.Object o)
        by_place None = refl
        by_place (Some at) = ap (option_map object_properties) (object_at-kept own f inner_same ids d.map objects_same at)

    -- and the layer that it stands in
    pub layer_of_object-kept : (id : ℕ) → AgreeAt (LayerOf id) (with_map (with_layer own f) d) d
    layer_of_object-kept id = ap (option_map (λ at. at.layer)) (object_place-kept own f inner_same ids d.map objects_same id)

  pub outline-kept : ((l : Layer) → layer_outline (bare (f l)) ≡ layer_outline (bare l)) → AgreeAt Outline (with_map (with_layer own f) d) d
  outline-kept same i = record {
    width = d.map.width;
    height = d.map.height;
    tilesets = map (λ t. t.first_id) d.map.tilesets;
    layers = outlines-kept own f inner_same ids d.map same i;
  }
