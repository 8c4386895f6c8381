-- What stands in a document of which an owner has other members.
use Rattle.std.proofs.Common.{◌≡◌, ℕ, List, [], ◌∷◌, nat_eq, Bool, true, false, cond, find, Option, Some, None, option_map, option_and_then}
use Rattle.std.proofs.Common.{refl, sym, ap, ◌∙◌, arith}
use Rattle.std.proofs.lemmas.Bool.Decides.{nat_tests}
use Rattle.map_model.specs.declared.heads.LayerHead.{LayerHead}
use Rattle.map_model.specs.declared.heads.MapHead.{MapHead}
use Rattle.map_model.specs.declared.heads.ObjectHead.{ObjectHead}
use Rattle.map_model.specs.declared.heads.TilesetHead.{TilesetHead}
use Rattle.map_model.specs.declared.owner.MemberOwner.TheVariants as members
use Rattle.map_model.specs.declared.owner.Owner.TheVariants as owners
use Rattle.map_model.specs.declared.parts.Tileset.{Tileset}
use Rattle.map_model.specs.declared.place.ObjectPlace.{ObjectPlace}
use Rattle.map_model.specs.Document.{DocumentParts, with_map}
use Rattle.map_model.specs.Heads.{head, head_of_map, head_with_id, layer_head_with_id, layer_with_head, object_head, object_with_head, tileset_head}
use Rattle.map_model.specs.Heads.{tileset_head_with_id, tileset_with_head}
use Rattle.map_model.specs.Lens.{IsLawfulLens, Lens, of_object, put, update_found}
use Rattle.map_model.specs.Lists.{change_first}
use Rattle.map_model.specs.Objects.{object_place, with_object}
use Rattle.map_model.specs.Properties.{object_properties}
use Rattle.map_model.specs.Tilesets.{has_first_id}
use Rattle.map_model.specs.WellFormed.{IsWellFormed}
use Rattle.map_model.proofs.Changes.{map-change_first}
use Rattle.map_model.proofs.LensLaws.{some-eq}
use Rattle.line_frames.proofs.Kept.{cell-kept, layer_head-kept, layer_property-kept, layer_of_object-kept, object_members-kept, object_property-kept, outline-kept}
use Rattle.line_frames.proofs.OneObject.{object_cell-kept, object_head-kept, object_layer_members-kept, object_layer_of-kept, object_layer_property-kept}
use Rattle.line_frames.proofs.OneObject.{object_outline-kept, object_properties-kept, placed-apart, read-at, read-other, read-same}
use Rattle.line_frames.proofs.Tiles.{other_number}
use Rattle.line_frames.specs.Frames.{with_members}
use Rattle.line_frames.specs.Places.{AgreeAt, Cell, LayerOf, MembersOf, Outline, Place, PropertyOf, Selection, outline_of}

-- ---- what an edit of members makes
module _ {H : Type 0} (p : Lens DocumentParts H) (change : H → Option H) (d n : DocumentParts) where
  -- the owner gets members
  pub put-done : with_members p change d ≡ Some n → (h : H) × (put p h d ≡ n)
  put-done e = by_members (option_and_then change (p.get d)) e
    where
      by_members : (o : Option H) → option_map (λ h. put p h d) o ≡ Some n → (h : H) × (put p h d ≡ n)
      by_members None q = cc
      by_members (Some h) q = (h, some-eq (put p h d) n q)

  -- it has those that the change makes of its own
  pub put-get : IsLawfulLens p → with_members p change d ≡ Some n → p.get n ≡ option_and_then change (p.get d)
  put-get laws e = by_own (p.get d) refl e
    where
      by_own : (o : Option H) → p.get d ≡ o → option_map (λ h. put p h d) (option_and_then change o) ≡ Some n → p.get n ≡ option_and_then change o
      by_own None q k = cc
      by_own (Some own) q k = by_change (change own) k
        where
          by_change : (c : Option H) → option_map (λ h. put p h d) c ≡ Some n → p.get n ≡ c
          by_change None r = cc
          by_change (Some h) r = ap p.get (sym (some-eq (put p h d) n r)) ∙ laws.get-update (λ w. h) own d q

-- ---- layers
-- whether a place has the members of this layer
abbrev pub is_layer : ℕ → Place → Bool
is_layer id (MembersOf (members.Layer own)) = nat_eq own id
is_layer id place = false

module _ (id : ℕ) (h : LayerHead) (d : DocumentParts) where
  pub layer-outside : (place : Place) → is_layer id place ≡ false → AgreeAt place (put (layer_head_with_id id) h d) d
  layer-outside (Cell own x y) e = cell-kept id (layer_with_head h) (λ l. refl) (λ l. refl) d.map own x y (λ n l s t. refl)
  layer-outside (MembersOf members.Map) e = refl
  layer-outside (MembersOf (members.Layer own)) e =
      layer_head-kept id (layer_with_head h) (λ l. refl) (λ l. refl) d.map own (λ l s t. absurd (other_number l.id own id e s t))
  layer-outside (MembersOf (members.Object own)) e = object_members-kept id (layer_with_head h) (λ l. refl) (λ l. refl) d (λ l. refl) own
  layer-outside (MembersOf (members.Tileset own)) e = refl
  layer-outside (PropertyOf owners.Map name) e = refl
  layer-outside (PropertyOf (owners.Layer own) name) e =
      layer_property-kept id (layer_with_head h) (λ l. refl) (λ l. refl) d own name (λ l s t. refl)
  layer-outside (PropertyOf (owners.Object own) name) e =
      object_property-kept id (layer_with_head h) (λ l. refl) (λ l. refl) d (λ l. refl) own name
  layer-outside (LayerOf own) e = layer_of_object-kept id (layer_with_head h) (λ l. refl) (λ l. refl) d (λ l. refl) own
  layer-outside Selection e = refl
  layer-outside Outline e = outline-kept id (layer_with_head h) (λ l. refl) (λ l. refl) d (λ l. refl)

-- ---- tilesets
find-other : {X : Type 0} (p q : X → Bool) (f : X → X) → ((x : X) → q (f x) ≡ q x) → ((x : X) → p x ≡ true → q x ≡ true → ⊥) → (xs : List X)
    → find q (change_first p f xs) ≡ find q xs
find-other p q f stays apart [] = refl
find-other {X = X} p q f stays apart (x ∷ xs) = by_tests (p x) (q x) refl refl (find-other p q f stays apart xs)
  where
    by_tests : (s t : Bool) → p x ≡ s → q x ≡ t → find q (change_first p f xs) ≡ find q xs
        → find q (cond s (f x ∷ xs) (x ∷ change_first p f xs)) ≡ cond (q x) (Some x) (find q xs)
    by_tests true true e g later = absurd (apart x e g)
    by_tests true false e g later = rw (stays x) (rw g refl)
    by_tests false t e g later = ap (λ o. cond (q x) (Some x) o) later

-- whether a place has the members of this tileset
abbrev pub is_tileset : ℕ → Place → Bool
is_tileset first_id (MembersOf (members.Tileset own)) = nat_eq own first_id
is_tileset first_id place = false

module _ (first_id : ℕ) (h : TilesetHead) (d : DocumentParts) where
  pub tileset-outside : (place : Place) → is_tileset first_id place ≡ false → AgreeAt place (put (tileset_head_with_id first_id) h d) d
  tileset-outside (Cell own x y) e = refl
  tileset-outside (MembersOf members.Map) e = refl
  tileset-outside (MembersOf (members.Layer own)) e = refl
  tileset-outside (MembersOf (members.Object own)) e = refl
  tileset-outside (MembersOf (members.Tileset own)) e =
      ap (option_and_then (λ t. Some (tileset_head t)))
      (find-other (has_first_id first_id) (has_first_id own) (tileset_with_head h) (λ t. refl)
      (λ t s u. other_number t.first_id own first_id e s u) d.map.tilesets)
  tileset-outside (PropertyOf owners.Map name) e = refl
  tileset-outside (PropertyOf (owners.Layer own) name) e = refl
  tileset-outside (PropertyOf (owners.Object own) name) e = refl
  tileset-outside (LayerOf own) e = refl
  tileset-outside Selection e = refl
  tileset-outside Outline e = λ i. record {
    width = d.map.width;
    height = d.map.height;
    tilesets = map-change_first (has_first_id first_id) (tileset_with_head h) (λ (t : Tileset). t.first_id) (λ t. refl) d.map.tilesets i;
    layers = (outline_of d.map).layers;
  }

-- ---- the map
-- whether a place has the members of the map
abbrev pub is_map : Place → Bool
is_map (MembersOf members.Map) = true
is_map place = false

module _ (h : MapHead) (d : DocumentParts) where
  pub map-outside : (place : Place) → is_map place ≡ false → AgreeAt place (put head_of_map h d) d
  map-outside (Cell own x y) e = refl
  map-outside (MembersOf members.Map) e = cc
  map-outside (MembersOf (members.Layer own)) e = refl
  map-outside (MembersOf (members.Object own)) e = refl
  map-outside (MembersOf (members.Tileset own)) e = refl
  map-outside (PropertyOf owners.Map name) e = refl
  map-outside (PropertyOf (owners.Layer own) name) e = refl
  map-outside (PropertyOf (owners.Object own) name) e = refl
  map-outside (LayerOf own) e = refl
  map-outside Selection e = refl
  map-outside Outline e = refl

-- ---- objects
-- whether a place has the members of this object
abbrev pub is_object : ℕ → Place → Bool
is_object id (MembersOf (members.Object own)) = nat_eq own id
is_object id place = false

module _ (id : ℕ) (h : ObjectHead) (d : DocumentParts) where
  -- where the object stands, its members are changed
  module _ (k : ObjectPlace) (stands : object_place d.map id ≡ Some k) (well_formed : IsWellFormed d.map) where
    placed-outside : (place : Place) → is_object id place ≡ false → AgreeAt place (with_map (with_object k (object_with_head h)) d) d
    placed-outside (Cell own x y) e = object_cell-kept k (object_with_head h) (λ o. refl) d own x y
    placed-outside (MembersOf members.Map) e = refl
    placed-outside (MembersOf (members.Layer own)) e = object_layer_members-kept k (object_with_head h) (λ o. refl) d own
    placed-outside (MembersOf (members.Object own)) e =
        object_head-kept k (object_with_head h) (λ o. refl) d own
        (λ place there. read-other k (object_with_head h) (λ o. Some (object_head o)) d.map place
        (λ same. other own e (placed-apart d.map own id place k there stands well_formed same)))
      where
        other : (own : ℕ) → nat_eq own id ≡ false → own ≡ id → ⊥
        other own e same = grind (arith, nat_tests)
    placed-outside (MembersOf (members.Tileset own)) e = refl
    placed-outside (PropertyOf owners.Map name) e = refl
    placed-outside (PropertyOf (owners.Layer own) name) e = object_layer_property-kept k (object_with_head h) (λ o. refl) d own name
    placed-outside (PropertyOf (owners.Object own) name) e =
        object_properties-kept k (object_with_head h) (λ o. refl) d own name
        (λ place there. read-at object_properties (with_object k (object_with_head h) d.map) place
        ∙ read-same k (object_with_head h) (λ o. Some (object_properties o)) (λ o. refl) d.map place ∙ sym (read-at object_properties d.map place))
    placed-outside (LayerOf own) e = object_layer_of-kept k (object_with_head h) (λ o. refl) d own
    placed-outside Selection e = refl
    placed-outside Outline e = object_outline-kept k (object_with_head h) (λ o. refl) d

  pub object-outside : IsWellFormed d.map → (place : Place) → is_object id place ≡ false → AgreeAt place (put (head_with_id id) h d) d
  object-outside well_formed place e = by_place (object_place d.map id) refl
    where
      by_place : (o : Option ObjectPlace) → object_place d.map id ≡ o
          → AgreeAt place (update_found (λ k. of_object k head) (λ own. h) d o) d
      by_place None q = refl
      by_place (Some k) q = placed-outside k q well_formed place e
