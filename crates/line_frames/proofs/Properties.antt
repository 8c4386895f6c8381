-- What stands in a document of which an owner has other properties.
use Rattle.std.proofs.Common.{◌≡◌, ◌≢◌, ℕ, List, [], ◌∷◌, cond, ◌&&◌, Bool, true, false, find, Option, Some, None, option_map, option_and_then}
use Rattle.std.proofs.Common.{refl, sym, ap, ◌∙◌, subst, arith}
use Rattle.std.proofs.lemmas.Bool.Decides.{nat_tests}
use Rattle.std.specs.Prelude.{Result, Ok, Err, nat_lt, ⊤}
use Rattle.std.specs.List.{flat_map, insert, position, remove}
use Rattle.std.specs.Option.{ok_or}
use Rattle.std.specs.Str.{bytes_eq}
use Rattle.refusals.specs.declared.edit_fault.EditFault.{EditFault}
use Rattle.refusals.specs.declared.edit_fault.EditFault.TheVariants.{NoSuchLayer, NoSuchObject, NoSuchProperty, TooMany}
use Rattle.map_model.specs.declared.limits.TheConstants.{MAX_PROPERTIES}
use Rattle.map_model.specs.declared.owner.MemberOwner.TheVariants as members
use Rattle.map_model.specs.declared.owner.Owner.{Owner}
use Rattle.map_model.specs.declared.owner.Owner.TheVariants as owners
use Rattle.map_model.specs.declared.parts.Layer.{Layer}
use Rattle.map_model.specs.declared.parts.MapParts.{MapParts}
use Rattle.map_model.specs.declared.parts.Property.{Property}
use Rattle.map_model.specs.declared.place.ObjectPlace.{ObjectPlace}
use Rattle.map_model.specs.declared.place.OwnerPlace.{OwnerPlace}
use Rattle.map_model.specs.declared.place.OwnerPlace.TheVariants as places
use Rattle.map_model.specs.declared.setting.Setting.{Setting}
use Rattle.map_model.specs.Document.{DocumentParts, with_map}
use Rattle.map_model.specs.Heads.{object_head}
use Rattle.map_model.specs.Lists.{Distinct, Each, change_at, or_empty}
use Rattle.map_model.specs.Lookups.{layer_of}
use Rattle.map_model.specs.Objects.{layer_with_objects, object_place, with_object}
use Rattle.map_model.specs.Properties.{has_name, layer_properties, layer_with_properties, new_property, object_properties, object_with_properties, owner_place}
use Rattle.map_model.specs.Properties.{properties_of, property_place, property_with_setting, with_properties, with_property, with_property_at, without_property_at}
use Rattle.map_model.specs.Refusing.{◌>>=◌, ◌>>◌, check}
use Rattle.map_model.specs.WellFormed.{IsWellFormed, names_of_property}
use Rattle.map_model.proofs.LensLaws.{some-eq}
use Rattle.map_model.proofs.Lookups.{found-with_layer}
use Rattle.map_model.proofs.ObjectKeeps.{group_in-objects}
use Rattle.map_model.proofs.PropertyKeeps.{AreProperties-of}
use Rattle.map_model.proofs.PropertyLaws.{properties-laws}
use Rattle.map_model.proofs.StayPut.{object_place-with_object}
use Rattle.edits.specs.PropertyEdits.{after_remove_property, after_set_at, after_set_property, count_of, owner_or_fault, property_count}
use Rattle.property_commands.specs.PutEdits.{after_put_at, after_put_property}
use Rattle.line_frames.proofs.Kept.{cell-kept, layer_head-kept, layer_property-kept, layer_of_object-kept, object_members-kept, object_property-kept}
use Rattle.line_frames.proofs.Kept.{object_place-kept, of_layer-properties, outline-kept}
use Rattle.line_frames.proofs.Kept.{properties_by}
use Rattle.line_frames.proofs.Named.{added-last, changed-first, found-put, other-put, other-taken, other-text, put_first, put_found, same_text, take_first}
use Rattle.line_frames.proofs.Named.{taken-first}
use Rattle.line_frames.proofs.OneObject.{object_cell-kept, object_head-kept, object_layer_members-kept, object_layer_of-kept, object_layer_property-kept}
use Rattle.line_frames.proofs.OneObject.{object_outline-kept, object_properties-kept, placed-apart, placed-id, read-at, read-other, read-same}
use Rattle.line_frames.proofs.Tiles.{other_number, same_number}
use Rattle.line_frames.specs.Frames.{done, same_owner}
use Rattle.line_frames.specs.Places.{AgreeAt, Cell, LayerOf, MembersOf, Outline, Place, PropertyOf, Selection, content, property_named}

-- ---- owners
-- the place is that of the owner
abbrev IsPlaceOf : MapParts → Owner → OwnerPlace → Type 0
IsPlaceOf m owners.Map places.Map = ⊤
IsPlaceOf m (owners.Layer id) (places.Layer own) = own ≡ id
IsPlaceOf m (owners.Object id) (places.Object k) = object_place m id ≡ Some k
IsPlaceOf m owner place = ⊥

place-of : (m : MapParts) (owner : Owner) (place : OwnerPlace) → owner_place m owner ≡ Some place → IsPlaceOf m owner place
place-of m owners.Map place e = subst (IsPlaceOf m owners.Map) (some-eq places.Map place e) tt
place-of m (owners.Layer id) place e = by_layer (layer_of m id) e
  where
    by_layer : (o : Option Layer) → option_map (λ l. places.Layer id) o ≡ Some place → IsPlaceOf m (owners.Layer id) place
    by_layer None q = cc
    by_layer (Some l) q = subst (IsPlaceOf m (owners.Layer id)) (some-eq (places.Layer id) place q) refl
place-of m (owners.Object id) place e = by_place (object_place m id) refl e
  where
    by_place : (o : Option ObjectPlace) → object_place m id ≡ o → option_map places.Object o ≡ Some place → IsPlaceOf m (owners.Object id) place
    by_place None f q = cc
    by_place (Some k) f q = subst (IsPlaceOf m (owners.Object id)) (some-eq (places.Object k) place q) f

-- an owner that stands somewhere has properties
properties-there : (m : MapParts) (owner : Owner) (place : OwnerPlace) → owner_place m owner ≡ Some place → IsWellFormed m
    → (ps : List Property) × (properties_of m place ≡ Some ps)
properties-there m owners.Map place e h = (m.properties, ap (properties_of m) (sym (some-eq places.Map place e)))
properties-there m (owners.Layer id) place e h = by_layer (layer_of m id) refl e
  where
    by_layer : (o : Option Layer) → layer_of m id ≡ o → option_map (λ l. places.Layer id) o ≡ Some place
        → (ps : List Property) × (properties_of m place ≡ Some ps)
    by_layer None f q = cc
    by_layer (Some l) f q =
        (l.properties, ap (properties_of m) (sym (some-eq (places.Layer id) place q)) ∙ ap (option_map layer_properties) f)
properties-there m (owners.Object id) place e h = by_place (object_place m id) refl e
  where
    by_place : (o : Option ObjectPlace) → object_place m id ≡ o → option_map places.Object o ≡ Some place
        → (ps : List Property) × (properties_of m place ≡ Some ps)
    by_place None f q = cc
    by_place (Some k) f q =
        let stands = placed-id m id k f h in
        (stands.0.properties, ap (properties_of m) (sym (some-eq (places.Object k) place q)) ∙ ap (option_map object_properties) stands.1.0)

pub same-owner : (a b : Owner) → same_owner a b ≡ true → a ≡ b
same-owner owners.Map owners.Map e = refl
same-owner owners.Map (owners.Layer id) e = cc
same-owner owners.Map (owners.Object id) e = cc
same-owner (owners.Layer id) owners.Map e = cc
same-owner (owners.Layer id) (owners.Layer own) e = ap owners.Layer (same_number id own e)
same-owner (owners.Layer id) (owners.Object own) e = cc
same-owner (owners.Object id) owners.Map e = cc
same-owner (owners.Object id) (owners.Layer own) e = cc
same-owner (owners.Object id) (owners.Object own) e = ap owners.Object (same_number id own e)

-- ---- other properties of an owner
-- whether a place has a property of the owner
abbrev is_property_of : Owner → Place → Bool
is_property_of owner (PropertyOf own name) = same_owner own owner
is_property_of owner place = false

module _ (g : List Property → List Property) (d : DocumentParts) where
  -- the owner stands where it stood
  owner-stays : (owner : Owner) (place : OwnerPlace) → owner_place (with_properties place g d.map) owner ≡ owner_place d.map owner
  owner-stays owners.Map place = refl
  owner-stays (owners.Layer id) places.Map = refl
  owner-stays (owners.Layer id) (places.Layer own) =
      found-with_layer own (layer_with_properties g) (λ l. refl) (λ l. refl) d.map (places.Layer id) id
  owner-stays (owners.Layer id) (places.Object k) =
      found-with_layer k.layer (layer_with_objects (change_at k.at (object_with_properties g)))
      (λ l. ap or_empty (group_in-objects (change_at k.at (object_with_properties g)) l.body)) (λ l. refl) d.map (places.Layer id) id
  owner-stays (owners.Object id) places.Map = refl
  owner-stays (owners.Object id) (places.Layer own) =
      ap (option_map places.Object) (object_place-kept own (layer_with_properties g) (λ l. refl) (λ l. refl) d.map (λ l. refl) id)
  owner-stays (owners.Object id) (places.Object k) = ap (option_map places.Object) (object_place-with_object (object_with_properties g) (λ o. refl) k id d.map)

  map-elsewhere : (p : Place) → is_property_of owners.Map p ≡ false → AgreeAt p (with_map (with_properties places.Map g) d) d
  map-elsewhere (Cell id x y) e = refl
  map-elsewhere (MembersOf members.Map) e = refl
  map-elsewhere (MembersOf (members.Layer id)) e = refl
  map-elsewhere (MembersOf (members.Object id)) e = refl
  map-elsewhere (MembersOf (members.Tileset first_id)) e = refl
  map-elsewhere (PropertyOf owners.Map name) e = cc
  map-elsewhere (PropertyOf (owners.Layer id) name) e =
      ap (option_and_then (find (has_name name)))
      (of_layer-properties (with_properties places.Map g d.map) id ∙ sym (of_layer-properties d.map id))
  map-elsewhere (PropertyOf (owners.Object id) name) e = ap (option_and_then (find (has_name name))) (by_place (object_place d.map id))
    where
      by_place : (o : Option ObjectPlace) → properties_by (with_properties places.Map g d.map) (option_map places.Object o)
          ≡ properties_by d.map (option_map places.Object o)
      by_place None = refl
      by_place (Some k) = refl
  map-elsewhere (LayerOf id) e = refl
  map-elsewhere Selection e = refl
  map-elsewhere Outline e = refl

  layer-elsewhere : (own : ℕ) (p : Place) → is_property_of (owners.Layer own) p ≡ false → AgreeAt p (with_map (with_properties (places.Layer own) g) d) d
  layer-elsewhere own (Cell id x y) e = cell-kept own (layer_with_properties g) (λ l. refl) (λ l. refl) d.map id x y (λ n l s t. refl)
  layer-elsewhere own (MembersOf members.Map) e = refl
  layer-elsewhere own (MembersOf (members.Layer id)) e = layer_head-kept own (layer_with_properties g) (λ l. refl) (λ l. refl) d.map id (λ l s t. refl)
  layer-elsewhere own (MembersOf (members.Object id)) e = object_members-kept own (layer_with_properties g) (λ l. refl) (λ l. refl) d (λ l. refl) id
  layer-elsewhere own (MembersOf (members.Tileset first_id)) e = refl
  layer-elsewhere own (PropertyOf owners.Map name) e = refl
  layer-elsewhere own (PropertyOf (owners.Layer id) name) e =
      layer_property-kept own (layer_with_properties g) (λ l. refl) (λ l. refl) d id name (λ l s t. absurd (other_number l.id id own e s t))
  layer-elsewhere own (PropertyOf (owners.Object id) name) e =
      object_property-kept own (layer_with_properties g) (λ l. refl) (λ l. refl) d (λ l. refl) id name
  layer-elsewhere own (LayerOf id) e = layer_of_object-kept own (layer_with_properties g) (λ l. refl) (λ l. refl) d (λ l. refl) id
  layer-elsewhere own Selection e = refl
  layer-elsewhere own Outline e = outline-kept own (layer_with_properties g) (λ l. refl) (λ l. refl) d (λ l. refl)

  module _ (own : ℕ) (k : ObjectPlace) (stands : object_place d.map own ≡ Some k) (well_formed : IsWellFormed d.map) where
    object-elsewhere : (p : Place) → is_property_of (owners.Object own) p ≡ false → AgreeAt p (with_map (with_properties (places.Object k) g) d) d
    object-elsewhere (Cell id x y) e = object_cell-kept k (object_with_properties g) (λ o. refl) d id x y
    object-elsewhere (MembersOf members.Map) e = refl
    object-elsewhere (MembersOf (members.Layer id)) e = object_layer_members-kept k (object_with_properties g) (λ o. refl) d id
    object-elsewhere (MembersOf (members.Object id)) e =
        object_head-kept k (object_with_properties g) (λ o. refl) d id
        (λ place there. read-same k (object_with_properties g) (λ o. Some (object_head o)) (λ o. refl) d.map place)
    object-elsewhere (MembersOf (members.Tileset first_id)) e = refl
    object-elsewhere (PropertyOf owners.Map name) e = refl
    object-elsewhere (PropertyOf (owners.Layer id) name) e = object_layer_property-kept k (object_with_properties g) (λ o. refl) d id name
    object-elsewhere (PropertyOf (owners.Object id) name) e =
        object_properties-kept k (object_with_properties g) (λ o. refl) d id name
        (λ place there. read-at object_properties (with_object k (object_with_properties g) d.map) place
        ∙ read-other k (object_with_properties g) (λ o. Some (object_properties o)) d.map place
        (λ same. apart (placed-apart d.map id own place k there stands well_formed same))
        ∙ sym (read-at object_properties d.map place))
      where
        apart : id ≡ own → ⊥
        apart same = grind (arith, nat_tests)
    object-elsewhere (LayerOf id) e = object_layer_of-kept k (object_with_properties g) (λ o. refl) d id
    object-elsewhere Selection e = refl
    object-elsewhere Outline e = object_outline-kept k (object_with_properties g) (λ o. refl) d

  elsewhere : (owner : Owner) (place : OwnerPlace) → IsPlaceOf d.map owner place → IsWellFormed d.map → (p : Place) → is_property_of owner p ≡ false
      → AgreeAt p (with_map (with_properties place g) d) d
  elsewhere owners.Map places.Map is h p e = map-elsewhere p e
  elsewhere owners.Map (places.Layer own) is h p e = absurd is
  elsewhere owners.Map (places.Object k) is h p e = absurd is
  elsewhere (owners.Layer id) places.Map is h p e = absurd is
  elsewhere (owners.Layer id) (places.Layer own) is h p e = layer-elsewhere own p (subst (λ n. is_property_of (owners.Layer n) p ≡ false) (sym is) e)
  elsewhere (owners.Layer id) (places.Object k) is h p e = absurd is
  elsewhere (owners.Object id) places.Map is h p e = absurd is
  elsewhere (owners.Object id) (places.Layer own) is h p e = absurd is
  elsewhere (owners.Object id) (places.Object k) is h p e = object-elsewhere id k is h p e

-- ---- the list of an owner changed
-- n is the document with g of the owner's properties
record IsChanged (owner : Owner) (g : List Property → List Property) (d n : DocumentParts) : Type 0 where
  place : OwnerPlace
  there : owner_place d.map owner ≡ Some place
  is : with_map (with_properties place g) d ≡ n

-- whether a place has the property of this name
abbrev pub is_named : Owner → List ℕ → Place → Bool
is_named owner name (PropertyOf own other) = same_owner own owner && bytes_eq other name
is_named owner name place = false

module _ (owner : Owner) (d : DocumentParts) (place : OwnerPlace) (there : owner_place d.map owner ≡ Some place) (well_formed : IsWellFormed d.map) where
  -- what is found by a name
  found-before : (ps : List Property) → properties_of d.map place ≡ Some ps → (other : List ℕ) → property_named d.map owner other ≡ find (has_name other) ps
  found-before ps are other =
      ap (λ o. option_and_then (find (has_name other)) (option_and_then (properties_of d.map) o)) there
      ∙ ap (option_and_then (find (has_name other))) are

module _ (owner : Owner) (g : List Property → List Property) (d n : DocumentParts) (changed : IsChanged owner g d n) (well_formed : IsWellFormed d.map) where
  found-behind : (ps : List Property) → properties_of d.map changed.place ≡ Some ps → (other : List ℕ)
      → property_named n.map owner other ≡ find (has_name other) (g ps)
  found-behind ps are other =
      let made = with_map (with_properties changed.place g) d in
      ap (λ (e : DocumentParts). property_named e.map owner other) (sym changed.is)
      ∙ ap (λ o. option_and_then (find (has_name other)) (option_and_then (properties_of made.map) o))
      (owner-stays g d owner changed.place ∙ changed.there)
      ∙ ap (option_and_then (find (has_name other))) ((properties-laws changed.place).get-update g ps d are)

  -- a change that the property of one name alone shows is at no other place
  changed-outside : (name : List ℕ) → ((other : List ℕ) → bytes_eq other name ≡ false → (ps : List Property) → properties_of d.map changed.place ≡ Some ps
      → find (has_name other) (g ps) ≡ find (has_name other) ps) → (p : Place) → is_named owner name p ≡ false → AgreeAt p n d
  changed-outside name same p e = by_place p e
    where
      away : (p : Place) → is_property_of owner p ≡ false → AgreeAt p n d
      away p e = ap (content p) (sym changed.is)
          ∙ elsewhere g d owner changed.place (place-of d.map owner changed.place changed.there) well_formed p e

      by_test : (own : Owner) (other : List ℕ) (b : Bool) → same_owner own owner ≡ b → (b && bytes_eq other name) ≡ false → AgreeAt (PropertyOf own other) n d
      by_test own other true q h =
          let has = properties-there d.map owner changed.place changed.there well_formed in
          subst (λ (o : Owner). property_named n.map o other ≡ property_named d.map o other) (sym (same-owner own owner q))
          (found-behind has.0 has.1 other ∙ same other h has.0 has.1
          ∙ sym (found-before owner d changed.place changed.there well_formed has.0 has.1 other))
      by_test own other false q h = away (PropertyOf own other) q

      by_place : (p : Place) → is_named owner name p ≡ false → AgreeAt p n d
      by_place (PropertyOf own other) h = by_test own other (same_owner own owner) refl h
      by_place (Cell id x y) h = away (Cell id x y) refl
      by_place (MembersOf own) h = away (MembersOf own) refl
      by_place (LayerOf id) h = away (LayerOf id) refl
      by_place Selection h = away Selection refl
      by_place Outline h = away Outline refl

-- ---- a property that is put
-- the document with f of the property at a place among the owner's, or with a new one, which goes last
abbrev pub put_at : (Property → Property) → Property → DocumentParts → OwnerPlace → Option ℕ → DocumentParts
put_at f new d place (Some at) = with_map (with_property place at f) d
put_at f new d place None = with_map (with_property_at place (property_count d.map place) new) d

-- n is the document with f of the owner's property of this name, or with a new one
pub record IsPut (owner : Owner) (name : List ℕ) (f : Property → Property) (new : Property) (d n : DocumentParts) : Type 0 where
  pub place : OwnerPlace
  pub there : owner_place d.map owner ≡ Some place
  pub is : put_at f new d place (property_place d.map place name) ≡ n

-- such a change is one of the owner's list
record IsListed (owner : Owner) (name : List ℕ) (f : Property → Property) (new : Property) (d n : DocumentParts) (place : OwnerPlace)
    (ps : List Property) : Type 0 where
  g : List Property → List Property
  is : with_map (with_properties place g) d ≡ n
  gives : g ps ≡ put_first (has_name name) f new ps

module _ (owner : Owner) (name : List ℕ) (f : Property → Property) (new : Property) (named : has_name name new ≡ true)
    (keeps : (p : Property) → has_name name p ≡ true → has_name name (f p) ≡ true) (d n : DocumentParts) (put : IsPut owner name f new d n) where
  listed : (ps : List Property) → properties_of d.map put.place ≡ Some ps → IsListed owner name f new d n put.place ps
  listed ps are = by_place (position (has_name name) ps) refl
    where
      by_place : (o : Option ℕ) → position (has_name name) ps ≡ o → IsListed owner name f new d n put.place ps
      by_place (Some at) e = record {
        g = change_at at f;
        is = ap (put_at f new d put.place) (sym (ap (option_and_then (position (has_name name))) are ∙ e)) ∙ put.is;
        gives = changed-first (has_name name) f new ps at e;
      }
      by_place None e = record {
        g = λ qs. insert qs (property_count d.map put.place) new;
        is = ap (put_at f new d put.place) (sym (ap (option_and_then (position (has_name name))) are ∙ e)) ∙ put.is;
        gives = ap (λ o. insert ps (count_of o) new) are ∙ added-last (has_name name) f new ps e;
      }

  module _ (well_formed : IsWellFormed d.map) where
    -- the property of the name is what the edit makes of it
    pub put-own : property_named n.map owner name ≡ put_found f new (property_named d.map owner name)
    put-own =
        let has = properties-there d.map owner put.place put.there well_formed in
        let l = listed has.0 has.1 in
        found-behind owner l.g d n (record { place = put.place; there = put.there; is = l.is }) well_formed has.0 has.1 name
        ∙ ap (find (has_name name)) l.gives ∙ found-put (has_name name) f new named keeps has.0
        ∙ sym (ap (put_found f new) (found-before owner d put.place put.there well_formed has.0 has.1 name))

    -- nothing else changes
    pub put-outside : (p : Place) → is_named owner name p ≡ false → AgreeAt p n d
    put-outside =
        let has = properties-there d.map owner put.place put.there well_formed in
        let l = listed has.0 has.1 in
        changed-outside owner l.g d n (record { place = put.place; there = put.there; is = l.is }) well_formed name
        (λ other apart ps are.
        let same : has.0 ≡ ps = some-eq has.0 ps (sym has.1 ∙ are) in
        subst (λ qs. find (has_name other) (l.g qs) ≡ find (has_name other) qs) same
        (ap (find (has_name other)) l.gives
        ∙ other-put (has_name name) f new (has_name other) (other-text new.name name other apart named)
        (λ p e. (other-text p.name name other apart e, other-text (f p).name name other apart (keeps p e))) has.0))

-- ---- a property that is taken out
-- no other property has the name
none-named : (name : List ℕ) (ps : List Property) → Each (λ other. name ≢ other) (flat_map names_of_property ps) → find (has_name name) ps ≡ None
none-named name [] h = refl
none-named name (p ∷ ps) h = by_test (bytes_eq p.name name) refl (none-named name ps h.1)
  where
    by_test : (b : Bool) → bytes_eq p.name name ≡ b → find (has_name name) ps ≡ None → cond b (Some p) (find (has_name name) ps) ≡ None
    by_test true e later = absurd (h.0 (sym (same_text p.name name e)))
    by_test false e later = later

taken-own : (name : List ℕ) (ps : List Property) → Distinct (flat_map names_of_property ps) → find (has_name name) (take_first (has_name name) ps) ≡ None
taken-own name [] h = refl
taken-own name (p ∷ ps) h = by_test (bytes_eq p.name name) refl (taken-own name ps h.1)
  where
    by_test : (b : Bool) → bytes_eq p.name name ≡ b → find (has_name name) (take_first (has_name name) ps) ≡ None
        → find (has_name name) (cond b ps (p ∷ take_first (has_name name) ps)) ≡ None
    by_test true e later = none-named name ps (subst (λ text. Each (λ other. text ≢ other) (flat_map names_of_property ps)) (same_text p.name name e) h.0)
    by_test false e later = rw e later

-- n is the document without the owner's property of this name
pub record IsTaken (owner : Owner) (name : List ℕ) (d n : DocumentParts) : Type 0 where
  pub place : OwnerPlace
  pub at : ℕ
  pub there : owner_place d.map owner ≡ Some place
  pub found : property_place d.map place name ≡ Some at
  pub is : with_map (without_property_at place at) d ≡ n

module _ (owner : Owner) (name : List ℕ) (d n : DocumentParts) (taken : IsTaken owner name d n) (well_formed : IsWellFormed d.map) where
  taken-is : IsChanged owner (λ ps. remove ps taken.at) d n
  taken-is = record { place = taken.place; there = taken.there; is = taken.is }

  taken-gives : (ps : List Property) → properties_of d.map taken.place ≡ Some ps → remove ps taken.at ≡ take_first (has_name name) ps
  taken-gives ps are = taken-first (has_name name) ps taken.at (sym (ap (option_and_then (position (has_name name))) are) ∙ taken.found)

  pub take-own : property_named n.map owner name ≡ None
  unfolding taken-is
  take-own =
      let has = properties-there d.map owner taken.place taken.there well_formed in
      found-behind owner (λ ps. remove ps taken.at) d n taken-is well_formed has.0 has.1 name
      ∙ ap (find (has_name name)) (taken-gives has.0 has.1)
      ∙ taken-own name has.0 (AreProperties-of taken.place has.0 d.map has.1 well_formed).distinct

  pub take-outside : (p : Place) → is_named owner name p ≡ false → AgreeAt p n d
  unfolding taken-is
  take-outside = changed-outside owner (λ ps. remove ps taken.at) d n taken-is well_formed name
      (λ other apart ps are.
      ap (find (has_name other)) (taken-gives ps are)
      ∙ other-taken (has_name name) (has_name other) (λ p e. other-text p.name name other apart e) ps)

-- ---- edits
found-owner : (m : MapParts) (owner : Owner) (place : OwnerPlace) → owner_or_fault m owner ≡ Ok place → owner_place m owner ≡ Some place
found-owner m owners.Map place e = let same : places.Map ≡ place = cc in ap Some same
found-owner m (owners.Layer id) place e = by_owner (owner_place m (owners.Layer id)) e
  where
    by_owner : (o : Option OwnerPlace) → ok_or o NoSuchLayer ≡ Ok place → o ≡ Some place
    by_owner None q = cc
    by_owner (Some k) q = let same : k ≡ place = cc in ap Some same
found-owner m (owners.Object id) place e = by_owner (owner_place m (owners.Object id)) e
  where
    by_owner : (o : Option OwnerPlace) → ok_or o NoSuchObject ≡ Ok place → o ≡ Some place
    by_owner None q = cc
    by_owner (Some k) q = let same : k ≡ place = cc in ap Some same

checked : {E : Type 0} (test : Bool) (fault : E) (x n : DocumentParts) → done (check test fault >> Ok x) ≡ Some n → x ≡ n
checked true fault x n e = some-eq x n e
checked false fault x n e = cc

-- an edit that goes to a place of the owner
at-owner : (owner : Owner) (d n : DocumentParts) (then : OwnerPlace → Result DocumentParts EditFault) → done (owner_or_fault d.map owner >>= then) ≡ Some n
    → (place : OwnerPlace) × ((owner_place d.map owner ≡ Some place) × (done (then place) ≡ Some n))
at-owner owner d n then e = by_owner (owner_or_fault d.map owner) refl e
  where
    by_owner : (r : Result OwnerPlace EditFault) → owner_or_fault d.map owner ≡ r → done (r >>= then) ≡ Some n
        → (place : OwnerPlace) × ((owner_place d.map owner ≡ Some place) × (done (then place) ≡ Some n))
    by_owner (Ok place) q h = (place, (found-owner d.map owner place q, h))
    by_owner (Err fault) q h = cc

pub set-put : (owner : Owner) (name : List ℕ) (s : Setting) (d n : DocumentParts) → done (after_set_property d owner name s.kind s.value) ≡ Some n
    → IsPut owner name (property_with_setting s) (new_property name s) d n
set-put owner name s d n e =
    let found = at-owner owner d n (λ place. after_set_at d name s place (property_place d.map place name)) e in
    record { place = found.0; there = found.1.0; is = by_place found.0 (property_place d.map found.0 name) found.1.1 }
  where
    by_place : (place : OwnerPlace) (o : Option ℕ) → done (after_set_at d name s place o) ≡ Some n
        → put_at (property_with_setting s) (new_property name s) d place o ≡ n
    by_place place (Some at) q = some-eq _ n q
    by_place place None q = checked (nat_lt (property_count d.map place) MAX_PROPERTIES) TooMany _ n q

pub whole-put : (owner : Owner) (p : Property) (d n : DocumentParts) → done (after_put_property d owner p) ≡ Some n
    → IsPut owner p.name (λ own. p) p d n
whole-put owner p d n e =
    let found = at-owner owner d n (λ place. after_put_at d p place (property_place d.map place p.name)) e in
    record { place = found.0; there = found.1.0; is = by_place found.0 (property_place d.map found.0 p.name) found.1.1 }
  where
    by_place : (place : OwnerPlace) (o : Option ℕ) → done (after_put_at d p place o) ≡ Some n → put_at (λ own. p) p d place o ≡ n
    by_place place (Some at) q = some-eq _ n q
    by_place place None q = checked (nat_lt (property_count d.map place) MAX_PROPERTIES) TooMany _ n q

pub remove-taken : (owner : Owner) (name : List ℕ) (d n : DocumentParts) → done (after_remove_property d owner name) ≡ Some n → IsTaken owner name d n
remove-taken owner name d n e =
    let found = at-owner owner d n (λ place. ok_or (property_place d.map place name) NoSuchProperty >>= λ at. Ok (with_map (without_property_at place at) d)) e in
    by_place found.0 found.1.0 (property_place d.map found.0 name) refl found.1.1
  where
    by_place : (place : OwnerPlace) → owner_place d.map owner ≡ Some place → (o : Option ℕ) → property_place d.map place name ≡ o
        → done (ok_or o NoSuchProperty >>= λ at. Ok (with_map (without_property_at place at) d)) ≡ Some n → IsTaken owner name d n
    by_place place there None f q = cc
    by_place place there (Some at) f q = record { place = place; at = at; there = there; found = f; is = some-eq _ n q }
