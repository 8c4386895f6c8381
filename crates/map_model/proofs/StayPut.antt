-- Changes that leave objects, owners and properties at their places.
use Rattle.std.proofs.Common.{◌≡◌, ℕ, zero, suc, ◌+◌, List, [], ◌∷◌, length, nat_eq, Bool, true, false, cond, Option, Some, None, IsSomeAnd, option_map}
use Rattle.std.proofs.Common.{option_and_then, refl, sym, ap, ◌∙◌, arith}
use Rattle.std.specs.List.{insert, remove, position, position_from, slice_get}
use Rattle.std.proofs.lemmas.Iterator.Adapters.{position_from-zero}
use Rattle.std.proofs.lemmas.Slice.Eq.{bytes_eq-Decides}
use Rattle.map_model.specs.declared.owner.Owner.{Owner}
use Rattle.map_model.specs.declared.owner.Owner.TheVariants as owners
use Rattle.map_model.specs.declared.parts.Body.{Body}
use Rattle.map_model.specs.declared.parts.Body.TheVariants.{Objects}
use Rattle.map_model.specs.declared.parts.Layer.{Layer}
use Rattle.map_model.specs.declared.parts.MapParts.{MapParts}
use Rattle.map_model.specs.declared.parts.Object.{Object}
use Rattle.map_model.specs.declared.parts.Placing.{Placing}
use Rattle.map_model.specs.declared.parts.Property.{Property}
use Rattle.map_model.specs.declared.place.ObjectPlace.{ObjectPlace}
use Rattle.map_model.specs.declared.place.OwnerPlace.{OwnerPlace}
use Rattle.map_model.specs.declared.place.OwnerPlace.TheVariants as places
use Rattle.map_model.specs.declared.setting.Setting.{Setting}
use Rattle.map_model.specs.Bodies.{body_with_objects, objects_in}
use Rattle.map_model.specs.Document.{DocumentParts, with_map}
use Rattle.map_model.specs.Groups.{bare, body_with_layers}
use Rattle.map_model.specs.Lists.{change_at, or_empty}
use Rattle.map_model.specs.Objects.{has_object_id, place_of_layer, place_in_layer, object_place, object_with_placing, layer_with_objects, with_object}
use Rattle.map_model.specs.Lens.{IsLawfulLens, of_object, placing, placing_with_id, put}
use Rattle.map_model.specs.Properties.{has_name, layer_with_properties, new_property, object_with_properties, owner_place, properties_of, property_at}
use Rattle.map_model.specs.Properties.{property_place, property_with_setting, setting_of, with_properties, with_property_at, without_property_at}
use Rattle.map_model.specs.PropertyLenses.{properties, setting_at, setting_named, setting_place, without_setting}
use Rattle.map_model.proofs.FoundLaws.{found-get, found-keeps, found-laws, found-update}
use Rattle.map_model.proofs.Lookups.{first_some-with_layer, found-with_layer}
use Rattle.map_model.proofs.ObjectKeeps.{group_in-objects}
use Rattle.map_model.proofs.LensLaws.{placing-laws, slice_get-change_at, some-eq}
use Rattle.map_model.proofs.PropertyLaws.{properties-laws, setting_at-laws}

-- ---- look-ups in a list of which one element has changed
module _ {X : Type 0} (q : X → Bool) (f : X → X) (same : (x : X) → q (f x) ≡ q x) where
  position_from-change_at : (k i : ℕ) (xs : List X) → position_from q i (change_at k f xs) ≡ position_from q i xs
  position_from-change_at zero i [] = refl
  position_from-change_at (suc k) i [] = refl
  position_from-change_at zero i (x ∷ xs) = rw (same x) refl
  position_from-change_at (suc k) i (x ∷ xs) = ap (λ o. cond (q x) (Some i) o) (position_from-change_at k (i + 1) xs)

  position-change_at : (k : ℕ) (xs : List X) → position q (change_at k f xs) ≡ position q xs
  position-change_at k xs = position_from-zero q (change_at k f xs) ∙ position_from-change_at k 0 xs ∙ sym (position_from-zero q xs)

-- ---- look-ups in a list with one element more at its end, and without its last one
module _ {X : Type 0} (q : X → Bool) where
  position_from-last : (i : ℕ) (x : X) (xs : List X) → q x ≡ true → position_from q i xs ≡ None
      → position_from q i (insert xs (length xs) x) ≡ Some (i + length xs)
  position_from-last i x [] e none = rw e (let more : i ≡ i + 0 = omega arith in ap Some more)
  position_from-last i x (y ∷ ys) e none = by_test (q y) none (position_from-last (i + 1) x ys e)
    where
      by_test : (b : Bool) → cond b (Some i) (position_from q (i + 1) ys) ≡ None
          → (position_from q (i + 1) ys ≡ None → position_from q (i + 1) (insert ys (length ys) x) ≡ Some (i + 1 + length ys))
          → cond b (Some i) (position_from q (i + 1) (insert ys (length ys) x)) ≡ Some (i + suc (length ys))
      by_test true n rest = cc
      by_test false n rest = let more : i + 1 + length ys ≡ i + suc (length ys) = omega arith in rest n ∙ ap Some more

  pub position-last : (x : X) (xs : List X) → q x ≡ true → position q xs ≡ None → position q (insert xs (length xs) x) ≡ Some (length xs)
  position-last x xs e none =
      let start : 0 + length xs ≡ length xs = omega arith in
      position_from-zero q (insert xs (length xs) x) ∙ position_from-last 0 x xs e (sym (position_from-zero q xs) ∙ none) ∙ ap Some start

  position_from-removed : (i k : ℕ) (xs : List X) → position_from q i xs ≡ Some (i + k) → length xs ≡ k + 1 → position_from q i (remove xs k) ≡ None
  position_from-removed i k [] e last = absurd (omega arith)
  position_from-removed i zero (x ∷ []) e last = refl
  position_from-removed i zero (x ∷ y ∷ ys) e last = absurd (omega arith)
  position_from-removed i (suc k) (x ∷ xs) e last = by_test (q x) e (position_from-removed (i + 1) k xs)
    where
      by_test : (b : Bool) → cond b (Some i) (position_from q (i + 1) xs) ≡ Some (i + suc k)
          → (position_from q (i + 1) xs ≡ Some (i + 1 + k) → length xs ≡ k + 1 → position_from q (i + 1) (remove xs k) ≡ None)
          → cond b (Some i) (position_from q (i + 1) (remove xs k)) ≡ None
      by_test true h rest = let same = some-eq i (i + suc k) h in absurd (omega arith)
      by_test false h rest = let more : i + suc k ≡ i + 1 + k = omega arith in rest (h ∙ ap Some more) (omega arith)

  position-removed : (k : ℕ) (xs : List X) → position q xs ≡ Some k → length xs ≡ k + 1 → position q (remove xs k) ≡ None
  position-removed k xs e last =
      let start : k ≡ 0 + k = omega arith in
      position_from-zero q (remove xs k) ∙ position_from-removed 0 k xs (sym (position_from-zero q xs) ∙ e ∙ ap Some start) last

-- ---- an object that changes at its place, and keeps its id
module _ (f : Object → Object) (same : (o : Object) → (f o).id ≡ o.id) (place : ObjectPlace) (id : ℕ) where
  place_in_layer-change_at : (tier : ℕ) (l : Layer) → place_in_layer id (tier, bare (layer_with_objects (change_at place.at f) l))
      ≡ place_in_layer id (tier, bare l)
  place_in_layer-change_at tier l = by_body l.body
    where
      by_body : (b : Body) → option_map (place_of_layer l) (option_and_then (position (has_object_id id))
          (objects_in (body_with_layers (λ ls. []) (body_with_objects (change_at place.at f) b))))
          ≡ option_map (place_of_layer l) (option_and_then (position (has_object_id id)) (objects_in (body_with_layers (λ ls. []) b)))
      by_body (Objects os) = ap (option_map (place_of_layer l)) (position-change_at (has_object_id id) f (λ o. ap (λ n. nat_eq n id) (same o)) place.at os)
      by_body b = refl

  pub object_place-with_object : (m : MapParts) → object_place (with_object place f m) id ≡ object_place m id
  object_place-with_object =
      first_some-with_layer place.layer (layer_with_objects (change_at place.at f)) (place_in_layer id)
      (λ l. ap or_empty (group_in-objects (change_at place.at f) l.body)) place_in_layer-change_at

-- no placing moves an object to another place of its layer
placing-stays : (id : ℕ) (place : ObjectPlace) (f : Placing → Placing) (d : DocumentParts) → object_place d.map id ≡ Some place
    → object_place ((of_object place placing).update f d).map id ≡ Some place
placing-stays id place f d e = object_place-with_object (λ o. object_with_placing (f o.placing) o) (λ o. refl) place id d.map ∙ e

pub placing_with_id-keeps : (id : ℕ) (f : Placing → Placing) (d : DocumentParts) → object_place ((placing_with_id id).update f d).map id ≡ object_place d.map id
placing_with_id-keeps id = found-keeps (λ d. object_place d.map id) (λ place. of_object place placing) (placing-stays id)

pub placing_with_id-laws : (id : ℕ) → IsLawfulLens (placing_with_id id)
placing_with_id-laws id = found-laws (λ d. object_place d.map id) (λ place. of_object place placing) (placing-stays id) placing-laws

-- ---- an owner whose properties change
owner_place-with_properties : (owner : Owner) (place : OwnerPlace) (f : List Property → List Property) (m : MapParts)
    → owner_place (with_properties place f m) owner ≡ owner_place m owner
owner_place-with_properties owners.Map place f m = refl
owner_place-with_properties (owners.Layer id) places.Map f m = refl
owner_place-with_properties (owners.Layer id) (places.Layer own) f m =
    found-with_layer own (layer_with_properties f) (λ l. refl) (λ l. refl) m (places.Layer id) id
owner_place-with_properties (owners.Layer id) (places.Object place) f m =
    found-with_layer place.layer (layer_with_objects (change_at place.at (object_with_properties f)))
    (λ l. ap or_empty (group_in-objects (change_at place.at (object_with_properties f)) l.body)) (λ l. refl) m (places.Layer id) id
owner_place-with_properties (owners.Object id) places.Map f m = refl
owner_place-with_properties (owners.Object id) (places.Layer own) f m =
    ap (option_map places.Object) (first_some-with_layer own (layer_with_properties f) (place_in_layer id) (λ l. refl) (λ tier l. refl) m)
owner_place-with_properties (owners.Object id) (places.Object place) f m =
    ap (option_map places.Object) (object_place-with_object (object_with_properties f) (λ o. refl) place id m)

-- ---- the property of an owner with a name
-- where it is found, its owner stands there, and has it there
pub setting_place-there : (owner : Owner) (name : List ℕ) (d : DocumentParts) (k : OwnerPlace × ℕ) → setting_place owner name d ≡ Some k
    → (owner_place d.map owner ≡ Some k.0) × ((ps : List Property) × ((properties_of d.map k.0 ≡ Some ps) × (position (has_name name) ps ≡ Some k.1)))
setting_place-there owner name d k e = by_owner (owner_place d.map owner) refl e
  where
    by_list : (place : OwnerPlace) (o : Option (List Property)) → option_map (λ at. (place, at)) (option_and_then (position (has_name name)) o) ≡ Some k
        → (ps : List Property) × ((o ≡ Some ps) × ((place ≡ k.0) × (position (has_name name) ps ≡ Some k.1)))
    by_list place None g = cc
    by_list place (Some ps) g = (ps, (refl, by_place (position (has_name name) ps) g))
      where
        by_place : (o : Option ℕ) → option_map (λ at. (place, at)) o ≡ Some k → (place ≡ k.0) × (o ≡ Some k.1)
        by_place None h = cc
        by_place (Some at) h = let is : (place, at) ≡ k = cc in (ap (λ q. q.0) is, ap (λ q. Some q.1) is)

    by_owner : (o : Option OwnerPlace) → owner_place d.map owner ≡ o
        → option_and_then (λ place. option_map (λ at. (place, at)) (property_place d.map place name)) o ≡ Some k
        → (owner_place d.map owner ≡ Some k.0) × ((ps : List Property) × ((properties_of d.map k.0 ≡ Some ps) × (position (has_name name) ps ≡ Some k.1)))
    by_owner None q g = cc
    by_owner (Some place) q g =
        let found = by_list place (properties_of d.map place) g in
        let same = found.1.1.0 in
        (q ∙ ap Some same, (found.0, (ap (properties_of d.map) (sym same) ∙ found.1.0, found.1.1.1)))

-- where it is found behind a change of its owner's properties
module _ (owner : Owner) (name : List ℕ) (place : OwnerPlace) (d : DocumentParts) (ps : List Property) (there : owner_place d.map owner ≡ Some place)
    (are : properties_of d.map place ≡ Some ps) where
  setting_place-with : (f : List Property → List Property) → setting_place owner name (with_map (with_properties place f) d)
      ≡ option_map (λ at. (place, at)) (position (has_name name) (f ps))
  setting_place-with f = rw (owner_place-with_properties owner place f d.map, there, (properties-laws place).get-update f ps d are) refl

  -- a new one goes last
  pub setting_place-added : (p : Property) → p.name ≡ name → position (has_name name) ps ≡ None
      → setting_place owner name (with_map (with_property_at place (length ps) p) d) ≡ Some (place, length ps)
  setting_place-added p named none =
      let own : has_name name p ≡ true = (bytes_eq-Decides p.name name).1 named in
      setting_place-with (λ qs. insert qs (length ps) p) ∙ ap (option_map (λ at. (place, at))) (position-last (has_name name) p ps own none)

  -- the last one is taken out
  setting_place-taken : (at : ℕ) → position (has_name name) ps ≡ Some at → length ps ≡ at + 1
      → setting_place owner name (with_map (without_property_at place at) d) ≡ None
  setting_place-taken at found last = setting_place-with (λ qs. remove qs at)
      ∙ ap (option_map (λ at. (place, at))) (position-removed (has_name name) at ps found last)

-- no setting moves a property
setting-stays : (owner : Owner) (name : List ℕ) (k : OwnerPlace × ℕ) (f : Setting → Setting) (d : DocumentParts) → setting_place owner name d ≡ Some k
    → setting_place owner name ((setting_at k.0 k.1).update f d) ≡ Some k
setting-stays owner name k f d e =
    let found = setting_place-there owner name d k e in
    let change = λ (p : Property). property_with_setting (f (setting_of p)) p in
    setting_place-with owner name k.0 d found.1.0 found.0 found.1.1.0 (change_at k.1 change)
    ∙ ap (option_map (λ at. (k.0, at))) (position-change_at (has_name name) change (λ p. refl) k.1 found.1.0 ∙ found.1.1.1)

pub setting_named-keeps : (owner : Owner) (name : List ℕ) (f : Setting → Setting) (d : DocumentParts)
    → setting_place owner name ((setting_named owner name).update f d) ≡ setting_place owner name d
setting_named-keeps owner name = found-keeps (setting_place owner name) (λ k. setting_at k.0 k.1) (setting-stays owner name)

pub setting_named-laws : (owner : Owner) (name : List ℕ) → IsLawfulLens (setting_named owner name)
setting_named-laws owner name = found-laws (setting_place owner name) (λ k. setting_at k.0 k.1) (setting-stays owner name) (λ k. setting_at-laws k.0 k.1)

-- without its last property, which has the name, the owner has none with the name
pub without_setting-none : (owner : Owner) (name : List ℕ) (d : DocumentParts) (k : OwnerPlace × ℕ) → setting_place owner name d ≡ Some k
    → IsSomeAnd (properties_of d.map k.0) (λ ps. length ps ≡ k.1 + 1) → setting_place owner name (without_setting owner name d) ≡ None
without_setting-none owner name d k e last =
    let found = setting_place-there owner name d k e in
    let many : length found.1.0 ≡ k.1 + 1 = rw found.1.1.0 at last in
    rw e (setting_place-taken owner name k.0 d found.1.0 found.0 found.1.1.0 k.1 found.1.1.1 many)

-- ---- a property that stands last, and has its setting changed
remove-change_at : {X : Type 0} (f : X → X) (k : ℕ) (xs : List X) → remove (change_at k f xs) k ≡ remove xs k
remove-change_at f zero [] = refl
remove-change_at f (suc k) [] = refl
remove-change_at f zero (x ∷ xs) = refl
remove-change_at f (suc k) (x ∷ xs) = ap (λ ys. x ∷ ys) (remove-change_at f k xs)

module _ (owner : Owner) (name : List ℕ) (place : OwnerPlace) (at : ℕ) (d : DocumentParts) (before : Setting)
    (stands : setting_place owner name d ≡ Some (place, at)) where
  put-is : put (setting_named owner name) before d ≡ with_map (with_properties place (change_at at (property_with_setting before))) d
  put-is = found-update (setting_place owner name) (λ k. setting_at k.0 k.1) (place, at) d stands (λ own. before)

  -- without it, the document is the same
  pub without-put : with_map (without_property_at place at) (put (setting_named owner name) before d) ≡ with_map (without_property_at place at) d
  without-put =
      let f = property_with_setting before in
      ap (with_map (without_property_at place at)) put-is
      ∙ (properties-laws place).update-update (λ ps. remove ps at) (change_at at f) d
      ∙ (λ i. (properties place).update (λ ps. remove-change_at f at ps i) d)

  -- one that keeps no members with a setting kept none before
  pub new_property-put : (own s : Setting) → (setting_named owner name).get d ≡ Some s
      → property_at (put (setting_named owner name) before d).map place at ≡ Some (new_property name own)
      → property_at d.map place at ≡ Some (new_property name s)
  new_property-put own s has e =
      let found = setting_place-there owner name d (place, at) stands in
      let ps = found.1.0 in
      let f = property_with_setting before in
      let are : properties_of (put (setting_named owner name) before d).map place ≡ Some (change_at at f ps) =
      ap (λ (g : DocumentParts). properties_of g.map place) put-is ∙ (properties-laws place).get-update (change_at at f) ps d found.1.1.0 in
      let here : option_map f (slice_get ps at) ≡ Some (new_property name own) = sym (slice_get-change_at f ps at) ∙ rw are at e in
      let gives : option_and_then (λ p. Some (setting_of p)) (slice_get ps at) ≡ Some s =
      rw found.1.1.0 at (sym (found-get (setting_place owner name) (λ k. setting_at k.0 k.1) (place, at) d stands) ∙ has) in
      rw found.1.1.0 (by_property (slice_get ps at) here gives)
    where
      by_property : (o : Option Property) → option_map (property_with_setting before) o ≡ Some (new_property name own)
          → option_and_then (λ p. Some (setting_of p)) o ≡ Some s → o ≡ Some (new_property name s)
      by_property None g h = cc
      by_property (Some p) g h =
          let is : property_with_setting before p ≡ new_property name own = some-eq _ _ g in
          let set : setting_of p ≡ s = some-eq _ _ h in
          λ i. Some (record { name = (is i).name; kind = (set i).kind; value = (set i).value; kept = (is i).kept })
