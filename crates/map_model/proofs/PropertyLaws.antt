-- The laws of the lenses and slots of properties.
use Rattle.std.proofs.Common.{◌≡◌, ℕ, List, Option, Some, None, option_map, option_and_then, refl, sym, ap, ◌∙◌}
use Rattle.std.specs.List.{slice_get}
use Rattle.map_model.specs.declared.parts.Layer.{Layer}
use Rattle.map_model.specs.declared.parts.Object.{Object}
use Rattle.map_model.specs.declared.parts.Property.{Property}
use Rattle.map_model.specs.declared.place.OwnerPlace.{OwnerPlace}
use Rattle.map_model.specs.declared.place.OwnerPlace.TheVariants as places
use Rattle.map_model.specs.Objects.{objects_of}
use Rattle.map_model.specs.Lens.{Lens, IsLawfulLens, whole, of_layer, of_object}
use Rattle.map_model.specs.Lookups.{layer_of}
use Rattle.map_model.specs.Properties.{layer_properties, object_properties, property_with_setting, setting_of}
use Rattle.map_model.specs.PropertyLenses.{properties, property_slot, setting, setting_at}
use Rattle.map_model.specs.Slot.{IsLawfulSlot}
use Rattle.map_model.proofs.LensLaws.{whole-laws, inner-laws, of_place-laws, of_layer-laws, of_object-laws}
use Rattle.map_model.proofs.SlotLaws.{slot_in-laws}

-- ---- lenses
-- a lens that is read in another way keeps the laws
read-laws : {A V : Type 0} (p : Lens A V) (get : A → Option V) → ((a : A) → get a ≡ p.get a) → IsLawfulLens p
    → IsLawfulLens (record { get = get; update = p.update })
read-laws p get same laws = record {
  get-update = λ f v a e. same (p.update f a) ∙ laws.get-update f v a (sym (same a) ∙ e);
  update-same = λ f v a e. laws.update-same f v a (sym (same a) ∙ e);
  update-update = laws.update-update;
}

-- two changes that agree on the value of the lens
pub update-along : {A V : Type 0} {p : Lens A V} → IsLawfulLens p → (f g : V → V) (v : V) (a : A) → p.get a ≡ Some v → f v ≡ g v → p.update f a ≡ p.update g a
update-along {V = V} {p = p} laws f g v a e same = sym (constant f) ∙ ap (λ (w : V). p.update (λ own. w) a) same ∙ constant g
  where
    constant : (h : V → V) → p.update (λ own. h v) a ≡ p.update h a
    constant h = sym (laws.update-update (λ own. h v) h a) ∙ laws.update-same (λ own. h v) (h v) (p.update h a) (laws.get-update h v a e) refl

map-then : {A B : Type 0} (f : A → B) (o : Option A) → option_map f o ≡ option_and_then (λ a. Some (f a)) o
map-then f None = refl
map-then f (Some a) = refl

-- f of an object, by its layer and its place there
map-then_placed : {V : Type 0} (f : Object → V) (at : ℕ) (o : Option Layer)
    → option_map f (option_and_then (λ os. slice_get os at) (option_and_then objects_of o))
    ≡ option_and_then (λ l. option_and_then (λ os. option_and_then (λ b. Some (f b)) (slice_get os at)) (objects_of l)) o
map-then_placed f at None = refl
map-then_placed f at (Some l) = by_objects (objects_of l)
  where
    by_objects : (o : Option (List Object)) → option_map f (option_and_then (λ os. slice_get os at) o)
        ≡ option_and_then (λ os. option_and_then (λ b. Some (f b)) (slice_get os at)) o
    by_objects None = refl
    by_objects (Some os) = map-then f (slice_get os at)

pub properties-laws : (owner : OwnerPlace) → IsLawfulLens (properties owner)
properties-laws places.Map = whole-laws (λ d. d.map.properties) (λ ps d. record d { map = record d.map { properties = ps } }) (λ v d. refl) (λ d. refl)
    (λ v w d. refl)
properties-laws (places.Layer id) =
    let lens : Lens Layer (List Property) = whole layer_properties (λ ps l. record l { properties = ps }) in
    read-laws (of_layer id lens) (properties (places.Layer id)).get (λ d. map-then layer_properties (layer_of d.map id))
    (of_layer-laws id lens (λ f l. refl) (whole-laws layer_properties (λ ps l. record l { properties = ps }) (λ v l. refl) (λ l. refl) (λ v w l. refl)))
properties-laws (places.Object place) =
    let lens : Lens Object (List Property) = whole object_properties (λ ps o. record o { properties = ps }) in
    read-laws (of_object place lens) (properties (places.Object place)).get (λ d. map-then_placed object_properties place.at (layer_of d.map place.layer))
    (of_object-laws place lens (whole-laws object_properties (λ ps o. record o { properties = ps }) (λ v o. refl) (λ o. refl) (λ v w o. refl)))

setting-laws : IsLawfulLens setting
setting-laws = whole-laws setting_of property_with_setting (λ v p. refl) (λ p. refl) (λ v w p. refl)

pub setting_at-laws : (owner : OwnerPlace) (at : ℕ) → IsLawfulLens (setting_at owner at)
setting_at-laws owner at = inner-laws (properties owner) _ (properties-laws owner) (of_place-laws at setting setting-laws)

-- ---- slots
pub property_slot-laws : (owner : OwnerPlace) (at : ℕ) → IsLawfulSlot (property_slot owner at)
property_slot-laws owner at = slot_in-laws (properties owner) (properties-laws owner) at
