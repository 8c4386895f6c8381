-- What a command that removes a property holds: its place, and its owner.
use Rattle.std.proofs.Common.{◌≡◌, ℕ, ◌<◌, ◌^◌, List, Option, Some, None, Ok, option_and_then, option_map, refl, arith}
use Rattle.std.specs.List.{slice_get}
use Rattle.std.proofs.lemmas.Option.{slice_get_within}
use Rattle.map_model.specs.declared.owner.Owner.{Owner}
use Rattle.map_model.specs.declared.owner.Owner.TheVariants as owners
use Rattle.map_model.specs.declared.parts.Layer.{Layer}
use Rattle.map_model.specs.declared.parts.MapParts.{MapParts}
use Rattle.map_model.specs.declared.parts.Property.{Property}
use Rattle.map_model.specs.declared.place.ObjectPlace.{ObjectPlace}
use Rattle.map_model.specs.declared.place.OwnerPlace.{OwnerPlace}
use Rattle.map_model.specs.declared.place.OwnerPlace.TheVariants as places
use Rattle.map_model.specs.Lookups.{layer_of}
use Rattle.map_model.specs.Objects.{object_place}
use Rattle.map_model.specs.Properties.{owner_place, properties_of, property_at}
use Rattle.map_model.specs.WellFormed.{IsWellFormed}
use Rattle.map_model.proofs.PropertyKeeps.{AreProperties-of}
use Rattle.edits.specs.PropertyEdits.{owner_or_fault}
use Rattle.property_commands.specs.Owners.{object_id, owner_at}
use Rattle.property_commands.proofs.PropertyMaking.{owner-there}

-- the place of a property is a number of 32 bits
pub place-below : (m : MapParts) (owner : OwnerPlace) (at : ℕ) (p : Property) → property_at m owner at ≡ Some p → IsWellFormed m → at < 2 ^ 32
place-below m owner at p e well = by_list (properties_of m owner) refl e
  where
    by_list : (o : Option (List Property)) → properties_of m owner ≡ o → option_and_then (λ ps. slice_get ps at) o ≡ Some p → at < 2 ^ 32
    by_list None is there = cc
    by_list (Some ps) is there =
        let few = (AreProperties-of owner ps m is well).few in
        let within = slice_get_within ps at p there in
        omega (arith, few, within)

-- the owner that is told is the one that stands at the place
stands-at : (m : MapParts) (owner : Owner) (place : OwnerPlace) → owner_place m owner ≡ Some place → owner_at place (object_id owner) ≡ owner
stands-at m owners.Map place e = let is : place ≡ places.Map = cc in rw is refl
stands-at m (owners.Layer id) place e = by_layer (layer_of m id) e
  where
    by_layer : (o : Option Layer) → option_map (λ l. places.Layer id) o ≡ Some place → owner_at place 0 ≡ owners.Layer id
    by_layer None there = cc
    by_layer (Some l) there = let is : place ≡ places.Layer id = cc in rw is refl
stands-at m (owners.Object id) place e = by_place (object_place m id) e
  where
    by_place : (o : Option ObjectPlace) → option_map places.Object o ≡ Some place → owner_at place id ≡ owners.Object id
    by_place None there = cc
    by_place (Some own) there = let is : place ≡ places.Object own = cc in rw is refl

pub told-owner : (m : MapParts) (owner : Owner) (place : OwnerPlace) → owner_or_fault m owner ≡ Ok place → owner_at place (object_id owner) ≡ owner
told-owner m owner place e = stands-at m owner place (owner-there m owner place e)
