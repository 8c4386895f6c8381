-- The owner that a command tells, by what it holds.
use Rattle.std.specs.Prelude.{ℕ}
use Rattle.map_model.specs.declared.owner.Owner.{Owner}
use Rattle.map_model.specs.declared.owner.Owner.TheVariants as owners
use Rattle.map_model.specs.declared.place.OwnerPlace.{OwnerPlace}
use Rattle.map_model.specs.declared.place.OwnerPlace.TheVariants as places

-- the id of an owner that is an object, and 0 of any other
abbrev pub object_id : Owner → ℕ
object_id owners.Map = 0
object_id (owners.Layer id) = 0
object_id (owners.Object id) = id

-- the owner that stands at a place, where an object there has this id
abbrev pub owner_at : OwnerPlace → ℕ → Owner
owner_at places.Map object = owners.Map
owner_at (places.Layer id) object = owners.Layer id
owner_at (places.Object place) object = owners.Object object
