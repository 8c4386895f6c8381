-- What each command is and does.
use Rattle.std.specs.Prelude.{◌≡◌, ℕ, Bool, true, false, Some}
use Rattle.map_model.specs.declared.parts.Placing.{Placing}
use Rattle.map_model.specs.declared.place.ObjectPlace.{ObjectPlace}
use Rattle.map_model.specs.Document.{DocumentParts}
use Rattle.map_model.specs.Objects.{object_place}
use Rattle.map_model.specs.Lens.{placing_with_id}
use Rattle.map_model.specs.Slot.{object_slot, next_object_slot}
use Rattle.map_model.specs.WellFormed.{IsPlacing}
use Rattle.command_api.specs.Law.{Change}
use Rattle.command_api.specs.Names.{Names}
use Rattle.command_api.specs.Offers.{Shown, Nothing, Place}
use Rattle.command_api.specs.Exchange.{Exchange, change_of}
use Rattle.command_api.specs.Swap.{swap_shown}
use Rattle.command_api.specs.Link.{link}
use Rattle.command_api.specs.Move.{move}
use Rattle.object_commands.specs.declared.add.AddObject.{AddObject}
use Rattle.object_commands.specs.declared.remove.RemoveObject.{RemoveObject}
use Rattle.object_commands.specs.declared.reparent.ReparentObject.{ReparentObject}
use Rattle.object_commands.specs.declared.place.PlacingKind.{PlacingKind}
use Rattle.object_commands.specs.declared.place.PlacingKind.TheVariants.{Move, Resize}
use Rattle.object_commands.specs.declared.place.PlaceObject.{PlaceObject}
use Rattle.object_commands.specs.Names.{add_object_names, remove_object_names, move_object_names, reparent_object_names, resize_object_names}

-- ---- objects that are put in and taken out
abbrev pub add_object_exchange : AddObject → Exchange
add_object_exchange c = link add_object_names (next_object_slot c.layer c.next c.raised) c.object

abbrev pub add_object_change : AddObject → Change
add_object_change c = change_of (add_object_exchange c)

abbrev pub remove_object_exchange : RemoveObject → Exchange
remove_object_exchange c = link remove_object_names (object_slot c.place) c.object

abbrev pub remove_object_change : RemoveObject → Change
remove_object_change c = change_of (remove_object_exchange c)

-- ---- an object that goes to another place of a layer
abbrev pub reparent_object_exchange : ReparentObject → Exchange
reparent_object_exchange c = move reparent_object_names (object_slot c.from) (object_slot c.to)

abbrev pub reparent_object_change : ReparentObject → Change
reparent_object_change c = change_of (reparent_object_exchange c)

-- ---- objects that are moved and resized
-- a resize has no tag and follows nothing
abbrev pub place_object_names : PlacingKind → ℕ → Bool → Names
place_object_names Move id follows = move_object_names id follows
place_object_names Resize id follows = resize_object_names

-- the object with the id stands at the place, and may have the placing
pub record AllowsPlacing (id : ℕ) (place : ObjectPlace) (d : DocumentParts) (p : Placing) : Type 0 where
  pub stands : object_place d.map id ≡ Some place
  pub placing : IsPlacing p

-- the object's placing and the one that is held change places
abbrev pub place_object_exchange : PlaceObject → Exchange
place_object_exchange c =
    swap_shown (place_object_names c.kind c.object c.follows) (placing_with_id c.object) (AllowsPlacing c.object c.place) c.is_same c.is_made c.after c.placing

abbrev pub place_object_change : PlaceObject → Change
place_object_change c = change_of (place_object_exchange c)

-- what a move that follows shows: the object, the placing that is held, and the one that it gives. A resize shows nothing
abbrev pub shown_place : PlacingKind → Bool → ℕ → Placing → Placing → Shown
shown_place Move false id held after = Nothing
shown_place Move true id held after = Place id held after
shown_place Resize follows id held after = Nothing

abbrev pub place_object_shown : PlaceObject → Shown
place_object_shown c = shown_place c.kind c.follows c.object c.placing c.after
