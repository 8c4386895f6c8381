-- What each command of properties is and does.
use Rattle.std.specs.Prelude.{◌≡◌, ◌↔◌, ℕ, List, length, Bool, true, false, Option, Some, None, is_none, IsSomeAnd, IsTrue, refl}
use Rattle.map_model.specs.declared.owner.Owner.{Owner}
use Rattle.map_model.specs.declared.parts.Property.{Property}
use Rattle.map_model.specs.declared.place.OwnerPlace.{OwnerPlace}
use Rattle.map_model.specs.declared.setting.Setting.{Setting}
use Rattle.map_model.specs.Document.{DocumentParts, with_map}
use Rattle.map_model.specs.Given.{given_setting}
use Rattle.map_model.specs.Properties.{IsSetting, new_property, owner_place, properties_of, property_at, property_place, without_property_at}
use Rattle.map_model.specs.Lens.{Lens, inner, of_place, whole}
use Rattle.map_model.specs.PropertyLenses.{properties, property_slot, setting_named, setting_place}
use Rattle.command_api.specs.Law.{Change}
use Rattle.command_api.specs.Names.{Names}
use Rattle.command_api.specs.Offers.{IsAlone, Shown, Nothing, Value}
use Rattle.command_api.specs.Exchange.{Exchange, change_of}
use Rattle.command_api.specs.Swap.{swap_held, swap_shown}
use Rattle.command_api.specs.Link.{link, linked, FitsLink}
use Rattle.property_commands.specs.declared.put.PutKind.{PutKind}
use Rattle.property_commands.specs.declared.put.PutKind.TheVariants as put_kinds
use Rattle.property_commands.specs.declared.put.PutProperty.{PutProperty}
use Rattle.property_commands.specs.declared.remove.RemoveProperty.{RemoveProperty}
use Rattle.property_commands.specs.declared.set.PropertySet.{PropertySet}
use Rattle.property_commands.specs.declared.set.SetProperty.{SetProperty}
use Rattle.property_commands.specs.declared.set.SetKind.{SetKind}
use Rattle.property_commands.specs.declared.set.SetKind.TheVariants.{Replace, Add}
use Rattle.property_commands.specs.Names.{put_property_names, set_property_names, remove_property_names}

-- ---- set
-- the owner's property with the name stands at the place, and may have the setting
pub record AllowsSetting (owner : Owner) (name : List ℕ) (place : OwnerPlace) (at : ℕ) (d : DocumentParts) (s : Setting) : Type 0 where
  pub stands : setting_place owner name d ≡ Some (place, at)
  pub setting : IsSetting d.map place s

-- the owner stands at the place, and has so many properties, none of them with the name
pub record IsNewAt (owner : Owner) (name : List ℕ) (place : OwnerPlace) (at : ℕ) (d : DocumentParts) : Type 0 where
  pub stands : owner_place d.map owner ≡ Some place
  pub new : property_place d.map place name ≡ None
  pub last : IsSomeAnd (properties_of d.map place) (λ ps. length ps ≡ at)

-- the property that is held is new with the setting, or the one that stands last, where none is held, is
abbrev pub IsNew : Owner → List ℕ → OwnerPlace → ℕ → Setting → Option (Option Property) → DocumentParts → Type 0
IsNew owner name place at s None d = (property_at d.map place at ≡ Some (new_property name s))
    × IsNewAt owner name place at (with_map (without_property_at place at) d)
IsNew owner name place at s (Some loose) d = (loose ≡ Some (new_property name s)) × IsNewAt owner name place at d

-- a link of a new property, that has the setting
pub record FitsNewLink (owner : Owner) (name : List ℕ) (place : OwnerPlace) (at : ℕ) (s : Setting) (held : Option (Option Property))
    (d : DocumentParts) : Type 0 where
  pub link : FitsLink (property_slot place at) held d
  pub new : IsNew owner name place at s held d

-- a new property is put in last and taken out; this is never obsolete
abbrev pub new_link : Names → Owner → List ℕ → OwnerPlace → ℕ → Setting → Option (Option Property) → Exchange
new_link names owner name place at s held = record {
  names = names;
  obsolete = false;
  made = Some (is_none held);
  exchanged = linked (property_slot place at) held;
  fits = FitsNewLink owner name place at s held;
}

-- the type and the value of a property that is there are exchanged, or a new property is put in and taken out
abbrev pub set_kind_exchange : Names → Owner → List ℕ → OwnerPlace → ℕ → Setting → SetKind → Exchange
set_kind_exchange names owner name place at s (Replace setting is_made is_same) =
    swap_shown names (setting_named owner name) (AllowsSetting owner name place at) is_same is_made s setting
set_kind_exchange names owner name place at s (Add property) = new_link names owner name place at s property

abbrev pub property_set_exchange : PropertySet → Exchange
property_set_exchange s = set_kind_exchange (set_property_names s.owner s.name s.follows) s.owner s.name s.place s.at (given_setting s.shown) s.kind

abbrev pub property_set_change : PropertySet → Change
property_set_change s = change_of (property_set_exchange s)

abbrev pub set_property_change : SetProperty → Change
set_property_change c = property_set_change c.set.value

-- the type and the value from before that a kind of setting shows
abbrev pub before_of : SetKind → Option Setting
before_of (Replace setting is_made is_same) = Some setting
before_of (Add property) = None

-- what is shown where the command follows: the property, the setting that is held, where it was there, and the one that it gets
abbrev pub shown_setting : Bool → Owner → List ℕ → Option Setting → Setting → Shown
shown_setting false owner name held after = Nothing
shown_setting true owner name held after = Value owner name held after

abbrev pub property_set_shown : PropertySet → Shown
property_set_shown s = shown_setting s.follows s.owner s.name (before_of s.kind) (given_setting s.shown)

abbrev pub set_property_shown : SetProperty → Shown
set_property_shown c = property_set_shown c.set.value

-- a kind of setting as it is for another setting that is given: one that replaces is the same where it holds that one
abbrev pub IsKindFor : Setting → SetKind → SetKind → Type 0
IsKindFor s (Replace setting is_made is_same) kind = (told : Bool) × ((kind ≡ Replace setting is_made told) × (IsTrue told ↔ setting ≡ s))
IsKindFor s (Add property) kind = kind ≡ Add property

-- ---- remove
abbrev pub remove_property_exchange : RemoveProperty → Exchange
remove_property_exchange c = link remove_property_names (property_slot c.owner c.at) c.property

abbrev pub remove_property_change : RemoveProperty → Change
remove_property_change c = change_of (remove_property_exchange c)

-- ---- put
-- the property at a place among its owner's
abbrev pub property_in : OwnerPlace → ℕ → Lens DocumentParts Property
property_in owner at = inner (properties owner) (of_place at (whole (λ p. p) (λ p own. p)))

-- the property of a link, where one is held
abbrev pub held_property : Option (Option Property) → Option Property
held_property None = None
held_property (Some loose) = loose

-- a property and the one that is held change places, or a new property is put in and taken out
abbrev pub put_kind_exchange : OwnerPlace → ℕ → PutKind → Exchange
put_kind_exchange place at (put_kinds.Replace property is_made is_same) =
    swap_held put_property_names (property_in place at) is_same is_made (held_property property)
put_kind_exchange place at (put_kinds.Add property) = link put_property_names (property_slot place at) property

abbrev pub put_property_exchange : PutProperty → Exchange
put_property_exchange c = put_kind_exchange c.place c.at c.kind

abbrev pub put_property_change : PutProperty → Change
put_property_change c = change_of (put_property_exchange c)

-- it has no tag
pub put_property-alone : (c : PutProperty) → IsAlone (put_property_exchange c).names
put_property-alone c = by_kind c.kind
  where
    by_kind : (k : PutKind) → IsAlone (put_kind_exchange c.place c.at k).names
    by_kind (put_kinds.Replace property is_made is_same) = record { tag = refl; follows = refl; bound = refl }
    by_kind (put_kinds.Add property) = record { tag = refl; follows = refl; bound = refl }
