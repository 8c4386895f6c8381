-- Offers, and the law of a merge.
--
-- A command shows its change to the one before it, or nothing, where it does not follow. What it shows is a plain value. One
-- with the same tag takes it in: it then fits the document for undo, and its undo gives what both undos in turn give.
use Rattle.std.specs.Prelude.{◌≡◌, ◌↔◌, ℕ, ◌+◌, List, length, Option, Some, None, IsSomeAnd, true, false}
use Rattle.std.specs.Option.{option_copied}
use Rattle.map_model.specs.declared.edit.CellEdit.{CellEdit}
use Rattle.map_model.specs.declared.edit.Side.TheVariants.{Before}
use Rattle.map_model.specs.declared.owner.Owner.{Owner}
use Rattle.map_model.specs.declared.parts.Placing.{Placing}
use Rattle.map_model.specs.declared.setting.Setting.{Setting}
use Rattle.map_model.specs.Difference.{difference_in}
use Rattle.map_model.specs.Document.{DocumentParts, painted}
use Rattle.map_model.specs.Lens.{Lens, put, placing_with_id}
use Rattle.map_model.specs.Lookups.{HasTiles}
use Rattle.map_model.specs.Properties.{new_property, properties_of, property_at, scalar_value, setting_with}
use Rattle.map_model.specs.PropertyLenses.{setting_named, setting_place, without_setting}
use Rattle.map_model.specs.WellFormed.{IsWellFormed}
use Rattle.command_api.specs.Heads.{ShownHead, FitsHead, head_owner, head_undone, shown_head}
use Rattle.command_api.specs.Law.{Change}
use Rattle.command_api.specs.Names.{Names, is_free}
use Rattle.command_api.specs.Tag.{Tag, OfLayer, OfObject, OfName, member_tag}
use Rattle.command_api.specs.declared.ids.TheConstants.{MOVE_ID, SET_ID}
use Rattle.command_api.specs.declared.offer.Offer.{Offer}
use Rattle.command_api.specs.declared.offer.Offer.TheVariants as offers

-- what is shown: nothing; the cells that a paint with this id changes on a layer; an object, and its placing before and
-- after; an owner, a name, and the setting of that property before, where there was one, and after; or a name, or none, and an
-- owner's head, or the value, before its own member of that name, or several at once, were set
pub data Shown : Type 0 where
  Nothing : Shown
  Cells : ℕ → ℕ → List CellEdit → Shown
  Place : ℕ → Placing → Placing → Shown
  Value : Owner → List ℕ → Option Setting → Setting → Shown
  Member : Option (List ℕ) → ShownHead → Shown

-- what an offer shows
abbrev pub shown_of : Offer → Shown
shown_of offers.Nothing = Nothing
shown_of (offers.Cells id layer cells) = Cells id layer cells.now
shown_of (offers.Place object before after) = Place object before after
shown_of (offers.Value owner name before kind value) = Value owner name.now (option_copied before) (setting_with kind.now (scalar_value value))
shown_of (offers.Member name before) = Member (option_copied name) (shown_head before)

-- the tag that is shown
abbrev pub offer_tag : Shown → Option Tag
offer_tag Nothing = None
offer_tag (Cells id layer cells) = Some (record { kind = id; subject = OfLayer layer })
offer_tag (Place object before after) = Some (record { kind = MOVE_ID; subject = OfObject object })
offer_tag (Value owner name before after) = Some (record { kind = SET_ID; subject = OfName owner name })
offer_tag (Member name before) = Some (member_tag (head_owner before) name)

-- the document before the property of an owner with this name got a setting
abbrev pub setting_undone : Owner → List ℕ → Option Setting → DocumentParts → DocumentParts
setting_undone owner name None d = without_setting owner name d
setting_undone owner name (Some before) d = put (setting_named owner name) before d

-- the document before what is shown
abbrev pub offer_undone : Shown → DocumentParts → DocumentParts
offer_undone Nothing d = d
offer_undone (Cells id layer cells) d = painted layer cells Before d
offer_undone (Place object before after) d = put (placing_with_id object) before d
offer_undone (Value owner name before after) d = setting_undone owner name before d
offer_undone (Member name before) d = head_undone name before d

-- the well-formed document has the tile layer, the cells are the difference to it of the document before them, and that
-- one is well formed too
pub record FitsCells (layer : ℕ) (cells : List CellEdit) (d : DocumentParts) : Type 0 where
  pub well_formed : IsWellFormed d.map
  pub tiles : HasTiles d.map layer
  pub exact : cells ≡ difference_in layer (painted layer cells Before d).map d.map
  pub back : IsWellFormed (painted layer cells Before d).map

-- the well-formed document holds the value after in this part, and is well formed with the one before put back
pub record FitsPut {V : Type 0} (p : Lens DocumentParts V) (before after : V) (d : DocumentParts) : Type 0 where
  pub well_formed : IsWellFormed d.map
  pub holds : p.get d ≡ Some after
  pub back : IsWellFormed (put p before d).map

-- the owner's property with this name is its last one, and has the setting, and no kept members
abbrev pub IsLastSetting : Owner → List ℕ → Setting → DocumentParts → Type 0
IsLastSetting owner name s d = IsSomeAnd (setting_place owner name d)
    (λ at. (property_at d.map at.0 at.1 ≡ Some (new_property name s)) × IsSomeAnd (properties_of d.map at.0) (λ ps. length ps ≡ at.1 + 1))

-- the well-formed document has the setting as its owner's last property, which was not there before, and is well formed
-- without it
pub record FitsNew (owner : Owner) (name : List ℕ) (after : Setting) (d : DocumentParts) : Type 0 where
  pub well_formed : IsWellFormed d.map
  pub last : IsLastSetting owner name after d
  pub back : IsWellFormed (without_setting owner name d).map

abbrev pub FitsSetting : Owner → List ℕ → Option Setting → Setting → DocumentParts → Type 0
FitsSetting owner name None after d = FitsNew owner name after d
FitsSetting owner name (Some before) after d = FitsPut (setting_named owner name) before after d

-- what is shown fits the document for undo: the document is well formed, and is so with the old values put back. It holds the new
-- values, or, where own members were set, it has their owner
abbrev pub FitsOffer : Shown → DocumentParts → Type 0
FitsOffer Nothing d = Unit {0}
FitsOffer (Cells id layer cells) d = FitsCells layer cells d
FitsOffer (Place object before after) d = FitsPut (placing_with_id object) before after d
FitsOffer (Value owner name before after) d = FitsSetting owner name before after d
FitsOffer (Member name before) d = FitsHead name before d

-- what a command shows: nothing exactly where it does not follow, else its tag and its undo
pub record IsOfferOf (c : Change) (o : Shown) : Type 0 where
  pub nothing : (c.names.follows ≡ false) ↔ (offer_tag o ≡ None)
  pub tag : c.names.follows ≡ true → offer_tag o ≡ c.names.tag
  pub fits : (d : DocumentParts) → c.names.follows ≡ true → c.fits_undo d → FitsOffer o d
  pub undone : (d : DocumentParts) → c.names.follows ≡ true → c.fits_undo d → offer_undone o d ≡ c.undone d

-- what a merge asks: what is shown fits the document for undo, and the older command the document before it
abbrev pub AsksMerge : Change → Shown → DocumentParts → Type 0
AsksMerge v Nothing d = Unit {0}
AsksMerge v o d = FitsOffer o d × v.fits_undo (offer_undone o d)

-- a command with this tag takes in what is shown
pub record Takes (t : Option Tag) (o : Shown) : Type 0 where
  pub some : offer_tag o ≡ None → ⊥
  pub same : offer_tag o ≡ t

-- a merge made the command v the command w, which does both changes
pub record IsMerged (v w : Change) (o : Shown) (d : DocumentParts) : Type 0 where
  pub fits : w.fits_undo d
  pub undone : w.undone d ≡ v.undone (offer_undone o d)
  pub names : w.names ≡ v.names

-- one that has no tag follows nothing and takes nothing in, and it does not say itself when it is obsolete
pub record IsAlone (n : Names) : Type 0 where
  pub tag : n.tag ≡ None
  pub follows : n.follows ≡ false
  pub bound : is_free n.vanishing ≡ false
