-- The document after a property was set whole, or the edit's refusal.
use Rattle.std.specs.Prelude.{ℕ, nat_lt, Option, Some, None, Result, Ok}
use Rattle.map_model.specs.declared.limits.TheConstants.{MAX_PROPERTIES}
use Rattle.map_model.specs.declared.owner.Owner.{Owner}
use Rattle.map_model.specs.declared.parts.Property.{Property}
use Rattle.map_model.specs.declared.place.OwnerPlace.{OwnerPlace}
use Rattle.map_model.specs.Document.{DocumentParts, with_map}
use Rattle.map_model.specs.Properties.{property_place, with_property, with_property_at}
use Rattle.map_model.specs.Refusing.{◌>>=◌, ◌>>◌, check}
use Rattle.refusals.specs.declared.edit_fault.EditFault.{EditFault}
use Rattle.refusals.specs.declared.edit_fault.EditFault.TheVariants.{TooMany}
use Rattle.edits.specs.PropertyEdits.{owner_or_fault, property_count}

-- it stands in the place of the one with its name; a new one goes last
abbrev pub after_put_at : DocumentParts → Property → OwnerPlace → Option ℕ → Result DocumentParts EditFault
after_put_at d p owner (Some at) = Ok (with_map (with_property owner at (λ own. p)) d)
after_put_at d p owner None = do
  check (nat_lt (property_count d.map owner) MAX_PROPERTIES) TooMany
  Ok (with_map (with_property_at owner (property_count d.map owner) p) d)

abbrev pub after_put_property : DocumentParts → Owner → Property → Result DocumentParts EditFault
after_put_property d owner p = do
  place ← owner_or_fault d.map owner
  after_put_at d p place (property_place d.map place p.name)
