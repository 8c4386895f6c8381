-- Commands as an edit makes them, and how an edit is refused.
use Rattle.std.specs.Prelude.{◌≡◌, Result, Ok, Err, IsOk}
use Rattle.map_model.specs.Document.{DocumentParts}
use Rattle.command_api.specs.Law.{Change}
use Rattle.command_api.specs.Names.{Names}
use Rattle.refusals.specs.declared.edit_fault.EditFault.{EditFault}
use Rattle.refusals.specs.declared.edit_fault.EditFault.TheVariants.{NoMemory}

-- the command, not made yet, leads from the document d to where an edit leads, and has the edit's names
pub record Makes {E : Type 0} (edit : Names) (d : DocumentParts) (after : Result DocumentParts E) (c : Change) : Type 0 where
  pub fits : c.fits_redo d
  pub document : after ≡ Ok (c.redone d)
  pub names : c.names ≡ edit

-- a refusal is the edit's own, or out of memory, which comes only where the edit is not refused
abbrev pub IsRefusalOf : Result DocumentParts EditFault → EditFault → Type 0
IsRefusalOf after NoMemory = IsOk after
IsRefusalOf after fault = after ≡ Err fault
