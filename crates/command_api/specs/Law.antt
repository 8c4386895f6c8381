-- The law of a command.
--
-- A command has names: two texts, a tag or none, a vanishing, and whether it follows the step before it. It fits some
-- documents for redo and some for undo. Redo and undo each ask that it fits the document for that call. Afterwards it
-- fits the new document for the other call, and that one would give the old document back. The names stay.
--
-- One that never vanishes is never obsolete. One that vanishes when equal is obsolete exactly where turning it, redo or
-- undo, leaves the document that it fits as it is. One that is free says itself when it is obsolete: then it turns nothing,
-- and the stack drops it. A turn makes none but a free one obsolete.
use Rattle.std.specs.Prelude.{◌≡◌, ◌↔◌, Bool, false}
use Rattle.map_model.specs.Document.{DocumentParts}
use Rattle.command_api.specs.Names.{Names, IsSettled, is_free}

-- what a command is: its names, whether it is obsolete, the documents that it fits, and what they turn to
pub record Change : Type 1 where
  pub names : Names
  pub obsolete : Bool
  pub redone : DocumentParts → DocumentParts
  pub undone : DocumentParts → DocumentParts
  pub fits_redo : DocumentParts → Type 0
  pub fits_undo : DocumentParts → Type 0

-- being obsolete is settled at each document that the command fits
pub record IsLawful (c : Change) : Type 0 where
  pub redo : (d : DocumentParts) → c.fits_redo d → IsSettled c.names.vanishing c.obsolete d (c.redone d)
  pub undo : (d : DocumentParts) → c.fits_undo d → IsSettled c.names.vanishing c.obsolete d (c.undone d)

-- redo made the command v the command w, and the document d the document e
pub record IsRedone (v w : Change) (d e : DocumentParts) : Type 0 where
  pub document : e ≡ v.redone d
  pub fits : w.fits_undo e
  pub back : w.undone e ≡ d
  pub names : w.names ≡ v.names
  pub obsolete : is_free v.names.vanishing ≡ false → w.obsolete ≡ v.obsolete

-- undo made the command v the command w, and the document d the document e
pub record IsUndone (v w : Change) (d e : DocumentParts) : Type 0 where
  pub document : e ≡ v.undone d
  pub fits : w.fits_redo e
  pub back : w.redone e ≡ d
  pub names : w.names ≡ v.names
  pub obsolete : is_free v.names.vanishing ≡ false → w.obsolete ≡ v.obsolete

-- w does what v does
pub record IsSame (v w : Change) : Type 0 where
  pub names : w.names ≡ v.names
  pub obsolete : w.obsolete ≡ v.obsolete
  pub redone : (d : DocumentParts) → w.redone d ≡ v.redone d
  pub undone : (d : DocumentParts) → w.undone d ≡ v.undone d
  pub fits_redo : (d : DocumentParts) → v.fits_redo d ↔ w.fits_redo d
  pub fits_undo : (d : DocumentParts) → v.fits_undo d ↔ w.fits_undo d
