-- What is told of some changes, and of one more.
use Rattle.map_model.specs.Document.{DocumentParts}
use Rattle.command_api.specs.Law.{Change}
use Rattle.document_lines.specs.declared.differences.Differences.{Differences}
use Rattle.document_lines.specs.Differing.{DifferWithin}

-- where a document and the next one differ within what was told, the first and the one behind a change more differ within what
-- is told, be that change made or turned back
pub record TellsOneMore (was told : Differences) (c : Change) : Type 0 where
  pub redo : (d e : DocumentParts) → DifferWithin was d e → c.fits_redo e → DifferWithin told d (c.redone e)
  pub undo : (d e : DocumentParts) → c.fits_undo e → DifferWithin was d (c.undone e) → DifferWithin told d e
