-- What is told of steps one after another, and of the entries of open macros.
use Rattle.std.specs.Prelude.{◌≡◌, ◌≢◌, ℕ, ◌≤◌, ◌<◌, ◌+◌, nat_lt, if◌then◌else◌, false, length, slice_get, Option, None, Some, IfSome}
use Rattle.map_model.specs.Document.{DocumentParts}
use Rattle.map_model.specs.Lookups.{cell_of}
use Rattle.map_model.specs.declared.parts.MapParts.{MapParts}
use Rattle.map_json.specs.Outlines.{outline_of}
use Rattle.undo_stack.specs.History.{History, Open, current, document_at}
use Rattle.undo_stack.specs.Sides.{inner_document_at}
use Rattle.undo_stack.specs.Stacks.{Holds, history}
use Rattle.undo_stack.specs.declared.stack.Stack.{Stack}
use Rattle.document_lines.specs.declared.differences.Cells.{Cells}
use Rattle.document_lines.specs.declared.differences.Cells.TheVariants as some_cells
use Rattle.document_lines.specs.declared.differences.Differences.{Differences}
use Rattle.document_lines.specs.declared.planned.Edit.{Edit}
use Rattle.document_lines.specs.Differing.{DifferWithin, HaveSameLayers, IsOneOf}
use Rattle.document_lines.specs.Planning.{edit_change}

-- what was told of a document and e is more now, and is told of that document and f
abbrev pub TellsOn : Differences → Differences → DocumentParts → DocumentParts → Type 0
TellsOn was told e f = (d : DocumentParts) → DifferWithin was d e → DifferWithin told d f

-- the document of an open level at a number of its inner steps; the current one, where there is no such level
abbrev pub open_document_in : DocumentParts → Option Open → ℕ → DocumentParts
open_document_in d None at = d
open_document_in d (Some l) at = inner_document_at l at

abbrev pub open_document : History → ℕ → ℕ → DocumentParts
open_document h level at = open_document_in (current h) (slice_get h.levels level) at

-- an open level has as many inner steps, where there is such a level
abbrev pub HasInner : History → ℕ → ℕ → Type 0
HasInner h level at = IfSome (slice_get h.levels level) (λ l. at ≤ length l.steps)

-- the document behind the step with a number: behind an open macro, which stands last, the current one
abbrev pub document_behind : History → ℕ → DocumentParts
document_behind h at = if nat_lt at (length h.steps) then document_at h (at + 1) else current h

-- ---- what is told, as far as the map has cells
-- What is not told is the same in both documents, as `DifferWithin` says it, but of the cells only those are looked at that lie in
-- the map m.
pub record DifferOn (m : MapParts) (told : Differences) (d e : DocumentParts) : Type 0 where
  pub outline : told.outline ≡ false → outline_of e.map ≡ outline_of d.map
  pub selection : told.selection ≡ false → e.selection ≡ d.selection
  pub layers : told.cells ≢ some_cells.All → HaveSameLayers d.map e.map
  pub cells : (id x y : ℕ) → x < m.width → y < m.height → (IsOneOf told.cells id x y → ⊥) → cell_of e.map id x y ≡ cell_of d.map id x y

-- those of these cells that lie in the map m are told, and where these are all cells, all are
pub record TellsCellsOf (m : MapParts) (cells told : Cells) : Type 0 where
  pub one : (id x y : ℕ) → x < m.width → y < m.height → IsOneOf cells id x y → IsOneOf told id x y
  pub all : cells ≡ some_cells.All → told ≡ some_cells.All

-- a turn of a stack from one number of steps to another is told
abbrev pub TellsTurn : Stack Edit → ℕ → ℕ → Differences → Type 0
TellsTurn s before after told = Holds edit_change s
    → DifferWithin told (document_at (history edit_change s) before) (document_at (history edit_change s) after)
