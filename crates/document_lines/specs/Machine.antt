-- What there is: for each open document a history of whole documents, which document is active, and the files as the store
-- keeps them.
use Rattle.std.specs.Prelude.{ℕ, List, Option, Some}
use Rattle.map_model.specs.Document.{document_of}
use Rattle.map_model.specs.NewMap.{new_map}
use Rattle.map_store.specs.Files.{StoreParts}
use Rattle.undo_stack.specs.History.{History, new_history}
use Rattle.undo_group.specs.Groups.{GroupParts, active_history, added, chosen, empty_group}
use Rattle.undo_group.specs.Groups as groups

-- the undo limit of a document when it is made, and the open documents with their histories
pub record Machine : Type 0 where
  pub limit : ℕ
  pub group : GroupParts

-- the machine, and what the store keeps
pub record Workspace : Type 0 where
  pub machine : Machine
  pub stored : StoreParts

abbrev pub workspace : Machine → StoreParts → Workspace
workspace machine stored = record { machine = machine; stored = stored }

-- no document is open
abbrev pub started_machine : ℕ → Machine
started_machine limit = record { limit = limit; group = empty_group }

-- the history of the active document
abbrev pub active_of : Machine → Option History
active_of m = active_history m.group

-- the machine with this history of the active document, and all else as it was
abbrev pub with_active : History → Machine → Machine
with_active h m = record m { group = groups.with_active h m.group }

-- the document of this name goes last, and is the active one
abbrev pub opened : List ℕ → History → GroupParts → GroupParts
opened name h g = chosen (Some name) (added name h g)

-- the history of a new document
abbrev pub started : ℕ → ℕ → ℕ → ℕ → ℕ → List ℕ → History
started limit width height tile_width tile_height source = new_history (document_of (new_map width height tile_width tile_height source)) limit
