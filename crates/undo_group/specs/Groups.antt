-- Groups: open documents with their histories, in order of opening, of which at most one is active.
use Rattle.std.specs.Prelude.{◌≡◌, ℕ, List, [], ◌∷◌, ◌++◌, map, position, Bool, false, true, not, Option, Some, None, IsSome, IfSome, filter, if◌then◌else◌}
use Rattle.std.specs.Str.{bytes_eq}
use Rattle.undo_stack.specs.History.{History}

-- an open document: its name, and its history
pub record OpenDocument : Type 0 where
  pub name : List ℕ
  pub history : History

-- a group: the open documents, and the name of the active one, where one is active
pub record GroupParts : Type 0 where
  pub documents : List OpenDocument
  pub active : Option (List ℕ)

-- the history of the document with this name
abbrev pub history_named : List ℕ → List OpenDocument → Option History
history_named name [] = None
history_named name (d ∷ ds) = if bytes_eq name d.name then Some d.history else history_named name ds

-- the history of the active document
abbrev pub active_among : Option (List ℕ) → List OpenDocument → Option History
active_among None ds = None
active_among (Some name) ds = history_named name ds

abbrev pub active_history : GroupParts → Option History
active_history g = active_among g.active g.documents

-- whether a document has the active name
abbrev pub is_active : Option (List ℕ) → OpenDocument → Bool
is_active None d = false
is_active (Some name) d = bytes_eq name d.name

-- the place of the active document, where the first one has 0
abbrev pub active_place : GroupParts → Option ℕ
active_place g = position (is_active g.active) g.documents

-- no document has this name
abbrev pub IsNew : List ℕ → List OpenDocument → Type 0
IsNew name ds = history_named name ds ≡ None

-- no two documents have one name
abbrev pub AreDistinct : List OpenDocument → Type 0
AreDistinct [] = Unit {0}
AreDistinct (d ∷ ds) = IsNew d.name ds × AreDistinct ds

-- the names are distinct, and the active one is among them
pub record IsGroup (g : GroupParts) : Type 0 where
  pub distinct : AreDistinct g.documents
  pub active : IfSome g.active (λ name. IsSome (history_named name g.documents))

-- no document is open
abbrev pub empty_group : GroupParts
empty_group = record { documents = []; active = None }

-- one more document, which goes last; the choice of the active one stays
abbrev pub added : List ℕ → History → GroupParts → GroupParts
added name h g = record { documents = g.documents ++ record { name = name; history = h } ∷ []; active = g.active }

-- the documents but the one of this name, in their order
abbrev pub without : List ℕ → List OpenDocument → List OpenDocument
without name ds = filter (λ d. not (bytes_eq name d.name)) ds

-- no document is active where that one was
abbrev pub active_without : List ℕ → Option (List ℕ) → Option (List ℕ)
active_without name None = None
active_without name (Some active) = if bytes_eq name active then None else Some active

-- the document of this name is taken out
abbrev pub removed : List ℕ → GroupParts → GroupParts
removed name g = record { documents = without name g.documents; active = active_without name g.active }

-- the document of this name is the active one, or none is
abbrev pub chosen : Option (List ℕ) → GroupParts → GroupParts
chosen name g = record { documents = g.documents; active = name }

-- the document of this name has that history
abbrev pub with_history : List ℕ → History → List OpenDocument → List OpenDocument
with_history name h ds = map (λ d. if bytes_eq name d.name then record { name = d.name; history = h } else d) ds

abbrev pub with_history_of : Option (List ℕ) → History → List OpenDocument → List OpenDocument
with_history_of None h ds = ds
with_history_of (Some name) h ds = with_history name h ds

-- the active document has that history
abbrev pub with_active : History → GroupParts → GroupParts
with_active h g = record { documents = with_history_of g.active h g.documents; active = g.active }

-- the text of the active history, which is empty where no document is active
abbrev pub text_of_active : (History → List ℕ) → Option History → List ℕ
text_of_active text None = []
text_of_active text (Some h) = text h

-- a group is clean where the active document is, or none is active
abbrev pub is_clean_active : (History → Bool) → Option History → Bool
is_clean_active clean None = true
is_clean_active clean (Some h) = clean h
