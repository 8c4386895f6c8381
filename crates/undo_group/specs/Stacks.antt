-- A group of stacks, seen as a group of histories, where f says what their commands do.
use Rattle.std.specs.Prelude.{◌≡◌, ℕ, ◌<◌, if◌then◌else◌, List, [], ◌∷◌, ◌++◌, map, length, Option, Some, None, IsSome, IfSome, All}
use Rattle.std.specs.Prelude.{slice_get}
use Rattle.std.specs.List.{IsDistinct}
use Rattle.std.specs.Map.{keys_of}
use Rattle.std.specs.Option.{option_map}
use Rattle.std.specs.Str.{bytes_eq}
use Rattle.std.specs.String.{string_bytes, string_eq}
use Rattle.std.specs.declared.alloc.Global.{Global}
use Rattle.std.specs.declared.string.String.{String}
use Rattle.command_api.specs.Law.{Change}
use Rattle.undo_stack.specs.Stacks.{history, Holds}
use Rattle.undo_stack.specs.declared.stack.Stack.{Stack}
use Rattle.undo_group.specs.Groups.{OpenDocument, GroupParts, IsNew, history_named}
use Rattle.undo_group.specs.Order.{IsOrder, in_order, order_of, place_in}
use Rattle.undo_group.specs.declared.group.Group.{Group}
use Rattle.undo_group.specs.declared.group.GroupFault.{GroupFault}
use Rattle.undo_group.specs.declared.group.GroupFault.TheVariants.{NameTaken, NoSuchDocument, NoMemory}

module _ {C : Type 0} (f : C → Change) where
  -- the document that a name and a stack stand for
  abbrev pub document_of : {Y : Type 0} → String Y × Stack C → OpenDocument
  document_of e = record { name = string_bytes e.0; history = history f e.1 }

  -- the documents that the stacks stand for
  abbrev pub documents_of : {Y : Type 0} → List (String Y × Stack C) → List OpenDocument
  documents_of es = map document_of es

-- the name of the document at a number
abbrev pub name_at : List OpenDocument → Option ℕ → Option (List ℕ)
name_at ds None = None
name_at ds (Some at) = option_map (λ d. d.name) (slice_get ds at)

-- these documents, of which the one at a number is active
abbrev pub group_at : List OpenDocument → Option ℕ → GroupParts
group_at ds number = record { documents = ds; active = name_at ds number }

-- the names of a group with their stacks, in order of opening
abbrev pub entries_of : {C : Type 0} → Group C → List (String Global × Stack C)
entries_of g = in_order g.stacks.entries (order_of g.order)

-- the group that it stands for
abbrev pub group_of : {C : Type 0} → (C → Change) → Group C → GroupParts
group_of f g = group_at (documents_of f (entries_of g)) (place_in g.order g.active)

-- ---- the stacks themselves
-- a stack that is open under a name
pub record NamedStack (C : Type 0) : Type 0 where
  pub name : List ℕ
  pub stack : Stack C

abbrev pub named : {C : Type 0} → List ℕ → Stack C → NamedStack C
named name s = record { name = name; stack = s }

-- the stacks of a group, in order of opening
abbrev pub stacks_of : {C : Type 0} → Group C → List (NamedStack C)
stacks_of g = map (λ e. named (string_bytes e.0) e.1) (entries_of g)

-- the stack of this name
abbrev pub stack_named : {C : Type 0} → List ℕ → List (NamedStack C) → Option (Stack C)
stack_named name [] = None
stack_named name (s ∷ ss) = if bytes_eq name s.name then Some s.stack else stack_named name ss

-- the stack of the active name, where there is one
abbrev pub stack_at : {C : Type 0} → Option (List ℕ) → List (NamedStack C) → Option (Stack C)
stack_at None ss = None
stack_at (Some name) ss = stack_named name ss

-- taking the stack s of this name out of the stacks old leaves new
pub record IsTakenOut {C : Type 0} (name : List ℕ) (old : List (NamedStack C)) (s : Stack C) (new : List (NamedStack C)) : Type 0 where
  pub first : List (NamedStack C)
  pub rest : List (NamedStack C)
  pub was : old ≡ first ++ named name s ∷ rest
  pub left : new ≡ first ++ rest

-- the stack of this name is s in new, and all others are as in old
pub record IsReplaced {C : Type 0} (name : List ℕ) (old : List (NamedStack C)) (s : Stack C) (new : List (NamedStack C)) : Type 0 where
  pub stack : Stack C
  pub first : List (NamedStack C)
  pub rest : List (NamedStack C)
  pub was : old ≡ first ++ named name stack ∷ rest
  pub is : new ≡ first ++ named name s ∷ rest

-- so it is with the stack of the active name, where there is one
abbrev pub IsReplacedAt : {C : Type 0} → Option (List ℕ) → List (NamedStack C) → Stack C → List (NamedStack C) → Type 0
IsReplacedAt None old s new = new ≡ old
IsReplacedAt (Some name) old s new = IsReplaced name old s new

-- the stacks hold, under distinct names, each at its place in the order, and the number of the active one is among them
pub record AreHeld {C : Type 0} (f : C → Change) (g : Group C) : Type 0 where
  pub stacks : All (λ e. Holds f e.1) g.stacks.entries
  pub distinct : IsDistinct string_eq (keys_of g.stacks.entries)
  pub order : IsOrder g.order (length g.stacks.entries)
  pub within : IfSome g.active (λ at. at < length g.stacks.entries)

-- a document is not added where its name is taken, or, with a new name, where memory runs out
abbrev pub IsNotAdded : List ℕ → List OpenDocument → GroupFault → Type 0
IsNotAdded name ds NameTaken = IsSome (history_named name ds)
IsNotAdded name ds NoSuchDocument = ⊥
IsNotAdded name ds NoMemory = IsNew name ds
