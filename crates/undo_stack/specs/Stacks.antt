-- A stack, seen as a history, where f says what its commands do. An open macro is a `Level` in code, which keeps a box, an
-- `Inner` where its entries are seen as lists, and an `Open` in the history, with whole documents.
use Rattle.std.specs.Prelude.{◌≡◌, ℕ, ◌+◌, ◌<◌, ◌≤◌, Bool, List, [], ◌∷◌, Option, None, length, map}
use Rattle.std.specs.VecDeque.{deque_capacity}
use Rattle.map_model.specs.Document.{DocumentParts}
use Rattle.command_api.specs.Law.{Change}
use Rattle.command_api.specs.Names.{untagged, Never}
use Rattle.undo_stack.specs.History.{History}
use Rattle.undo_stack.specs.Calm.{AreLive, IsLive}
use Rattle.undo_stack.specs.Entries.{entry_change, depth}
use Rattle.undo_stack.specs.Held.{IsHeld, entry_nestings, target_in}
use Rattle.undo_stack.specs.Lending.{innermost}
use Rattle.undo_stack.specs.Nestings.{Nestings, Shape, macros_of, nested, nesting}
use Rattle.undo_stack.specs.Reporting.{AreTurned, IsReportedAt}
use Rattle.undo_stack.specs.Sequence.{before, FitsDown}
use Rattle.undo_stack.specs.Sound.{Inner, history_of, level_depth, sequence_depth, start_of}
use Rattle.undo_stack.specs.Told.{IsToldAt}
use Rattle.undo_stack.specs.declared.entry.Entry.{Entry}
use Rattle.undo_stack.specs.declared.level.Level.{Level}
use Rattle.undo_stack.specs.declared.limits.TheConstants.{MAX_DEPTH}
use Rattle.undo_stack.specs.declared.pushed.Pushed.{Pushed}
use Rattle.undo_stack.specs.declared.sequence.Sequence.{Sequence}
use Rattle.undo_stack.specs.declared.stack.Stack.{Stack}

-- what a level of a stack holds
abbrev pub inner_of : {C : Type 0} → Level C → Inner C
inner_of l = record { text = l.contents.value.text; action = l.contents.value.action; sequence = l.sequence.entries.items }

abbrev pub inners : {C : Type 0} → Stack C → List (Inner C)
inners s = map inner_of s.sequences.levels.items

-- the history that a stack holds
abbrev pub history : {C : Type 0} → (C → Change) → Stack C → History
history f s = history_of f s.document s.sequences.steps.entries.items s.sequences.steps.index s.sequences.steps.clean s.sequences.steps.limit (inners s)

-- the nestings of its steps and of those of its open levels
abbrev pub nestings : {C : Type 0} → Stack C → Nestings
nestings s = record { steps = entry_nestings s.sequences.steps; levels = map (λ l. entry_nestings l.sequence) s.sequences.levels.items }

abbrev pub shape : {C : Type 0} → (C → Change) → Stack C → Shape
shape f s = record { history = history f s; nestings = nestings s }

-- of each step whether it is a macro, and last of the open one where there is one
abbrev pub macros : {C : Type 0} → Stack C → List Bool
macros s = macros_of (nestings s)

-- the entry e is what the level l is once it is closed
pub record IsClosed {C : Type 0} (f : C → Change) (l : Inner C) (e : Entry C) : Type 0 where
  pub names : (entry_change f e).names ≡ untagged l.text l.action Never
  pub undone : (d : DocumentParts) → (entry_change f e).undone d ≡ before (entry_change f) l.sequence d
  pub fits : (d : DocumentParts) → FitsDown (entry_change f) l.sequence d → (entry_change f e).fits_undo d
  pub live : IsLive (entry_change f e)
  pub nests : nesting e ≡ nested (map nesting l.sequence)
  pub deep : depth e ≡ sequence_depth l.sequence + 1

-- all entries of a sequence are done, and it has no limit and no clean index, as that of a macro
pub record IsDone {C : Type 0} (q : Sequence C) : Type 0 where
  pub index : q.index ≡ length q.entries.items
  pub clean : q.clean ≡ None
  pub limit : q.limit ≡ 0

-- these levels are held, which led to the document d
abbrev pub AreHeld : {C : Type 0} → (C → Change) → List (Level C) → DocumentParts → Type 0
AreHeld f [] d = Unit {0}
AreHeld f (l ∷ ls) d = IsHeld f (start_of f (map inner_of ls) d) l.sequence × IsDone l.sequence × AreHeld f ls d

-- nothing stands above the index of a sequence, and there is free room at it
pub record IsReady {C : Type 0} (q : Sequence C) : Type 0 where
  pub index : q.index ≡ length q.entries.items
  pub room : q.index < deque_capacity q.entries

-- each of these sequences but the last is ready for what the one in it becomes
abbrev pub AreReady : {C : Type 0} → Sequence C → List (Level C) → Type 0
AreReady q [] = Unit {0}
AreReady q (l ∷ ls) = IsReady q × AreReady l.sequence ls

-- the sequences of a stack are held, each open macro has room in the one around it, and the macros keep their depth
pub record Holds {C : Type 0} (f : C → Change) (s : Stack C) : Type 0 where
  pub own : IsHeld f (start_of f (inners s) s.document) s.sequences.steps
  pub levels : AreHeld f s.sequences.levels.items s.document
  pub ready : AreReady s.sequences.steps s.sequences.levels.items
  pub depth : level_depth (inners s) ≤ MAX_DEPTH

-- none of the entries of these levels is a command that reports itself obsolete
abbrev pub LevelsAreLive : {C : Type 0} → (C → Change) → List (Level C) → Type 0
LevelsAreLive f [] = Unit {0}
LevelsAreLive f (l ∷ ls) = AreLive f l.sequence.entries.items × LevelsAreLive f ls

-- no command that reports itself obsolete stands among the steps or in an open macro. What is in a closed one may be such
pub record IsCalm {C : Type 0} (f : C → Change) (s : Stack C) : Type 0 where
  pub steps : AreLive f s.sequences.steps.entries.items
  pub levels : LevelsAreLive f s.sequences.levels.items

-- the entry that is the target once the entries above the index are gone
abbrev pub target_entry : {C : Type 0} → Stack C → Option (Entry C)
target_entry s = target_in (innermost s.sequences)

-- pushing the command x onto the stack s gave t, and the step is gone exactly where the entry that x ended in is obsolete
abbrev pub IsReported : {C : Type 0} → (C → Change) → C → Stack C → Stack C → Type 0
IsReported f x s t = IsReportedAt f x s.document (target_entry s) (shape f s) t.document (shape f t)

-- so it is, and p tells of that whether the command is merged, and whether its step is gone
abbrev pub IsTold : {C : Type 0} → (C → Change) → C → Pushed → Stack C → Stack C → Type 0
IsTold f x p s t = IsToldAt f x s.document (target_entry s) (shape f s) t.document (shape f t) p

-- turning the entries of the stack s up to the number i gave t, and the step of each is gone exactly where its command is free
-- and reports, after its turn, that it is obsolete; each that stays keeps its nesting
abbrev pub IsTurnReported : {C : Type 0} → (C → Change) → ℕ → Stack C → Stack C → Type 0
IsTurnReported f i s t = AreTurned f s.sequences.steps.entries.items i s.document (shape f s) (shape f t)
