-- Entries, open levels, a position among the entries and the current document, as a history.
use Rattle.std.specs.Prelude.{ℕ, ◌+◌, ◌≤◌, max, List, [], ◌∷◌, Option, Some, None, take, drop, length, map}
use Rattle.map_model.specs.Document.{DocumentParts}
use Rattle.command_api.specs.Law.{Change}
use Rattle.undo_stack.specs.History.{Open, History}
use Rattle.undo_stack.specs.Sequence.{before, steps_down, steps_of, FitsDown, FitsUp}
use Rattle.undo_stack.specs.Entries.{entry_change, depth, greatest}
use Rattle.undo_stack.specs.declared.entry.Entry.{Entry}

-- an open level: its two texts, and its entries
pub record Inner (C : Type 0) : Type 0 where
  pub text : List ℕ
  pub action : List ℕ
  pub sequence : List (Entry C)

-- the document where these levels begin, which led to d
abbrev pub start_of : {C : Type 0} → (C → Change) → List (Inner C) → DocumentParts → DocumentParts
start_of f [] d = d
start_of f (l ∷ ls) d = before (entry_change f) l.sequence (start_of f ls d)

-- these levels, which led to d, in a history
abbrev pub opens : {C : Type 0} → (C → Change) → List (Inner C) → DocumentParts → List Open
opens f [] d = []
opens f (l ∷ ls) d = record {
  text = l.text;
  action = l.action;
  start = before (entry_change f) l.sequence (start_of f ls d);
  steps = steps_down (entry_change f) l.sequence (start_of f ls d);
} ∷ opens f ls d

-- the history of these entries and levels, which led to the document d, where n entries are below the levels
abbrev pub history_of : {C : Type 0} → (C → Change) → DocumentParts → List (Entry C) → ℕ → Option ℕ → ℕ → List (Inner C) → History
history_of f d es n clean limit ls = record {
  base = before (entry_change f) (take n es) (start_of f ls d);
  steps = steps_of (entry_change f) es n (start_of f ls d);
  position = n;
  clean = clean;
  limit = limit;
  levels = opens f ls d;
}

abbrev pub IsAtMost : Option ℕ → ℕ → Type 0
IsAtMost None n = Unit {0}
IsAtMost (Some k) n = k ≤ n

-- the positions are among the entries; at the document d the first n entries fit for undo, the others for redo
pub record IsTurnable {C : Type 0} (f : C → Change) (d : DocumentParts) (es : List (Entry C)) (n : ℕ) (clean : Option ℕ) : Type 0 where
  pub within : n ≤ length es
  pub clean_within : IsAtMost clean (length es)
  pub down : FitsDown (entry_change f) (take n es) d
  pub up : FitsUp (entry_change f) (drop n es) d

-- how many macros stand in one another in these entries
abbrev pub sequence_depth : {C : Type 0} → List (Entry C) → ℕ
sequence_depth es = greatest (map depth es)

-- how deep the first of these levels is as an entry, once all are closed
abbrev pub level_depth : {C : Type 0} → List (Inner C) → ℕ
level_depth [] = 0
level_depth (l ∷ ls) = max (sequence_depth l.sequence) (level_depth ls) + 1
