-- A sequence of entries with an index, as code keeps it, seen as a history at a document. The stack has one of its own, and each
-- open macro has one, of which all entries are done.
use Rattle.std.specs.Prelude.{◌≡◌, ℕ, ◌+◌, ◌-◌, ◌<◌, ◌≤◌, List, [], Option, Bool, true, false, Result, Ok, Err, take, drop, set, get_or, length, map}
use Rattle.std.specs.List.{remove}
use Rattle.map_model.specs.Document.{DocumentParts}
use Rattle.command_api.specs.Law.{Change, IsRedone, IsUndone}
use Rattle.command_api.specs.Names.{is_free}
use Rattle.undo_stack.specs.History.{History, step_named}
use Rattle.undo_stack.specs.Pushing.{cut, up_to, without_last, Merges, with_target_at}
use Rattle.undo_stack.specs.Calm.{AreLive, IsLive, NoneFree, is_gone}
use Rattle.undo_stack.specs.Entries.{entry_change}
use Rattle.undo_stack.specs.Merging.{HasTarget, SettlesTarget}
use Rattle.undo_stack.specs.Nestings.{Nesting, Nestings, Shape, nesting}
use Rattle.undo_stack.specs.Reporting.{IsRedoneIn, IsUndoneIn, last_entry, left_by, reports}
use Rattle.undo_stack.specs.Sound.{history_of, IsTurnable, sequence_depth}
use Rattle.undo_stack.specs.Turning.{Drops}
use Rattle.undo_stack.specs.declared.entry.Entry.{Entry}
use Rattle.undo_stack.specs.declared.limits.TheConstants.{MAX_DEPTH, MAX_LIMIT}
use Rattle.undo_stack.specs.declared.sequence.Sequence.{Sequence}

-- p is q with these entries, and this index and clean index
pub record Becomes {C : Type 0} (q : Sequence C) (es : List (Entry C)) (n : ℕ) (mark : Option ℕ) (p : Sequence C) : Type 0 where
  pub entries : p.entries.items ≡ es
  pub index : p.index ≡ n
  pub clean : p.clean ≡ mark
  pub limit : p.limit ≡ q.limit
  pub has_free : p.has_free ≡ q.has_free

-- p is q without the entries above the index
abbrev pub IsCut : {C : Type 0} → Sequence C → Sequence C → Type 0
IsCut q p = Becomes q (take q.index q.entries.items) q.index (up_to q.index q.clean) p

-- the history that a sequence holds at the document d
abbrev pub history_at : {C : Type 0} → (C → Change) → DocumentParts → Sequence C → History
history_at f d q = history_of f d q.entries.items q.index q.clean q.limit []

-- the nestings of its entries, and these as the nestings of a history with no open level
abbrev pub entry_nestings : {C : Type 0} → Sequence C → List Nesting
entry_nestings q = map nesting q.entries.items

abbrev pub nestings_at : {C : Type 0} → Sequence C → Nestings
nestings_at q = record { steps = map nesting q.entries.items; levels = [] }

abbrev pub shape_at : {C : Type 0} → (C → Change) → DocumentParts → Sequence C → Shape
shape_at f d q = record { history = history_at f d q; nestings = nestings_at q }

-- the entry that is the target once the entries above the index are gone
abbrev pub target_in : {C : Type 0} → Sequence C → Option (Entry C)
target_in q = last_entry (take q.index q.entries.items)

-- the commands of a sequence fit the document d, each at its turn, and it keeps its limits
pub record IsSoundAt {C : Type 0} (f : C → Change) (d : DocumentParts) (q : Sequence C) : Type 0 where
  pub turnable : IsTurnable f d q.entries.items q.index q.clean
  pub limit : q.limit ≤ MAX_LIMIT
  pub count : 0 < q.limit → length q.entries.items ≤ q.limit
  pub depth : sequence_depth q.entries.items ≤ MAX_DEPTH

-- the sequence is sound at d, none of the entries es is obsolete, and where has_free is false, it has no free command
pub record IsHeldBut {C : Type 0} (f : C → Change) (d : DocumentParts) (es : List (Entry C)) (q : Sequence C) : Type 0 where
  pub sound : IsSoundAt f d q
  pub live : AreLive f es
  pub none_free : q.has_free ≡ false → NoneFree f q.entries.items

-- and none of its commands is obsolete
abbrev pub IsHeld : {C : Type 0} → (C → Change) → DocumentParts → Sequence C → Type 0
IsHeld f d q = IsHeldBut f d q.entries.items q

-- the sequence is held, but its target just took a command in and is not looked at
abbrev pub IsHeldToLast : {C : Type 0} → (C → Change) → DocumentParts → Sequence C → Type 0
IsHeldToLast f d q = IsHeldBut f d (without_last q.entries.items) q

-- at the document b, q and p hold the same history
pub record IsUnchangedAt {C : Type 0} (f : C → Change) (b : DocumentParts) (q p : Sequence C) : Type 0 where
  pub held : IsHeld f b p
  pub same : history_at f b p ≡ history_at f b q
  pub depth : sequence_depth p.entries.items ≤ sequence_depth q.entries.items

-- the target of q took the command c in, which led to d, and the entries above it went
pub record IsTakenInto {C : Type 0} (f : C → Change) (c : C) (d : DocumentParts) (q p : Sequence C) : Type 0 where
  pub merges : Merges (cut (history_at f ((f c).undone d) q)) (step_named (f c).names d)
  pub held : IsHeldToLast f d p
  pub target : HasTarget [] (history_at f d p)
  pub next : history_at f d p ≡ with_target_at d [] (cut (history_at f ((f c).undone d) q))
  pub depth : sequence_depth p.entries.items ≤ sequence_depth q.entries.items

-- merging the command c, which led to d, made p of the sequence q
abbrev pub MergesInto : {E C : Type 0} → (C → Change) → C → DocumentParts → Sequence C → Result Bool E → Sequence C → Type 0
MergesInto f c d q (Ok true) p = IsTakenInto f c d q p
MergesInto f c d q (Ok false) p = (Merges (cut (history_at f ((f c).undone d) q)) (step_named (f c).names d) → ⊥) × IsUnchangedAt f ((f c).undone d) q p
MergesInto f c d q (Err e) p = IsUnchangedAt f ((f c).undone d) q p

-- a merge keeps the nestings of q in p, of which the entries above the index go where it is done
abbrev pub MergesNestings : {E C : Type 0} → Sequence C → Result Bool E → Sequence C → Type 0
MergesNestings q (Ok true) p = entry_nestings p ≡ take q.index (entry_nestings q)
MergesNestings q (Ok false) p = entry_nestings p ≡ entry_nestings q
MergesNestings q (Err e) p = entry_nestings p ≡ entry_nestings q

-- p is the sequence q, which led to d, without its target where that is obsolete
pub record IsSettledAt {C : Type 0} (f : C → Change) (d : DocumentParts) (q p : Sequence C) : Type 0 where
  pub held : IsHeld f d p
  pub settled : SettlesTarget d (reports f (target_in q)) (history_at f d q) (history_at f d p)
  pub depth : sequence_depth p.entries.items ≤ sequence_depth q.entries.items

-- the sequence is held, but the entry at a number was just turned, and is looked at only where it is not free
pub record IsHeldButAt {C : Type 0} (f : C → Change) (d : DocumentParts) (at : ℕ) (q : Sequence C) : Type 0 where
  pub sound : IsSoundAt f d q
  pub live : AreLive f (remove q.entries.items at)
  pub none_free : q.has_free ≡ false → NoneFree f q.entries.items
  pub stays : (e : Entry C) → e ≡ get_or q.entries.items at e → is_free (entry_change f e).names.vanishing ≡ false → IsLive (entry_change f e)

-- p is the sequence q, which led to d, perhaps without the entry at a number
pub record IsDroppedAt {C : Type 0} (f : C → Change) (d : DocumentParts) (at : ℕ) (q p : Sequence C) : Type 0 where
  pub held : IsHeld f d p
  pub dropped : Drops at (history_at f d q) (history_at f d q) (history_at f d p)
  pub entry : Entry C
  pub was : entry ≡ get_or q.entries.items at entry
  pub left : shape_at f d p ≡ left_by (is_gone (entry_change f entry)) at (shape_at f d q) (shape_at f d q)
  pub below : take at p.entries.items ≡ take at q.entries.items
  pub above : q.index ≡ at + 1 → drop p.index p.entries.items ≡ drop (at + 1) q.entries.items

-- the entry at a number, which was v, is w in p, with the same nesting, and all others are as in q
pub record IsSetAt {C : Type 0} (at : ℕ) (v w : Entry C) (q p : Sequence C) : Type 0 where
  pub was : v ≡ get_or q.entries.items at v
  pub nests : nesting w ≡ nesting v
  pub entries : p.entries.items ≡ set q.entries.items at w

-- undoing the entry below the index, which led to d, made p of the sequence q, and e of the document
pub record UndoesLast {C : Type 0} (f : C → Change) (d : DocumentParts) (q : Sequence C) (e : DocumentParts) (p : Sequence C) : Type 0 where
  pub before : Entry C
  pub after : Entry C
  pub put : IsSetAt (q.index - 1) before after q p
  pub undone : IsUndone (entry_change f before) (entry_change f after) d e

-- redoing the entry above the index, at d, made p of the sequence q, and e of the document
pub record RedoesNext {C : Type 0} (f : C → Change) (d : DocumentParts) (q : Sequence C) (e : DocumentParts) (p : Sequence C) : Type 0 where
  pub before : Entry C
  pub after : Entry C
  pub put : IsSetAt q.index before after q p
  pub redone : IsRedone (entry_change f before) (entry_change f after) d e

-- undoing the entry below the index, which led to d, made p of the sequence q, and e of the document. Its step goes as its
-- command reports
pub record StepsDown {C : Type 0} (f : C → Change) (d : DocumentParts) (q : Sequence C) (e : DocumentParts) (p : Sequence C) : Type 0 where
  pub entry : Entry C
  pub was : entry ≡ get_or q.entries.items (q.index - 1) entry
  pub document : e ≡ (entry_change f entry).undone d
  pub undone : IsUndoneIn f entry d (shape_at f d q) (shape_at f e p)
  pub index : p.index ≡ q.index - 1
  pub rest : take (q.index - 1) p.entries.items ≡ take (q.index - 1) q.entries.items

-- redoing the entry above the index, at d, made p of the sequence q, and e of the document. Its step goes as its command
-- reports
pub record StepsUp {C : Type 0} (f : C → Change) (d : DocumentParts) (q : Sequence C) (e : DocumentParts) (p : Sequence C) : Type 0 where
  pub entry : Entry C
  pub was : entry ≡ get_or q.entries.items q.index entry
  pub document : e ≡ (entry_change f entry).redone d
  pub redone : IsRedoneIn f entry d (shape_at f d q) (shape_at f e p)
  pub rest : drop p.index p.entries.items ≡ drop (q.index + 1) q.entries.items
