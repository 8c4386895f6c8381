-- Sequences of which entries were turned in place, until the index is another one.
use Rattle.std.proofs.Common.{◌≡◌, ℕ, ◌≤◌, List, length, map, sym, ◌∙◌, ap, subst, arith}
use Rattle.map_model.specs.Document.{DocumentParts}
use Rattle.command_api.specs.Law.{Change}
use Rattle.undo_stack.specs.Moving.{positioned}
use Rattle.undo_stack.specs.Entries.{entry_change, depth, greatest}
use Rattle.undo_stack.specs.Held.{Becomes, history_at, entry_nestings, IsSoundAt}
use Rattle.undo_stack.specs.Nestings.{nesting}
use Rattle.undo_stack.specs.Sequence.{IsMoved, is_stale}
use Rattle.undo_stack.specs.declared.entry.Entry.{Entry}
use Rattle.undo_stack.specs.declared.sequence.Sequence.{Sequence}
use Rattle.undo_stack.proofs.Held.{seen, sound}
use Rattle.undo_stack.proofs.Views.{moved_view, moved_sound}

-- p is q, which stood at d, turned to the number j, at e
pub record IsTurned {C : Type 0} (f : C → Change) (d : DocumentParts) (q : Sequence C) (j : ℕ) (e : DocumentParts) (p : Sequence C) : Type 0 where
  pub sound : IsSoundAt f e p
  pub has_free : p.has_free ≡ q.has_free
  pub stale : map (λ x. is_stale (entry_change f x)) p.entries.items ≡ map (λ x. is_stale (entry_change f x)) q.entries.items
  pub nests : entry_nestings p ≡ entry_nestings q
  pub history : history_at f e p ≡ positioned j (history_at f d q)

module _ {C : Type 0} (f : C → Change) (d e : DocumentParts) (q p : Sequence C) (ys : List (Entry C)) (j : ℕ) where
  -- the turns were of its own entries
  turned_here : Becomes q ys j q.clean p → IsMoved (entry_change f) q.entries.items q.index d ys j e → map depth ys ≡ map depth q.entries.items
      → map nesting ys ≡ map nesting q.entries.items → j ≤ length q.entries.items → IsSoundAt f d q → IsTurned f d q j e p
  turned_here b m deep nests within h =
      let same = m.same_length in
      let flat = ap greatest deep in
      let turnable = moved_sound f d e q ys j h.turnable within m in
      record {
        sound = sound f q p ys j q.clean b d e turnable (omega (arith, same)) (omega (arith, flat)) h;
        has_free = b.has_free;
        stale = rw b.entries m.stale;
        nests = rw b.entries nests;
        history = seen f q p ys j q.clean b e ∙ moved_view f d e q ys j m;
      }

  -- so it is where they were of the slice xs, and led to the document that e is
  pub turned : (xs : List (Entry C)) (at : DocumentParts) → xs ≡ q.entries.items → e ≡ at → Becomes q ys j q.clean p
      → IsMoved (entry_change f) xs q.index d ys j at → map depth ys ≡ map depth xs → map nesting ys ≡ map nesting xs
      → j ≤ length q.entries.items → IsSoundAt f d q → IsTurned f d q j e p
  turned xs at same here b m deep nests within h =
      let to_e : IsMoved (entry_change f) xs q.index d ys j e = subst (λ (x : DocumentParts). IsMoved (entry_change f) xs q.index d ys j x) (sym here) m in
      turned_here b (rw same at to_e) (rw same at deep) (rw same at nests) within h
