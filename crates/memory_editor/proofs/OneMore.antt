-- What is told of entries one after another.
use Rattle.std.proofs.Common.{◌≡◌, ℕ, zero, suc, ◌≤◌, List, [], ◌∷◌, ◌++◌, length, take, refl, sym, ap, subst, arith}
use Rattle.map_model.specs.Document.{DocumentParts}
use Rattle.command_api.specs.Law.{Change}
use Rattle.undo_stack.specs.declared.entry.Entry.TheVariants.{Macro}
use Rattle.undo_stack.specs.Entries.{entry_change}
use Rattle.undo_stack.specs.Sequence.{FitsUp, after, sequence_change}
use Rattle.undo_stack.proofs.EntryChanges.{Contents, entry_change-Macro}
use Rattle.undo_stack.proofs.Sequences.{FitsDown-pop, before-append}
use Rattle.document_lines.specs.declared.differences.Differences.{Differences}
use Rattle.document_lines.specs.Differing.{Covers, DifferWithin, all_differs}
use Rattle.memory_editor.specs.OneMore.{TellsOneMore}

-- the two documents may change places
pub turned-within : (told : Differences) (d e : DocumentParts) → DifferWithin told d e → DifferWithin told e d
turned-within told d e h = record {
  outline = λ not. sym (h.outline not);
  selection = λ not. sym (h.selection not);
  layers = λ not. let own = h.layers not in record { width = sym own.width; height = sym own.height; ids = sym own.ids };
  cells = λ id x y not. sym (h.cells id x y not);
}

-- an edit more
pub edit-more : (was own told : Differences) (c : Change) → ((d e f : DocumentParts) → DifferWithin was d e → DifferWithin own e f → DifferWithin told d f)
    → Covers own c → TellsOneMore was told c
edit-more was own told c join covers = record {
  redo = λ d e h fits. join d e (c.redone e) h (covers.redo e fits);
  undo = λ d e fits h. join d (c.undone e) e h (turned-within own e (c.undone e) (covers.undo e fits));
}

-- where all is told, nothing is said
pub all-within : (d e : DocumentParts) → DifferWithin all_differs d e
all-within d e = record {
  outline = λ not. cc;
  selection = λ not. cc;
  layers = λ not. absurd (not refl);
  cells = λ id x y not. absurd (not tt);
}

pub all-more : (was : Differences) (c : Change) → TellsOneMore was all_differs c
all-more was c = record { redo = λ d e h fits. all-within d (c.redone e); undo = λ d e fits h. all-within d e }

-- ---- the entries of a macro
after-append : {B : Type 0} (f : B → Change) (xs : List B) (x : B) (d : DocumentParts) → after f (xs ++ x ∷ []) d ≡ (f x).redone (after f xs d)
after-append f [] x d = refl
after-append f (y ∷ xs) x d = after-append f xs x ((f y).redone d)

FitsUp-pop : {B : Type 0} (f : B → Change) (xs : List B) (x : B) (d : DocumentParts) → FitsUp f (xs ++ x ∷ []) d
    → FitsUp f xs d × (f x).fits_redo (after f xs d)
FitsUp-pop f [] x d h = (tt, h.0)
FitsUp-pop f (y ∷ xs) x d h = let rest = FitsUp-pop f xs x ((f y).redone d) h.1 in ((h.0, rest.0), rest.1)

-- none of them
pub none-more : {B : Type 0} (f : B → Change) (was : Differences) → TellsOneMore was was (sequence_change [] [] f [])
none-more f was = record { redo = λ d e h fits. h; undo = λ d e fits h. h }

-- one more
pub entry-more : {B : Type 0} (f : B → Change) (xs : List B) (x : B) (was between told : Differences) → TellsOneMore was between (sequence_change [] [] f xs)
    → TellsOneMore between told (f x) → TellsOneMore was told (sequence_change [] [] f (xs ++ x ∷ []))
entry-more f xs x was between told some one = record {
  redo = λ d e h fits.
      let parts = FitsUp-pop f xs x e fits in
      subst (DifferWithin told d) (sym (after-append f xs x e)) (one.redo d (after f xs e) (some.redo d e h parts.0) parts.1);
  undo = λ d e fits h.
      let parts = FitsDown-pop f xs x e fits in
      one.undo d e parts.1 (some.undo d ((f x).undone e) parts.0 (subst (DifferWithin was d) (before-append f xs x e) h));
}

-- a macro does what its entries do in turn
pub macro-more : {C : Type 0} (f : C → Change) (contents : Contents C) (was told : Differences)
    → TellsOneMore was told (sequence_change [] [] (entry_change f) contents.value.children.items) → TellsOneMore was told (entry_change f (Macro contents))
macro-more f contents was told h = rw (entry_change-Macro f contents) (record { redo = h.redo; undo = h.undo })

pub take-whole : {B : Type 0} (xs : List B) (n : ℕ) → length xs ≤ n → take n xs ≡ xs
take-whole [] zero l = refl
take-whole [] (suc n) l = refl
take-whole (x ∷ xs) zero l = absurd (omega arith)
take-whole (x ∷ xs) (suc n) l = ap (λ ys. x ∷ ys) (take-whole xs n (omega arith))
