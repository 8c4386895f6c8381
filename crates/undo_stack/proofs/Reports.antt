-- The entry that a pushed command ends in, and what it reports.
use Rattle.std.proofs.Common.{◌≡◌, ℕ, ◌-◌, ◌<◌, ◌≤◌, List, [], ◌∷◌, ◌++◌, Option, Some, Bool, true, false, take, length, get_or, refl, ◌∙◌, ap, Ok, Err}
use Rattle.std.specs.Prelude.{Result, IfOk}
use Rattle.map_model.specs.Document.{DocumentParts}
use Rattle.command_api.specs.Law.{Change}
use Rattle.undo_stack.specs.Entries.{entry_change}
use Rattle.undo_stack.specs.Merging.{MergesChange}
use Rattle.undo_stack.specs.Reporting.{last_entry, TakesIn}
use Rattle.undo_stack.specs.declared.entry.Entry.{Entry}
use Rattle.undo_stack.proofs.Joins.{take_below}

pub last_entry-append : {C : Type 0} (es : List (Entry C)) (e : Entry C) → last_entry (es ++ e ∷ []) ≡ Some e
last_entry-append [] e = refl
last_entry-append (x ∷ []) e = refl
last_entry-append (x ∷ y ∷ es) e = last_entry-append (y ∷ es) e

pub both_ok : {A E : Type 0} (P Q R : A → Type 0) (r : Result A E) → ((u : A) → P u → Q u → R u) → IfOk r P → IfOk r Q → IfOk r R
both_ok P Q R (Ok u) h p q = h u p q
both_ok P Q R (Err e) h p q = tt

pub five_ok : {A E : Type 0} (P Q S T U R : A → Type 0) (r : Result A E) → ((u : A) → P u → Q u → S u → T u → U u → R u)
    → IfOk r P → IfOk r Q → IfOk r S → IfOk r T → IfOk r U → IfOk r R
five_ok P Q S T U R (Ok u) h p q s t v = h u p q s t v
five_ok P Q S T U R (Err e) h p q s t v = tt

-- ---- a merge into the last entry of a sequence
pub takes_in : {E C : Type 0} (f : C → Change) (c : C) (d : DocumentParts) (v w : Entry C) (xs ys : Option (Entry C)) (r : Result Bool E) → xs ≡ Some v
    → (r ≡ Ok true → ys ≡ Some w) → MergesChange (entry_change f v) (f c) d r (entry_change f w) → TakesIn f c d xs r ys
takes_in f c d v w xs ys (Ok true) was is m = record { older = v; newer = w; was = was; is = is refl; joined = m.1 }
takes_in f c d v w xs ys (Ok false) was is m = tt
takes_in f c d v w xs ys (Err e) was is m = tt

module _ {C : Type 0} (xs : List (Entry C)) (v : Entry C) (n : ℕ) (some : 0 < n) (is : v ≡ get_or xs (n - 1) v) where
  pub last_entry-below : n ≤ length xs → last_entry (take n xs) ≡ Some v
  last_entry-below within = ap last_entry (take_below xs v n some within is) ∙ last_entry-append (take (n - 1) xs) v
