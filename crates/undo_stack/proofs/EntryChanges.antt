-- What an entry does, how deep it is, and its nesting, by its two forms.
use Rattle.std.proofs.Common.{◌≡◌, ℕ, ◌+◌, List, [], ◌∷◌, map, Box, Global, refl, ap, sym, ◌∙◌}
use Rattle.map_model.specs.Document.{DocumentParts}
use Rattle.command_api.specs.Law.{Change}
use Rattle.undo_stack.specs.Sequence.{sequence_change, before, after, FitsDown, FitsUp}
use Rattle.undo_stack.specs.Entries.{entry_change, layer_change, greatest, depth, layer_depth}
use Rattle.undo_stack.specs.Nestings.{Nesting, Single, layer_nesting, nested, nesting}
use Rattle.undo_stack.specs.declared.entry.MacroContents.{MacroContents}
use Rattle.undo_stack.specs.declared.entry.Entry.{Entry, rec-roll-Entry, fold-roll-Entry, roll-Entry}
use Rattle.undo_stack.specs.declared.entry.Entry.TheOpen as open_form
use Rattle.undo_stack.specs.declared.entry.Entry.TheOpen.{Entry-F}
use Rattle.undo_stack.specs.declared.entry.Entry.TheVariants.{Command, Macro, rolls-Macro, rolls-Command}
use Rattle.undo_stack.specs.declared.entry.Entry.TheFolds.{map-Entry}

-- the box that a macro holds
abbrev pub Contents : Type 0 → Type 0
Contents C = Box (MacroContents (Entry C)) Global

before_map : {X Y : Type 0} (k : Y → Change) (v : X → Y) (xs : List X) → before (λ x. k (v x)) xs ≡ before k (map v xs)
before_map k v [] = refl
before_map k v (x ∷ xs) =
    let step : (DocumentParts → DocumentParts) → DocumentParts → DocumentParts = λ g d. (k (v x)).undone (g d) in
    ap step (before_map k v xs)

after_map : {X Y : Type 0} (k : Y → Change) (v : X → Y) (xs : List X) → after (λ x. k (v x)) xs ≡ after k (map v xs)
after_map k v [] = refl
after_map k v (x ∷ xs) =
    let step : (DocumentParts → DocumentParts) → DocumentParts → DocumentParts = λ g d. g ((k (v x)).redone d) in
    ap step (after_map k v xs)

FitsUp_map : {X Y : Type 0} (k : Y → Change) (v : X → Y) (xs : List X) → FitsUp (λ x. k (v x)) xs ≡ FitsUp k (map v xs)
FitsUp_map k v [] = refl
FitsUp_map k v (x ∷ xs) =
    let step : (DocumentParts → Type 0) → DocumentParts → Type 0 = λ g d. (k (v x)).fits_redo d × g ((k (v x)).redone d) in
    ap step (FitsUp_map k v xs)

FitsDown_map : {X Y : Type 0} (k : Y → Change) (v : X → Y) (xs : List X) → FitsDown (λ x. k (v x)) xs ≡ FitsDown k (map v xs)
FitsDown_map k v [] = refl
FitsDown_map k v (x ∷ xs) =
    let step : (DocumentParts → Type 0) → DocumentParts → Type 0 = λ g d. (k (v x)).fits_undo (before (λ y. k (v y)) xs d) × g d in
    let other : (DocumentParts → DocumentParts) → DocumentParts → Type 0 = λ b d. (k (v x)).fits_undo (b d) × FitsDown k (map v xs) d in
    ap step (FitsDown_map k v xs) ∙ ap other (before_map k v xs)

sequence_change_map : {X Y : Type 0} (t a : List ℕ) (k : Y → Change) (v : X → Y) (xs : List X)
    → sequence_change t a (λ x. k (v x)) xs ≡ sequence_change t a k (map v xs)
sequence_change_map t a k v xs = rw (before_map k v xs, after_map k v xs, FitsUp_map k v xs, FitsDown_map k v xs) refl

layer_change-natural : {C : Type 0} (f : C → Change) (X : Type 0) (v : X → Entry C) (k : Entry C → Change) (x : Entry-F C X)
    → layer_change f (λ p. k (v p)) x ≡ layer_change f k (map-Entry C X (Entry C) v x)
layer_change-natural f X v k (open_form.Command c) = refl
layer_change-natural f X v k (open_form.Macro contents) = sequence_change_map contents.value.text contents.value.action k v contents.value.children.items

entry_change-roll : {C : Type 0} (f : C → Change) (x : Entry-F C (Entry C)) → entry_change f (roll-Entry C x) ≡ layer_change f (entry_change f) x
entry_change-roll f x = rec-roll-Entry _ Change (λ X v k e. layer_change f k e) (layer_change-natural f) x

pub entry_change-Command : {C : Type 0} (f : C → Change) (c : C) → entry_change f (Command c) ≡ f c
entry_change-Command f c = ap (entry_change f) (sym (rolls-Command c)) ∙ entry_change-roll f (open_form.Command c)

pub entry_change-Macro : {C : Type 0} (f : C → Change) (contents : Contents C)
    → entry_change f (Macro contents) ≡ sequence_change contents.value.text contents.value.action (entry_change f) contents.value.children.items
entry_change-Macro f contents = ap (entry_change f) (sym (rolls-Macro contents)) ∙ entry_change-roll f (open_form.Macro contents)

depth-roll : {C : Type 0} (x : Entry-F C (Entry C)) → depth (roll-Entry C x) ≡ layer_depth (map-Entry C (Entry C) ℕ depth x)
depth-roll {C} x = fold-roll-Entry C ℕ layer_depth x

pub depth-Command : {C : Type 0} (c : C) → depth (Command c) ≡ 0
depth-Command c = ap depth (sym (rolls-Command c)) ∙ depth-roll (open_form.Command c)

pub depth-Macro : {C : Type 0} (contents : Contents C) → depth (Macro contents) ≡ greatest (map depth contents.value.children.items) + 1
depth-Macro contents = ap depth (sym (rolls-Macro contents)) ∙ depth-roll (open_form.Macro contents)

nesting-roll : {C : Type 0} (x : Entry-F C (Entry C)) → nesting (roll-Entry C x) ≡ layer_nesting (map-Entry C (Entry C) Nesting nesting x)
nesting-roll {C} x = fold-roll-Entry C Nesting layer_nesting x

pub nesting-Command : {C : Type 0} (c : C) → nesting (Command c) ≡ Single
nesting-Command c = ap nesting (sym (rolls-Command c)) ∙ nesting-roll (open_form.Command c)

pub nesting-Macro : {C : Type 0} (contents : Contents C) → nesting (Macro contents) ≡ nested (map nesting contents.value.children.items)
nesting-Macro contents = ap nesting (sym (rolls-Macro contents)) ∙ nesting-roll (open_form.Macro contents)
