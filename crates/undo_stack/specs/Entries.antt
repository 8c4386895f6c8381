-- What an entry does, and how deep macros stand in one another.
use Rattle.std.specs.Prelude.{ℕ, ◌+◌, max, Bool, List, [], ◌∷◌}
use Rattle.command_api.specs.Law.{Change}
use Rattle.undo_stack.specs.Nestings.{is_nested, nesting}
use Rattle.undo_stack.specs.Sequence.{sequence_change}
use Rattle.undo_stack.specs.declared.entry.Entry.{Entry, rec-Entry, fold-Entry}
use Rattle.undo_stack.specs.declared.entry.Entry.TheOpen.{Entry-F, Command, Macro}

-- one layer of an entry, where f says what a command does, and k what an entry of a macro does
abbrev pub layer_change : {C X : Type 0} → (C → Change) → (X → Change) → Entry-F C X → Change
layer_change f k (Command c) = f c
layer_change f k (Macro contents) = sequence_change contents.value.text contents.value.action k contents.value.children.items

-- an entry does what its command does, where f says what a command does, and a macro what its entries do in turn
abbrev pub entry_change : {C : Type 0} → (C → Change) → Entry C → Change
entry_change f = rec-Entry _ Change (λ X v k e. layer_change f k e)

-- the greatest of some numbers, and 0 where there is none
abbrev pub greatest : List ℕ → ℕ
greatest [] = 0
greatest (n ∷ ns) = max n (greatest ns)

-- one layer of an entry whose entries have these depths
abbrev pub layer_depth : {C : Type 0} → Entry-F C ℕ → ℕ
layer_depth (Command c) = 0
layer_depth (Macro contents) = greatest contents.value.children.items + 1

-- how many macros stand in one another in an entry
abbrev pub depth : {C : Type 0} → Entry C → ℕ
depth {C} = fold-Entry C ℕ layer_depth

-- whether an entry is a macro
abbrev pub is_macro : {C : Type 0} → Entry C → Bool
is_macro e = is_nested (nesting e)
