-- Changed cells that all have one value before and one after, and cells that stand side by side.
use Rattle.std.specs.Prelude.{◌≡◌, ℕ, suc, List, [], ◌∷◌}
use Rattle.std.specs.List.{fold}
use Rattle.map_model.specs.declared.edit.CellEdit.{CellEdit}
use Rattle.map_model.specs.Lists.{Each}
use Rattle.map_model.specs.CellEdits.{cell_number, with_value}

-- the values of a cell, before and after, are those of another one
abbrev pub HasValuesOf : CellEdit → CellEdit → Type 0
HasValuesOf e f = (f.before ≡ e.before) × (f.after ≡ e.after)

-- the cells of the list all have the values of the first one
abbrev pub AreAlike : List CellEdit → Type 0
AreAlike [] = Unit {0}
AreAlike (e ∷ es) = Each (HasValuesOf e) es

-- the values of a layer of this width with the cells of a list set to one value
abbrev pub fill_values : ℕ → ℕ → List CellEdit → List ℕ → List ℕ
fill_values width value es values = fold (λ vs e. with_value (cell_number width e) value vs) values es

-- the first of the cells stands in the row of another one, in the next column
abbrev pub IsBeside : CellEdit → List CellEdit → Type 0
IsBeside e [] = Unit {0}
IsBeside e (f ∷ fs) = (f.y ≡ e.y) × (f.x ≡ suc e.x)

-- the cells stand side by side in a row
abbrev pub AreSideBySide : List CellEdit → Type 0
AreSideBySide [] = Unit {0}
AreSideBySide (e ∷ es) = IsBeside e es × AreSideBySide es
