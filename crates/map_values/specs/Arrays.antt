-- Arrays, whose elements a function writes, and whole numbers.
use Rattle.std.specs.Prelude.{ℕ, List, [], ◌∷◌}
use Rattle.serde_json.specs.Data.{Data, number, array, unsigned, Items, no_items, item}

abbrev pub items_by : {A : Type 0} → (A → Data) → List A → Items
items_by f [] = no_items
items_by f (x ∷ xs) = item (f x) (items_by f xs)

abbrev pub array_by : {A : Type 0} → (A → Data) → List A → Data
array_by f xs = array (items_by f xs)

abbrev pub whole_tree : ℕ → Data
whole_tree n = number (unsigned n)
