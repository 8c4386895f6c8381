-- Items that pass a test, as a closure that may be called again and again answers for them.
use Rattle.std.specs.Prelude.{◌≡◌, ◌≤◌, ◌+◌, ◌-◌, ℕ, Bool, true, false, List, [], ◌∷◌, ◌++◌, ◌⊎◌, length, Some, slice_get, take}
use Rattle.std.specs.List.{AllByRecursion}
use Rattle.std.specs.Borrow.{Bor}
use Rattle.std.specs.Fn.{Shared, FnReturnsAt}
use Rattle.link_tree.specs.declared.tree.Link.{Link}
use Rattle.link_tree.specs.Trees.{items, IsSized}

-- a call of the test f may answer so at x
abbrev pub Answers : {F T : Type 0} → Shared F (Bor T × Unit {0}) Bool → F → Bool → T → Type 0
Answers g f answer x = FnReturnsAt g f x answer

-- some item passes
abbrev pub SomePasses : {F T : Type 0} → Shared F (Bor T × Unit {0}) Bool → F → List T → Type 0
SomePasses g f [] = ⊥
SomePasses g f (x ∷ xs) = Answers g f true x ⊎ SomePasses g f xs

-- no item passes
abbrev pub NonePasses : {F T : Type 0} → Shared F (Bor T × Unit {0}) Bool → F → List T → Type 0
NonePasses g f xs = AllByRecursion (Answers g f false) xs

-- the item at a place passes, and none before it
pub record IsFirst {F T : Type 0} (g : Shared F (Bor T × Unit {0}) Bool) (f : F) (xs : List T) (at : ℕ) : Type 0 where
  pub item : T
  pub found : slice_get xs at ≡ Some item
  pub passes : Answers g f true item
  pub before : NonePasses g f (take at xs)

-- behind so many others, an item passes and so many stand before the first one, or none passes and so many are all of them
abbrev pub CountsToFirst : {F T : Type 0} → Shared F (Bor T × Unit {0}) Bool → F → List T → ℕ → Bool → ℕ → Type 0
CountsToFirst g f xs passed true at = (passed ≤ at) × IsFirst g f xs (at - passed)
CountsToFirst g f xs passed false at = NonePasses g f xs × (at ≡ passed + length xs)

-- the items of a link: those before it, its own, and those behind it
abbrev pub link_items : {T : Type 0} → Link T → List T
link_items k = items k.left ++ k.item ∷ items k.right

abbrev pub IsSizedLink : {T : Type 0} → Link T → Type 0
IsSizedLink k = (k.before ≡ length (items k.left)) × ((k.size ≡ length (items k.left) + length (items k.right) + 1) × (IsSized k.left × IsSized k.right))
