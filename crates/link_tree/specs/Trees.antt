-- The items of a tree of links, in order.
use Rattle.std.specs.Prelude.{◌≡◌, ℕ, ◌+◌, List, [], ◌∷◌, ◌++◌, length}
use Rattle.link_tree.specs.declared.tree.Link.{Link}
use Rattle.link_tree.specs.declared.tree.Tree.{Tree}
use Rattle.link_tree.specs.declared.tree.Tree.TheVariants.{Empty, Filled'}

abbrev pub items : {T : Type 0} → Tree T → List T
items Empty = []
items (Filled' p x l r b n) = items l ++ x ∷ items r

abbrev pub IsSized : {T : Type 0} → Tree T → Type 0
IsSized Empty = Unit {0}
IsSized (Filled' p x l r b n) = (b ≡ length (items l)) × ((n ≡ length (items l) + length (items r) + 1) × (IsSized l × IsSized r))

-- how many items stand before the top
abbrev pub before_top : {T : Type 0} → Tree T → ℕ
before_top Empty = 0
before_top (Filled' p x l r b n) = length (items l)

-- a link with no others
abbrev pub IsAlone : {T : Type 0} → Link T → Type 0
IsAlone k = (k.left ≡ Empty) × ((k.right ≡ Empty) × ((k.before ≡ 0) × (k.size ≡ 1)))
