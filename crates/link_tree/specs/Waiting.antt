-- Links of a tree that wait in a visit, each for its item and the links behind it.
use Rattle.std.specs.Prelude.{◌≡◌, ℕ, zero, suc, ◌<◌, List, [], ◌∷◌, ◌++◌, length, Option, Some, None, slice_get}
use Rattle.std.specs.Borrow.{Bor}
use Rattle.link_tree.specs.declared.tree.Link.{Link}
use Rattle.link_tree.specs.declared.tree.Tree.{Tree}
use Rattle.link_tree.specs.declared.tree.Tree.TheVariants.{Empty, Filled'}
use Rattle.link_tree.specs.Trees.{items, IsSized}

-- a link's item and those behind it
abbrev pub from_link : {T : Type 0} → Tree T → List T
from_link Empty = []
from_link (Filled' p x l r b n) = x ∷ items r

abbrev pub from_link_at : {T : Type 0} → Option (Bor (Tree T)) → List T
from_link_at None = []
from_link_at (Some tree) = from_link tree.now

-- the items for which the first so many links wait, the last one first
abbrev pub waiting : {T : Type 0} → List (Bor (Tree T)) → ℕ → List T
waiting trees zero = []
waiting trees (suc k) = from_link_at (slice_get trees k) ++ waiting trees k

abbrev pub IsLink : {T : Type 0} → Tree T → Type 0
IsLink Empty = ⊥
IsLink (Filled' p x l r b n) = IsSized r

abbrev pub IsLinkAt : {T : Type 0} → Option (Bor (Tree T)) → Type 0
IsLinkAt None = ⊥
IsLinkAt (Some tree) = IsLink tree.now

-- the first so many trees are links, before trees that are sized
abbrev pub AreLinks : {T : Type 0} → List (Bor (Tree T)) → ℕ → Type 0
AreLinks trees zero = Unit {0}
AreLinks trees (suc k) = IsLinkAt (slice_get trees k) × AreLinks trees k

-- a tree is held by this link
abbrev pub HasLink : {T : Type 0} → Tree T → Link T → Type 0
HasLink Empty link = ⊥
HasLink (Filled' p x l r b n) link = (x ≡ link.item) × ((l ≡ link.left) × (r ≡ link.right))

-- a tree has items to look up
abbrev pub IsDeep : {T : Type 0} → Tree T → Type 0
IsDeep tree = IsSized tree × (0 < length (items tree))

-- where a link is next, no items are too deep; where none is, no link waits unless some items are
abbrev pub IsNext : {T : Type 0} → Tree T → ℕ → ℕ → Type 0
IsNext Empty left depth = left ≡ 0 → depth ≡ 0
IsNext (Filled' p x l r b n) left depth = (left ≡ 0) × IsSized r
