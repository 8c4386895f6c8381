-- A tree with no items, and one with a single item.
use Rattle.std.proofs.Common.{◌≡◌, ◌+◌, ◌++◌, ◌∷◌, length, refl, length-append, arith}
use Rattle.link_tree.specs.declared.tree.Link.{Link}
use Rattle.link_tree.specs.declared.tree.Tree.{Tree}
use Rattle.link_tree.specs.declared.tree.Tree.TheVariants.{Empty, Filled'}
use Rattle.link_tree.specs.Trees.{items, IsAlone}

module _ {T : Type 0} where
  pub is_empty : (t : Tree T) → length (items t) ≡ 0 → t ≡ Empty
  is_empty Empty none = refl
  is_empty (Filled' p x l r b n) none =
      let some : length (items l ++ x ∷ items r) ≡ length (items l) + (length (items r) + 1) = simp length-append (omega arith) in
      absurd (omega (arith, none, some))

  pub is_alone : (k : Link T) → length (items k.left ++ k.item ∷ items k.right) ≡ 1 → k.before ≡ length (items k.left)
      → k.size ≡ length (items k.left) + length (items k.right) + 1 → IsAlone k
  is_alone k one before size =
      let whole : length (items k.left ++ k.item ∷ items k.right) ≡ length (items k.left) + (length (items k.right) + 1) = simp length-append (omega arith) in
      let left = is_empty k.left (omega (arith, one, whole)) in
      let right = is_empty k.right (omega (arith, one, whole)) in (left, (right, (omega (arith, one, whole, before), omega (arith, one, whole, size))))
