use Rattle.std.proofs.Common.{◌≡◌, ◌+◌, ◌++◌, ◌∷◌, length, ap, ◌∙◌, length-append, arith, rules}
use Rattle.link_tree.specs.Trees.{items}
use Rattle.link_tree.proofs.Waits.{links-more, link-items, link-is, link-left, waiting-deeper}
use Rattle.link_tree.proofs.iter.+go_down.Goals as goal

pub go_down-requires : goal.go_down-requires
go_down-requires g t c κs within =
    let tree = c.args.tree.now in
    let link = c.args.link.now in
    let whole : length (items tree) ≡ length (items link.left ++ link.item ∷ items link.right) =
    ap (λ xs. length xs) (link-items tree link c.requires.same) in
    let sum : length (items link.left ++ link.item ∷ items link.right) ≡ length (items link.left) + (length (items link.right) + 1) =
    simp length-append (omega arith) in (
      omega (arith, whole, sum),
      (
        search rules,
        (
          search rules,
          (
            links-more _ _ _ (search rules) (link-is tree link c.requires.same c.requires.sized) (search rules),
            (link-left tree link c.requires.same c.requires.sized, search rules),
          ),
        ),
      ),
    )

pub returns-then-number-waits-clause-items : goal.returns-then-number-waits-clause-items
returns-then-number-waits-clause-items g t c =
    c.go_down.ensures.items ∙ waiting-deeper c.args.waits.now c.args.depth.now c.args.tree c.args.link.now (search rules) c.requires.same
