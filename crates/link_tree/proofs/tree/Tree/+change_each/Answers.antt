use Rattle.std.proofs.Common.{◌≡◌, ◌<◌, ◌++◌, ◌∷◌, length, rules, arith}
use Rattle.std.proofs.lemmas.Grind.{common_steps}
use Rattle.std.proofs.lemmas.Slice.Zip.{AllZip-long}
use Rattle.link_tree.specs.Changing.{Leaves, Takes}
use Rattle.link_tree.specs.Trees.{items}
use Rattle.link_tree.proofs.Changes.{all-before, all-at, all-behind, zip-around}
use Rattle.link_tree.proofs.tree.Tree.+change_each.Goals as goal

pub change_each-requires : goal.change_each-requires
change_each-requires g t c κs within =
    let k = c.deref_mut-link.result.now in
    let is : items c.args.self.now ≡ items k.left ++ k.item ∷ items k.right = grind (arith, common_steps) in
    let each = all-before (Takes g.F.Fn c.args.change.now) _ (items k.left) (items k.right) k.item is c.requires.callable in
    let fewer : length (items k.left) < length (items c.args.self.now) = grind (arith, common_steps) in
    (omega (arith, fewer), (search rules, (search rules, (search rules, each))))

pub changed_by-requires : goal.changed_by-requires
changed_by-requires g t c =
    let k = c.deref_mut-link.result.now in
    let is : items c.args.self.now ≡ items k.left ++ k.item ∷ items k.right = grind (arith, common_steps) in
    all-at (Takes g.F.Fn c.args.change.now) _ (items k.left) (items k.right) k.item is c.requires.callable

pub change_each-requires-in-Filled : goal.change_each-requires-in-Filled
change_each-requires-in-Filled g t c κs within =
    let k = c.deref_mut-link.result.now in
    let is : items c.args.self.now ≡ items k.left ++ k.item ∷ items k.right = grind (arith, common_steps) in
    let each = all-behind (Takes g.F.Fn c.args.change.now) _ (items k.left) (items k.right) k.item is c.requires.callable in
    let fewer : length (items k.right) < length (items c.args.self.now) = grind (arith, common_steps) in
    (omega (arith, fewer), (search rules, (search rules, (search rules, each))))

pub returns-in-Filled-clause-sized : goal.returns-in-Filled-clause-sized
returns-in-Filled-clause-sized g t c = grind (arith, common_steps, AllZip-long)

pub returns-in-Filled-clause-changed : goal.returns-in-Filled-clause-changed
returns-in-Filled-clause-changed g t c =
    let k = c.in-Filled.link.value in
    zip-around (Leaves g.F.Fn c.args.change.now) _ _ (items k.left) (items c.change_each.new.self) (items k.right) (items c.change_each-in-Filled.new.self)
    k.item c.changed_by.new.item (grind (arith, common_steps)) (grind (arith, common_steps)) (search rules) (search rules) (search rules)
