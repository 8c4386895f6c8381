use Rattle.std.proofs.Common.{◌≡◌, rules}
use Rattle.link_tree.specs.Trees.{items}
use Rattle.link_tree.specs.Passing.{link_items}
use Rattle.link_tree.proofs.Passes.{some-before, some-at, some-behind}
use Rattle.link_tree.proofs.tree.+any.Goals as goal

pub Link::any-returns-then-passes : goal.Link::any-returns-then-passes
Link::any-returns-then-passes g t c =
    let k = c.args.self.now in some-at g.F.Fn c.args.test.now c.passes.result (items k.left) (items k.right) k.item c.passes.ensures c.if-passes.true

pub Link::any-returns-then-any : goal.Link::any-returns-then-any
Link::any-returns-then-any g t c =
    let k = c.args.self.now in some-before g.F.Fn c.args.test.now c.any.result (items k.left) _ c.any.ensures c.if-any.true

pub Link::any-returns-in-Filled : goal.Link::any-returns-in-Filled
Link::any-returns-in-Filled g t c =
    let k = c.args.self.now in
    let right = c.deref.result.now in
    let is : items k.right ≡ link_items right = search rules in
    rw is
    (some-behind g.F.Fn c.args.test.now c.any-in-Filled.result c.any.result c.passes.result (items k.left) (link_items right) k.item c.any.ensures
    c.if-any.false c.passes.ensures c.if-passes.false c.any-in-Filled.ensures)
