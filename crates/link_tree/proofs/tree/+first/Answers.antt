use Rattle.std.proofs.Common.{◌≡◌, rules, arith}
use Rattle.link_tree.specs.Trees.{items}
use Rattle.link_tree.specs.Passing.{link_items}
use Rattle.link_tree.proofs.Passes.{counts-before, counts-at, counts-behind}
use Rattle.link_tree.proofs.tree.+first.Goals as goal

pub Link::count_to_first-returns-then-count_to_first : goal.Link::count_to_first-returns-then-count_to_first
Link::count_to_first-returns-then-count_to_first g t c =
    counts-before g.F.Fn c.args.test.now c.count_to_first.result (items c.args.self.now.left) _ c.args.passed.now c.count_to_first.new.passed
    c.count_to_first.ensures c.if-count_to_first.true

pub Link::count_to_first-returns-then-passes : goal.Link::count_to_first-returns-then-passes
Link::count_to_first-returns-then-passes g t c =
    let k = c.args.self.now in
    counts-at g.F.Fn c.args.test.now c.count_to_first.result c.passes.result (items k.left) (items k.right) k.item c.args.passed.now
    c.count_to_first.new.passed c.count_to_first.ensures c.if-count_to_first.false c.passes.ensures c.if-passes.true

pub Link::count_to_first-returns-in-Filled : goal.Link::count_to_first-returns-in-Filled
Link::count_to_first-returns-in-Filled g t c =
    let k = c.args.self.now in
    let right = c.deref.result.now in
    let is : items k.right ≡ link_items right = search rules in
    rw is
    (counts-behind g.F.Fn c.args.test.now c.count_to_first-in-Filled.result c.count_to_first.result c.passes.result (items k.left) (link_items right) k.item
    c.args.passed.now c.count_to_first.new.passed _ c.count_to_first-in-Filled.new.passed c.count_to_first.ensures c.if-count_to_first.false
    c.passes.ensures c.if-passes.false (omega arith) c.count_to_first-in-Filled.ensures)

pub Link::count_few-returns-then-count_one : goal.Link::count_few-returns-then-count_one
Link::count_few-returns-then-count_one g t c =
    counts-before g.F.Fn c.args.test.now c.count_one.result (items c.args.self.now.left) _ c.args.passed.now c.count_one.new.passed
    c.count_one.ensures c.if-count_one.true

pub Link::count_few-returns-then-passes : goal.Link::count_few-returns-then-passes
Link::count_few-returns-then-passes g t c =
    let k = c.args.self.now in
    counts-at g.F.Fn c.args.test.now c.count_one.result c.passes.result (items k.left) (items k.right) k.item c.args.passed.now
    c.count_one.new.passed c.count_one.ensures c.if-count_one.false c.passes.ensures c.if-passes.true

pub Link::count_few-returns : goal.Link::count_few-returns
Link::count_few-returns g t c =
    let k = c.args.self.now in
    counts-behind g.F.Fn c.args.test.now c.count_one-2.result c.count_one.result c.passes.result (items k.left) (items k.right) k.item
    c.args.passed.now c.count_one.new.passed _ c.count_one-2.new.passed c.count_one.ensures c.if-count_one.false
    c.passes.ensures c.if-passes.false (omega arith) c.count_one-2.ensures
