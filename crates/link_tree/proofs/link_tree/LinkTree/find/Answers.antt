use Rattle.std.proofs.Common.{rules}
use Rattle.link_tree.proofs.Passes.{first-of}
use Rattle.link_tree.proofs.link_tree.LinkTree.find.Goals as goal

pub returns-then-count_to_first-clause-first : goal.returns-then-count_to_first-clause-first
returns-then-count_to_first-clause-first g c =
    first-of g.F.Fn c.args.test c.count_to_first.result c.args.self.now c.count_to_first.new.passed (search rules) c.if-count_to_first.true
