use Rattle.std.proofs.Common.{rules, ◌∙◌}
use Rattle.edits.specs.Blocks.{block_of}
use Rattle.edits.proofs.Overs.{option_copied-found, value_over-at}
use Rattle.edits.proofs.block.Block.value_over.Goals as goal

pub returns : goal.returns
returns c =
    value_over-at (block_of c.args.self.now) c.args.x c.args.y c.in_ok-right.right c.in_ok-down.down c.copied.result (search rules)
    (search rules) c.if-right-self.false (c.copied.ensures ∙ option_copied-found c.get.result c.args.self.now.values.now _ c.get.ensures.lookup.0
    (search rules))
