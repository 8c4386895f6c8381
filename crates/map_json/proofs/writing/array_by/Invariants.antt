use Rattle.std.proofs.Common.{◌≡◌}
use Rattle.serde_json.specs.View.{items_view}
use Rattle.map_values.specs.Arrays.{items_by}
use Rattle.map_json.proofs.Pushes.{joined}
use Rattle.map_json.proofs.writing.array_by.Given as goal

abbrev pub invariant-loop-element : goal.invariant-loop-element
invariant-loop-element g l = joined (items_view l.values.items) (items_by (g.T.Tree.tree l.size) l.element-iterator)
    ≡ items_by (g.T.Tree.tree l.size) l.elements
