use Rattle.std.proofs.Common.{◌≡◌, ◌+◌, ◌*◌, ◌++◌}
use Rattle.map_lists.specs.Rows.{rows_among}
use Rattle.map_lists.proofs.rows.+rows.Given as goal

abbrev pub decreases-push_rows : goal.decreases-push_rows
decreases-push_rows a = 2 * a.groups + 1

abbrev pub decreases-push_under : goal.decreases-push_under
decreases-push_under a = 2 * a.groups

abbrev pub invariant-push_rows-loop-layer : goal.invariant-push_rows-loop-layer
invariant-push_rows-loop-layer l = l.rows.items ++ rows_among l.groups l.parent l.layer-iterator ≡ l.initial.rows.items ++ rows_among l.groups l.parent l.layers
