use Rattle.std.proofs.Common.{◌≡◌, ◌++◌, map, replicate}
use Rattle.serde_json.specs.View.{view}
use Rattle.tmx_tree.specs.Cells.{cell}
use Rattle.tmx_tree.proofs.cells.push_zeros.Given as goal

abbrev pub invariant-loop-done : goal.invariant-loop-done
invariant-loop-done l =
    map view l.found.items ≡ map view l.initial.found.items ++ replicate l._done (cell 0)
