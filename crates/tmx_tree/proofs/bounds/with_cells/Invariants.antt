use Rattle.std.proofs.Common.{◌≡◌, drop}
use Rattle.serde_json.specs.View.{items_view}
use Rattle.tmx_tree.specs.Bounds.{with_cells}
use Rattle.tmx_tree.proofs.bounds.with_cells.Given as goal

abbrev pub invariant-loop-cell : goal.invariant-loop-cell
invariant-loop-cell l =
    with_cells l.chunk l.x l.y (items_view (drop l.cell-index l.cell-items)) l.found
    ≡ with_cells l.chunk l.initial.x l.initial.y (items_view l.cell-items) l.initial.found
