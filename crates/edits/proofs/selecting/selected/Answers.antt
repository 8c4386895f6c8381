use Rattle.map_model.proofs.Selections.{empty-LiesIn}
use Rattle.edits.proofs.Areas.{combined-selected}
use Rattle.edits.proofs.selecting.selected.Goals as goal

pub returns-in_default-clause-within : goal.returns-in_default-clause-within
returns-in_default-clause-within c = empty-LiesIn c.args.document.now.map.width c.args.document.now.map.height c.empty.result c.empty.ensures

pub returns-clause-within : goal.returns-clause-within
returns-clause-within c =
    combined-selected c.args.document.now c.map.result.now c.in-Rectangle.mode c.in-Rectangle.area c.selection-selection.result.now c.in_ok-cells.cells
    c.combined.result
    c.selection-selection.ensures.well_formed c.selection-selection.ensures.selection c.map.ensures c.in_ok-cells.ensures c.combined.ensures
