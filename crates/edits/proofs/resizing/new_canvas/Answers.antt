use Rattle.std.proofs.Common.{rules, ◌≡◌, ℕ, ap, ◌∙◌, map}
use Rattle.std.specs.FinSet as set
use Rattle.region.specs.Cells.{in_moved_cut}
use Rattle.map_model.specs.declared.parts.MapParts.{MapParts}
use Rattle.map_model.specs.Canvas.{tile_layers}
use Rattle.edits.specs.Resizing.{resized_values}
use Rattle.edits.proofs.Resized.{canvas-resized, canvas-fits}
use Rattle.map_model.proofs.CanvasLaws.{layers-cells}
use Rattle.edits.proofs.resizing.new_canvas.Goals as goal

pub resized_layers-requires-clause-cells : goal.resized_layers-requires-clause-cells
resized_layers-requires-clause-cells c = rw c.parts-parts.ensures.value (layers-cells _ _ c.parts-parts.ensures.well_formed.layers.each)

pub returns-clause-document : goal.returns-clause-document
returns-clause-document c =
    let d = c.args.document.now in
    let to = c.args.to in
    let is : c.parts-parts.result.now ≡ d.map = c.parts-parts.ensures.value ∙ c.map.ensures in
    let laid : c.in_ok-layers.layers ≡ map (resized_values d.map to.width to.height to.dx to.dy) (tile_layers d.map) =
    c.in_ok-layers.ensures ∙ ap (λ (m : MapParts). map (resized_values m to.width to.height to.dx to.dy) (tile_layers m)) is in
    let cells = λ (q : ℕ × ℕ).
    let one : set.contains c.in_ok-selection.selection q ≡ in_moved_cut d.selection to.dx to.dy to.width to.height q =
    search (rules, c.in_ok-selection.ensures q) in
    one in
    canvas-resized d to.width to.height to.dx to.dy c.in_ok-layers.layers c.in_ok-selection.selection _ _ laid cells (search rules) (search rules)

pub returns-clause-fits : goal.returns-clause-fits
returns-clause-fits c =
    let d = c.args.document.now in
    let to = c.args.to in
    let is : c.parts-parts.result.now ≡ d.map = c.parts-parts.ensures.value ∙ c.map.ensures in
    let laid : c.in_ok-layers.layers ≡ map (resized_values d.map to.width to.height to.dx to.dy) (tile_layers d.map) =
    c.in_ok-layers.ensures ∙ ap (λ (m : MapParts). map (resized_values m to.width to.height to.dx to.dy) (tile_layers m)) is in
    let cells = λ (q : ℕ × ℕ).
    let one : set.contains c.in_ok-selection.selection q ≡ in_moved_cut d.selection to.dx to.dy to.width to.height q =
    search (rules, c.in_ok-selection.ensures q) in
    one in
    canvas-fits d to.width to.height to.dx to.dy c.in_ok-layers.layers c.in_ok-selection.selection _ _ laid cells (search rules)
    (search rules) c.selection-selection.ensures.well_formed
    c.requires.size (search rules) (search rules) (search rules)
