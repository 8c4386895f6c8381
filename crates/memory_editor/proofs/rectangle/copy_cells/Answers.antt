use Rattle.std.proofs.Common.{◌≡◌, ◌<◌, true, ℕ, Some, length, sym, ap, ◌∙◌, arith}
use Rattle.edits.proofs.Calls.{IsTheLayer-found, length-layer}
use Rattle.map_model.specs.declared.parts.MapParts.{MapParts}
use Rattle.memory_editor.specs.Rectangles.{lies_in, rows_of}
use Rattle.memory_editor.proofs.Pieces.{written-larger}
use Rattle.memory_editor.proofs.Rows.{cells_in-found, length-rows_of, lies_within}
use Rattle.memory_editor.proofs.rectangle.copy_cells.Goals as goal

pub copy_rows-requires-clause-values : goal.copy_rows-requires-clause-values
copy_rows-requires-clause-values c =
    let m = c.args.map.now in
    rw c.parts-parts.ensures.value (length-layer m c.args.layer c.in-Ok.values.now
    (IsTheLayer-found m c.args.layer c.in-Ok.values.now c.parts-parts.ensures.well_formed c.in-Ok.ensures))

pub returns-else-count-cells-clause-count : goal.returns-else-count-cells-clause-count
returns-else-count-cells-clause-count c =
    let m = c.args.map.now in
    let r = c.args.rectangle in
    let values = c.in-Ok.values.now in
    let lies : lies_in r m ≡ true = sym (ap (λ (p : MapParts). lies_in r p) c.parts-parts.ensures.value) ∙ (sym c.lies_in.ensures ∙ c.if-not-lies_in.false) in
    let within = lies_within r m lies in
    let size = length-layer m c.args.layer values (IsTheLayer-found m c.args.layer values c.parts-parts.ensures.well_formed c.in-Ok.ensures) in
    rw (cells_in-found c.args.layer r m values lies c.in-Ok.ensures)
    (ap (λ (n : ℕ). Some n) (sym (length-rows_of r m.width m.height values within.0 within.1 size)))

pub returns-else-count-cells-clause-copied : goal.returns-else-count-cells-clause-copied
returns-else-count-cells-clause-copied c =
    let m = c.args.map.now in
    let r = c.args.rectangle in
    let values = c.in-Ok.values.now in
    let lies : lies_in r m ≡ true = sym (ap (λ (p : MapParts). lies_in r p) c.parts-parts.ensures.value) ∙ (sym c.lies_in.ensures ∙ c.if-not-lies_in.false) in
    let within = lies_within r m lies in
    let size = length-layer m c.args.layer values (IsTheLayer-found m c.args.layer values c.parts-parts.ensures.well_formed c.in-Ok.ensures) in
    let large : length c.args.cells.now < length (rows_of m.width r values) =
    omega (arith, c.if-count-cells.false, length-rows_of r m.width m.height values within.0 within.1 size) in
    rw (cells_in-found c.args.layer r m values lies c.in-Ok.ensures) (sym (written-larger (rows_of m.width r values) c.args.cells.now large))
