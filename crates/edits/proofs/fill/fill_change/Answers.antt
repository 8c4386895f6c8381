use Rattle.std.proofs.Common.{◌≡◌, ℕ, List, length, true, Ok, Some, refl, rules, ◌≤◌, sym, ap, subst, ◌∙◌, arith}
use Rattle.map_model.specs.declared.edit.CellEdit.{CellEdit}
use Rattle.map_model.specs.declared.parts.MapParts.{MapParts}
use Rattle.map_model.specs.CellEdits.{AreInRowOrder}
use Rattle.map_model.specs.Lookups.{layer_of}
use Rattle.edits.specs.Covering.{covered}
use Rattle.edits.specs.Filling.{fill_over, map_cell}
use Rattle.edits.specs.Refusals.{is_known, tiles_or_fault}
use Rattle.edits.proofs.Calls.{IsTheLayer, IsTheLayer-found}
use Rattle.edits.proofs.FillCalls.{map_cell-within, HasCell-map, fill-IsPainted}
use Rattle.edits.proofs.RowOrder.{difference-AreInRowOrder}
use Rattle.edits.proofs.fill.fill_change.Goals as goal

pub fill_cells-requires : goal.fill_cells-requires
fill_cells-requires c =
    let m = c.parts.result.now in
    let value = c.parts.ensures.value in
    let layer : IsTheLayer m c.args.layer c.in_ok-tiles.tiles.now =
    IsTheLayer-found m c.args.layer c.in_ok-tiles.tiles.now (rw value c.parts.ensures.well_formed) (rw value c.in_ok-tiles.ensures) in
    let start : ℕ × ℕ = (c.in-Some.start.0, c.in-Some.start.1) in
    let found : Some start ≡ map_cell c.map-map.result.now c.args.x c.args.y = search rules in
    let within = map_cell-within m c.args.x c.args.y start (rw value found) in
    HasCell-map m c.args.layer c.in_ok-tiles.tiles.now c.in-Some.start.0 c.in-Some.start.1 layer within.0 within.1

pub alike-requires-clause-ordered : goal.alike-requires-clause-ordered
alike-requires-clause-ordered c =
    let P : List CellEdit → Type 0 = AreInRowOrder in
    let tiles = c.in_ok-tiles.tiles.now in
    let width = c.parts.result.now.width in
    let start : ℕ × ℕ = (c.in-Some.start.0, c.in-Some.start.1) in
    let wide : 1 ≤ width = rw c.parts.ensures.value c.parts.ensures.well_formed.size.wide in
    subst P (sym c.in-Ok.ensures.cells)
    (difference-AreInRowOrder width tiles (covered width (fill_over width tiles c.selection.result.now start c.args.value) tiles) (length tiles) (omega arith))

pub returns-in-Ok-clause-change : goal.returns-in-Ok-clause-change
returns-in-Ok-clause-change c =
    let d = c.args.document.now in
    let tiles = c.in_ok-tiles.tiles.now in
    let map = c.map-map.ensures in
    let start : ℕ × ℕ = (c.in-Some.start.0, c.in-Some.start.1) in
    let found : Some start ≡ map_cell c.map-map.result.now c.args.x c.args.y = search rules in
    let there : tiles_or_fault (layer_of d.map c.args.layer) ≡ Ok tiles = rw map at c.in_ok-tiles.ensures in
    let known : is_known d.map c.args.value ≡ true = sym (rw map at c.if-not-is_known_value.ensures) in
    let layer = IsTheLayer-found d.map c.args.layer tiles (rw map at c.parts.ensures.well_formed) there in
    let width = ap (λ (m : MapParts). m.width) (c.parts.ensures.value ∙ map) in
    fill-IsPainted d c.args.layer c.args.x c.args.y c.args.value start tiles c.parts.result.now.width c.selection.result.now
    (record { layer = c.args.layer; cells = c.alike.result }) (rw map at found) there known layer width
    c.selection.ensures.selection refl (c.alike.ensures ∙ c.in-Ok.ensures.cells)
