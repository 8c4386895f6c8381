use Rattle.std.proofs.Common.{◌≡◌, Ok, refl, ap, ◌∙◌, rules}
use Rattle.map_model.specs.declared.parts.MapParts.{MapParts}
use Rattle.map_model.specs.Document.{with_map}
use Rattle.map_model.specs.Lookups.{layer_of}
use Rattle.edits.specs.Blocks.{erase_over}
use Rattle.edits.specs.Covering.{covered_map, where_selected}
use Rattle.edits.specs.Refusals.{tiles_or_fault}
use Rattle.edits.specs.Stamping.{after_erase}
use Rattle.edits.proofs.Calls.{IsTheLayer, IsTheLayer-found, IsExtent-erase, IsPainted-result}
use Rattle.edits.proofs.erase.erase_change.Goals as goal

pub change-requires : goal.change-requires
change-requires c =
    let m = c.parts-parts.result.now in
    let value = c.parts-parts.ensures.value in
    let layer : IsTheLayer m c.args.layer c.in_ok-tiles.tiles.now =
    IsTheLayer-found m c.args.layer c.in_ok-tiles.tiles.now (rw value c.parts-parts.ensures.well_formed) (rw value c.in_ok-tiles.ensures) in
    IsExtent-erase m c.args.layer c.in_ok-tiles.tiles c.selection.result c.new.result c.new-2.result c.args.area.now layer (search rules) (search rules)

pub returns-clause-change : goal.returns-clause-change
returns-clause-change c =
    let d = c.args.document.now in
    let map = c.map-map.ensures in
    let there : tiles_or_fault (layer_of d.map c.args.layer) ≡ Ok c.in_ok-tiles.tiles.now = rw map at c.in_ok-tiles.ensures in
    let over = where_selected d.selection (erase_over c.args.area.now) in
    let accepted : after_erase d c.args.layer c.args.area.now ≡ Ok (with_map (covered_map c.args.layer over) d) = rw there refl in
    let layer = IsTheLayer-found d.map c.args.layer c.in_ok-tiles.tiles.now (rw map at c.parts-parts.ensures.well_formed) there in
    let width = ap (λ (m : MapParts). m.width) (c.parts-parts.ensures.value ∙ map) in
    IsPainted-result d c.args.layer over (after_erase d c.args.layer c.args.area.now) c.in_ok-tiles.tiles.now c.parts-parts.result.now.width
    (where_selected c.selection.result.now (erase_over c.args.area.now)) c.change.result
    accepted layer width (ap (λ s. where_selected s (erase_over c.args.area.now)) c.selection.ensures.selection) c.change.ensures.layer c.change.ensures.cells
