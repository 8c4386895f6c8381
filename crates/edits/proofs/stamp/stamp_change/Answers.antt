use Rattle.std.proofs.Common.{◌≡◌, ap, sym, ◌∙◌, refl, rules, true, Ok}
use Rattle.std.specs.List.{list_all}
use Rattle.map_model.specs.declared.parts.MapParts.{MapParts}
use Rattle.map_model.specs.Document.{with_map}
use Rattle.map_model.specs.Lookups.{layer_of}
use Rattle.edits.specs.Blocks.{block_of, stamp_over}
use Rattle.edits.specs.Covering.{covered_map, where_selected}
use Rattle.edits.specs.Refusals.{is_known, tiles_or_fault}
use Rattle.edits.specs.Stamping.{after_stamp}
use Rattle.edits.proofs.Calls.{IsTheLayer, IsTheLayer-found, IsExtent-stamp, IsPainted-result}
use Rattle.edits.proofs.stamp.stamp_change.Goals as goal

pub change-requires : goal.change-requires
change-requires c =
    let m = c.parts-parts.result.now in
    let value = c.parts-parts.ensures.value in
    let layer : IsTheLayer m c.args.layer c.in_ok-tiles.tiles.now =
    IsTheLayer-found m c.args.layer c.in_ok-tiles.tiles.now (rw value c.parts-parts.ensures.well_formed) (rw value c.in_ok-tiles.ensures) in
    IsExtent-stamp m c.args.layer c.in_ok-tiles.tiles c.selection.result c.new.result c.new-2.result (block_of c.args.block.now) layer c.requires (search rules)
    (search rules)

pub returns-clause-change : goal.returns-clause-change
returns-clause-change c =
    let d = c.args.document.now in
    let block = block_of c.args.block.now in
    let map = c.map-map.ensures in
    let there : tiles_or_fault (layer_of d.map c.args.layer) ≡ Ok c.in_ok-tiles.tiles.now = rw map at c.in_ok-tiles.ensures in
    let known : list_all (is_known d.map) block.values ≡ true = sym (rw map at c.if-not-are_known_values.ensures) in
    let over = where_selected d.selection (stamp_over block) in
    let accepted : after_stamp d c.args.layer block ≡ Ok (with_map (covered_map c.args.layer over) d) = rw (there, known) refl in
    let layer = IsTheLayer-found d.map c.args.layer c.in_ok-tiles.tiles.now (rw map at c.parts-parts.ensures.well_formed) there in
    let width = ap (λ (m : MapParts). m.width) (c.parts-parts.ensures.value ∙ map) in
    IsPainted-result d c.args.layer over (after_stamp d c.args.layer block) c.in_ok-tiles.tiles.now c.parts-parts.result.now.width
    (where_selected c.selection.result.now (stamp_over block)) c.change.result
    accepted layer width (ap (λ s. where_selected s (stamp_over block)) c.selection.ensures.selection) c.change.ensures.layer c.change.ensures.cells
