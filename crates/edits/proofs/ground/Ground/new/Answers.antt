use Rattle.std.proofs.Common.{◌/◌, length, refl}
use Rattle.std.proofs.lemmas.List.{get_or_read}
use Rattle.edits.specs.declared.ground.Ground.{Ground}
use Rattle.edits.proofs.SelectedNumbers.{IsGroundOf-made, number_of}
use Rattle.edits.proofs.ground.Ground.new.Goals as goal

pub returns : goal.returns
returns c =
    let tiles = c.args.tiles.now in
    let x = c.args.start.0 in
    let y = c.args.start.1 in
    let g : Ground = record {
      tiles = c.args.tiles;
      width = c.args.width;
      height = length tiles / c.args.width;
      start = c.args.start;
      value = c.index-tiles-y.result;
      selection = c.args.selection;
    } in
    let own = get_or_read tiles _ c.index-tiles-y.result (number_of g x y c.requires) c.index-tiles-y.is 0 in
    IsGroundOf-made g x y c.requires refl refl refl own
