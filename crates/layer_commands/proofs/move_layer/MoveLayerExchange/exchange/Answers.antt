use Rattle.std.proofs.Common.{rules, ◌≡◌}
use Rattle.map_model.specs.Document.{with_map}
use Rattle.edits.specs.LayerEdits.{with_layer_moved}
use Rattle.layer_commands.proofs.Moving.{moved_place, moved_there, moved_well_formed, move_turned}
use Rattle.layer_commands.proofs.move_layer.MoveLayerExchange.exchange.Goals as goal

pub take_layer-layer-requires : goal.take_layer-layer-requires
take_layer-layer-requires c =
    let s = c.args.self.now in
    moved_there s.from s.to c.args.document.now c.requires.fits

pub insert_layer-requires-clause-place : goal.insert_layer-requires-clause-place
insert_layer-requires-clause-place c =
    let s = c.args.self.now in
    rw c.take_layer-layer.ensures.document (moved_place s.from s.to c.args.document.now c.requires.fits)

pub insert_layer-requires-clause-well_formed : goal.insert_layer-requires-clause-well_formed
insert_layer-requires-clause-well_formed c =
    let s = c.args.self.now in
    rw (c.take_layer-layer.ensures.document, c.take_layer-layer.ensures.layer) (moved_well_formed s.from s.to c.args.document.now c.requires.fits)

pub returns : goal.returns
returns c =
    let s = c.args.self.now in
    let d = c.args.document.now in
    let is : c.insert_layer.new.self ≡ with_map (with_layer_moved s.from s.to) d = search rules in
    rw (c.swap.ensures.x_after, c.swap.ensures.y_after) (move_turned s.from s.to d c.insert_layer.new.self c.requires.fits is)
