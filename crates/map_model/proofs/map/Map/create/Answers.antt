use Rattle.map_model.proofs.NewMaps.{new_map-IsWellFormed}
use Rattle.map_model.proofs.map.Map.create.Goals as goal

pub invariant_of-result : goal.invariant_of-result
invariant_of-result c =
    let layers = c.in_ok-one.ensures in
    let tilesets = c.in_ok-one-2.ensures in
    rw (layers, c.in_ok-layer.ensures, tilesets, c.external-tileset.ensures, c.new.ensures, c.in_ok-kept_by_map.ensures)
    (new_map-IsWellFormed c.args.width c.args.height c.args.tile_width c.args.tile_height c.args.source c.text_is_utf8.ensures c.requires.size
    c.requires.tile_size)
