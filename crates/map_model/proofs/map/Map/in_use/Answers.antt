use Rattle.std.proofs.Common.{◌≡◌, Some, true, is_some, sym, ap}
use Rattle.map_model.specs.Tilesets.{tileset_place}
use Rattle.map_model.proofs.TilesetChanges.{has_uses-range}
use Rattle.map_model.proofs.map.Map.in_use.Goals as goal

pub returns : goal.returns
returns c =
    let m = c.args.self.now in
    let some : is_some (tileset_place m c.args.first_id) ≡ true = ap is_some (sym c.in_ok-tileset_place.ensures.place) in
    rw (some, c.is_in_layers.ensures, c.end_of_tileset-end.ensures, c.self.view_is)
    (ap Some (sym (has_uses-range m c.args.first_id some c.in_ok-tileset_place.ensures.well_formed)))
