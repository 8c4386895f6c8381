use Rattle.std.proofs.Common.{◌≡◌, None, is_some, sym, ap, ◌∙◌}
use Rattle.std.specs.List.{position}
use Rattle.map_model.specs.Renumbering.{tileset_with_first_id}
use Rattle.map_model.specs.Tilesets.{has_first_id}
use Rattle.map_model.proofs.Changes.{position-found, set-at_position}
use Rattle.map_model.proofs.tilesets.number_tileset_in.Goals as goal

pub unreachable-requires : goal.unreachable-requires
unreachable-requires c =
    let there = position-found (has_first_id c.args.first_id) c.args.tilesets.now c.requires in
    let none : position (has_first_id c.args.first_id) c.args.tilesets.now ≡ None = sym c.place_in.ensures ∙ c.in_default.is in
    let no = sym (ap is_some none) ∙ there in
    cc

pub returns : goal.returns
returns c =
    let place = sym c.place_in.ensures ∙ c.in-Some.is in
    set-at_position (has_first_id c.args.first_id) (tileset_with_first_id c.args.to) c.args.tilesets.now c.in-Some.at c.get_mut.result.now place
    c.get_mut.ensures.value
