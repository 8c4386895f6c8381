use Rattle.std.proofs.Common.{◌≡◌, None, is_some, refl, sym, ap, ◌∙◌}
use Rattle.std.specs.List.{position}
use Rattle.map_model.specs.Heads.{tileset_with_head}
use Rattle.map_model.specs.Tilesets.{has_first_id}
use Rattle.map_model.proofs.Changes.{find-at_position, position-found, set-at_position}
use Rattle.map_model.proofs.tilesets.head_tileset_in.Goals as goal

pub unreachable-requires : goal.unreachable-requires
unreachable-requires c =
    let there = position-found (has_first_id c.args.first_id) c.args.tilesets.now c.requires in
    let none : position (has_first_id c.args.first_id) c.args.tilesets.now ≡ None = sym c.place_in.ensures ∙ c.in_default.is in
    let no = sym (ap is_some none) ∙ there in
    cc

pub returns-clause-given : goal.returns-clause-given
returns-clause-given c =
    let place = sym c.place_in.ensures ∙ c.in-Some.is in
    let found = find-at_position (has_first_id c.args.first_id) c.args.tilesets.now c.in-Some.at c.get_mut.result.now place c.get_mut.ensures.value in
    rw (found, c.replace_head.ensures.given) refl

pub returns-clause-tilesets : goal.returns-clause-tilesets
returns-clause-tilesets c =
    let place = sym c.place_in.ensures ∙ c.in-Some.is in
    rw c.replace_head.ensures.tileset (set-at_position (has_first_id c.args.first_id) (tileset_with_head c.args.head) c.args.tilesets.now c.in-Some.at
    c.get_mut.result.now place c.get_mut.ensures.value)
