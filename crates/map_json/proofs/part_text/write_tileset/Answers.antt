use Rattle.std.proofs.Common.{◌≡◌, ◌<◌, length, Some, sym, ap, ◌∙◌, subst}
use Rattle.serde_json.specs.Written.{compact_text}
use Rattle.map_model.specs.declared.parts.MapParts.{MapParts}
use Rattle.map_model.specs.Tilesets.{tileset_at}
use Rattle.map_json.proofs.Pieces.{tileset_at-whole, tileset_place-within}
use Rattle.map_json.proofs.part_text.write_tileset.Goals as goal

pub get-tileset-requires : goal.get-tileset-requires
get-tileset-requires c =
    let P : MapParts → Type 0 = λ m. c.in-Some.at < length m.tilesets in
    subst P (sym c.parts-parts.ensures.value)
    (tileset_place-within c.args.first_id c.args.map.now.tilesets c.in-Some.at (sym c.in-Some.ensures.place))

pub returns : goal.returns
returns c =
    let P : MapParts → Type 0 = λ m. tileset_at m c.in-Some.at ≡ Some c.get-tileset.result.now in
    let there = subst P c.parts-parts.ensures.value c.get-tileset.ensures in
    let whole = tileset_at-whole c.args.map.now c.in-Some.at c.get-tileset.result.now there c.parts-parts.ensures.well_formed in
    rw (sym c.in-Some.ensures.place, there)
    (ap Some (c.in_ok-to_vec.ensures.text (rw c.in_ok-tree.ensures whole) ∙ ap compact_text c.in_ok-tree.ensures))
