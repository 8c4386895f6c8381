use Rattle.std.proofs.Common.{Some, sym, ap, ◌∙◌}
use Rattle.serde_json.specs.Written.{compact_text}
use Rattle.map_json.proofs.Pieces.{properties_of-whole}
use Rattle.map_json.proofs.part_text.write_properties.Goals as goal

pub returns : goal.returns
returns c =
    let is = sym c.in-Some-properties.ensures in
    let whole = properties_of-whole c.args.map.now c.in-Some.place c.in-Some-properties.properties.now is c.parts-parts.ensures.well_formed in
    rw (sym c.in-Some.ensures.place, is) (ap Some (c.in_ok-to_vec.ensures.text (rw c.in_ok-tree.ensures whole) ∙ ap compact_text c.in_ok-tree.ensures))
