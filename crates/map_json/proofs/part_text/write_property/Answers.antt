use Rattle.std.proofs.Common.{Some, sym, ap, ◌∙◌}
use Rattle.serde_json.specs.Written.{compact_text}
use Rattle.map_json.proofs.Pieces.{property_at-whole}
use Rattle.map_json.proofs.part_text.write_property.Goals as goal

pub returns : goal.returns
returns c =
    let found = c.in-Some-property.ensures in
    let whole = property_at-whole c.args.map.now c.in-Some.place c.in-Some-property.field-0-0 c.in-Some-property.property.now found.property
    found.well_formed in
    rw (sym c.in-Some.ensures.place, sym found.place, found.property)
    (ap Some (c.in_ok-to_vec.ensures.text (rw c.in_ok-tree.ensures whole) ∙ ap compact_text c.in_ok-tree.ensures))
