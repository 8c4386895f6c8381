use Rattle.std.proofs.Common.{Some, sym, ap, ◌∙◌}
use Rattle.serde_json.specs.Written.{compact_text}
use Rattle.map_json.proofs.Pieces.{object_at-whole}
use Rattle.map_json.proofs.part_text.write_object.Goals as goal

pub returns : goal.returns
returns c =
    let found = c.in-Some.ensures in
    let whole = object_at-whole c.args.map.now c.in-Some.field-0-0 c.in-Some.object.now found.object found.well_formed in
    rw (sym found.place, found.object) (ap Some (c.in_ok-to_vec.ensures.text (rw c.in_ok-tree.ensures whole) ∙ ap compact_text c.in_ok-tree.ensures))
