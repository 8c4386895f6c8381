use Rattle.std.proofs.Common.{Some, sym, ap, ◌∙◌}
use Rattle.serde_json.specs.Data.{object}
use Rattle.serde_json.specs.Written.{compact_text}
use Rattle.map_json.proofs.Pieces.{layer_head-whole}
use Rattle.map_json.proofs.part_text.write_layer_head.Goals as goal

pub returns : goal.returns
returns c =
    let is = sym c.in-Some.ensures in
    let whole = layer_head-whole c.args.map.now c.args.id c.in-Some.layer.now is c.parts-parts.ensures.well_formed in
    let tree = c.into_value-tree.ensures ∙ ap object c.in_ok-layer_head.ensures in
    rw is (ap Some (c.in_ok-to_vec.ensures.text (rw tree whole) ∙ ap compact_text tree))
