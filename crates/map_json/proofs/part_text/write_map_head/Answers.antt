use Rattle.std.proofs.Common.{ap, ◌∙◌}
use Rattle.std.proofs.lemmas.Result.{IfOk-weaker}
use Rattle.serde_json.specs.Data.{object}
use Rattle.serde_json.specs.Written.{compact_text}
use Rattle.map_model.specs.declared.parts.MapParts.{MapParts}
use Rattle.map_json.specs.PartTexts.{map_head}
use Rattle.map_json.proofs.Pieces.{map_head-whole}
use Rattle.map_json.proofs.part_text.write_map_head.Goals as goal

pub returns : goal.returns
returns c =
    let whole = map_head-whole c.args.map.now c.parts.ensures.well_formed in
    let tree = c.into_value-tree.ensures ∙ ap object c.in_ok-map_head.ensures ∙ ap (λ (m : MapParts). map_head m) c.parts.ensures.value in
    IfOk-weaker c.to_vec.result _ _ (λ text h. h (rw tree whole) ∙ ap compact_text tree) c.to_vec.ensures.text
