use Rattle.std.proofs.Common.{subst}
use Rattle.serde_json.specs.View.{view}
use Rattle.tiled_maps.specs.Likeness.{PutsBackBy}
use Rattle.tiled_maps.proofs.PutLike.{answer_by}
use Rattle.tiled_maps.proofs.text.put_back_by.Goals as goal

pub returns : goal.returns
returns c =
    let bytes = c.args.bytes.now in
    let h = c.in_ok-exact.ensures in
    let r = c.put_like.result in
    subst (λ s. PutsBackBy bytes s r) c.if_map.ensures (answer_by bytes h.0 (view c.in_ok-exact.exact) _ r h.1 h.2 c.put_like.ensures)
