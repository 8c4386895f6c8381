use Rattle.std.proofs.lemmas.Result.{IfOk-weaker}
use Rattle.map_json.proofs.map_text.write_outline.Goals as goal

pub returns : goal.returns
returns c = IfOk-weaker c.write_in.result _ _ (λ x h. h.0) c.write_in.ensures.text
