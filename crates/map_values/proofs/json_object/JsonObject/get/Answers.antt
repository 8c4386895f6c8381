use Rattle.std.proofs.Common.{ap, ◌∙◌}
use Rattle.serde_json.specs.Find.{get_member}
use Rattle.map_values.proofs.json_object.JsonObject.get.Goals as goal

pub returns : goal.returns
returns c = c.found.ensures ∙ ap (get_member c.args.name.now) c.self.view_is
