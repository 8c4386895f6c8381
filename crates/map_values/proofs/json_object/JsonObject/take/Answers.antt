use Rattle.std.proofs.Common.{ap, ◌∙◌}
use Rattle.serde_json.specs.Find.{get_member}
use Rattle.json_members.specs.Members.{without}
use Rattle.map_values.proofs.json_object.JsonObject.take.Goals as goal

pub returns-clause-found : goal.returns-clause-found
returns-clause-found c = c.take.ensures.found ∙ ap (get_member c.args.name.now) c.self.view_is

pub returns-clause-left : goal.returns-clause-left
returns-clause-left c = c.take.ensures.left ∙ ap (without c.args.name.now) c.self.view_is
