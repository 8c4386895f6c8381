use Rattle.std.proofs.Common.{ap, ◌∙◌, option_map}
use Rattle.serde_json.proofs.Views.{view-lookup}
use Rattle.serde_json.specs.View.{view}
use Rattle.json_members.proofs.MembersLemmas.{members_view-removed}
use Rattle.json_members.proofs.take.Goals as goal

pub returns-clause-found : goal.returns-clause-found
returns-clause-found c = ap (option_map view) c.remove.ensures.value ∙ view-lookup c.args.name.now c.args.members.now.entries

pub returns-clause-left : goal.returns-clause-left
returns-clause-left c = members_view-removed c.args.name.now c.args.members.now.entries c.remove.new.self.entries c.remove.ensures.entries
    c.remove.ensures.updates.1
