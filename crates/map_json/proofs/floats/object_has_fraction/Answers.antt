use Rattle.std.proofs.Common.{◌≡◌, false, option_map, sym, ap, ◌∙◌}
use Rattle.serde_json.specs.Find.{get_member}
use Rattle.serde_json.specs.View.{view, members_view}
use Rattle.serde_json.specs.Written.{members_have_float}
use Rattle.serde_json.proofs.Views.{view_of_ref, view-lookup}
use Rattle.map_model.specs.declared.names.TheConstants.{VERSION}
use Rattle.json_members.specs.Members.{without}
use Rattle.map_json.specs.Maps.{version_has_fraction}
use Rattle.map_json.proofs.Walks.{has_fraction-object}
use Rattle.map_json.proofs.floats.object_has_fraction.Goals as goal

pub returns-else-others_have_fraction : goal.returns-else-others_have_fraction
returns-else-others_have_fraction g c =
    let held = c.args.members.now.entries in
    let found : option_map (λ v. view v.now) c.get.result ≡ get_member VERSION.now (members_view held)
    = view_of_ref c.get.result ∙ (ap (option_map view) c.get.ensures.value ∙ view-lookup VERSION.now held) in
    let whole : members_have_float (without VERSION.now (members_view held)) ≡ false = sym c.others_have_fraction.ensures ∙ c.if-others_have_fraction.false in
    has_fraction-object (members_view held) c.version_has_fraction.result whole (c.version_has_fraction.ensures ∙ ap version_has_fraction found)
