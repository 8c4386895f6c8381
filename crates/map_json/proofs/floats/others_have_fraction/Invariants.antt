use Rattle.std.proofs.Common.{◌≡◌}
use Rattle.serde_json.specs.View.{members_view}
use Rattle.serde_json.specs.Written.{members_have_float}
use Rattle.map_model.specs.declared.names.TheConstants.{VERSION}
use Rattle.json_members.specs.Members.{without}
use Rattle.map_json.proofs.floats.others_have_fraction.Given as goal

abbrev pub invariant-loop-name : goal.invariant-loop-name
invariant-loop-name g l = members_have_float (without VERSION.now (members_view l.name-iterator))
    ≡ members_have_float (without VERSION.now (members_view l.members.entries))
