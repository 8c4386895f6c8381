use Rattle.std.proofs.Common.{◌≡◌, drop}
use Rattle.serde_json.specs.View.{items_view, members_view}
use Rattle.serde_json.specs.Written.{items_have_float, members_have_float}
use Rattle.map_json.proofs.floats.+floats.Given as goal

abbrev pub invariant-items_have_float-loop-at : goal.invariant-items_have_float-loop-at
invariant-items_have_float-loop-at g l = items_have_float (items_view (drop l.at l.item-items)) ≡ items_have_float (items_view l.item-items)

abbrev pub invariant-members_have_float-loop-name : goal.invariant-members_have_float-loop-name
invariant-members_have_float-loop-name g l = members_have_float (members_view l.name-iterator) ≡ members_have_float (members_view l.members.entries)
