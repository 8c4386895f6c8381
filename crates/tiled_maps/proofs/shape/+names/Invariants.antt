use Rattle.std.proofs.Common.{◌≡◌, drop}
use Rattle.serde_json.specs.View.{items_view, members_view}
use Rattle.json_trees.specs.Names.{items_have_name, members_have_name}
use Rattle.tiled_maps.proofs.shape.+names.Given as goal

abbrev pub invariant-items_have_name-loop-item : goal.invariant-items_have_name-loop-item
invariant-items_have_name-loop-item l = items_have_name l.name (items_view (drop l.item-index l.item-items)) ≡ items_have_name l.name (items_view l.item-items)

abbrev pub invariant-members_have_name-loop-key : goal.invariant-members_have_name-loop-key
invariant-members_have_name-loop-key l = members_have_name l.name (members_view l.key-iterator) ≡ members_have_name l.name (members_view l.members.entries)
