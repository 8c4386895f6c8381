use Rattle.std.proofs.Common.{◌≡◌, ◌↔◌, drop}
use Rattle.std.specs.Slice.Iter.{iter_rest}
use Rattle.serde_json.specs.View.{items_view, members_view}
use Rattle.tmx_maps.specs.SameMap.{plain_items, plain_members}
use Rattle.tmx_maps.proofs.same_map.+same.Given as goal

abbrev pub invariant-are_same_items-loop-item : goal.invariant-are_same_items-loop-item
invariant-are_same_items-loop-item l =
    (plain_items l.one_place (items_view (drop l.item-index l.item-items)) ≡ plain_items l.other_place (items_view (iter_rest l.others)))
    ↔ (plain_items l.one_place (items_view l.one.items) ≡ plain_items l.other_place (items_view l.other.items))

abbrev pub invariant-are_same_members-loop-key : goal.invariant-are_same_members-loop-key
invariant-are_same_members-loop-key l =
    (plain_members l.one_place (members_view l.key-iterator) ≡ plain_members l.other_place (members_view l.others))
    ↔ (plain_members l.one_place (members_view l.one.entries) ≡ plain_members l.other_place (members_view l.other.entries))
