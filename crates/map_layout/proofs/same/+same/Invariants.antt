use Rattle.std.proofs.Common.{◌≡◌, ◌↔◌, drop}
use Rattle.std.specs.Slice.Iter.{iter_rest}
use Rattle.serde_json.specs.View.{items_view, members_view}
use Rattle.map_layout.proofs.same.+same.Given as goal

abbrev pub invariant-items_are_same-loop-item : goal.invariant-items_are_same-loop-item
invariant-items_are_same-loop-item l =
    (items_view (drop l.item-index l.item-items) ≡ items_view (iter_rest l.others)) ↔ (items_view l.one.items ≡ items_view l.other.items)

abbrev pub invariant-members_are_same-loop-key : goal.invariant-members_are_same-loop-key
invariant-members_are_same-loop-key l =
    (members_view l.key-iterator ≡ members_view l.others) ↔ (members_view l.one.entries ≡ members_view l.other.entries)
