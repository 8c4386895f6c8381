use Rattle.std.proofs.Common.{◌≡◌, ◌+◌, drop}
use Rattle.serde_json.specs.View.{items_view, members_view}
use Rattle.fractions.specs.Fractions.{fractions_in_items, fractions_in_members}
use Rattle.fractions.proofs.counting.+counts.Given as goal

abbrev pub invariant-after_items-loop-item : goal.invariant-after_items-loop-item
invariant-after_items-loop-item l =
    l.left + fractions_in_items l.place (items_view (drop l.item-index l.item-items)) ≡ l.rest + fractions_in_items l.place (items_view l.item-items)

abbrev pub invariant-after_members-loop-name : goal.invariant-after_members-loop-name
invariant-after_members-loop-name l =
    l.left + fractions_in_members l.place (members_view l.name-iterator) ≡ l.rest + fractions_in_members l.place (members_view l.members.entries)
