use Rattle.std.proofs.Common.{◌≡◌, drop}
use Rattle.serde_json.specs.View.{items_view, members_view}
use Rattle.fractions.specs.Fractions.{items_have_fraction, members_have_fraction}
use Rattle.fractions.proofs.counting.+fractions.Given as goal

abbrev pub invariant-items_have_fraction-loop-item : goal.invariant-items_have_fraction-loop-item
invariant-items_have_fraction-loop-item l =
    items_have_fraction l.place (items_view (drop l.item-index l.item-items)) ≡ items_have_fraction l.place (items_view l.item-items)

abbrev pub invariant-members_have_fraction-loop-name : goal.invariant-members_have_fraction-loop-name
invariant-members_have_fraction-loop-name l =
    members_have_fraction l.place (members_view l.name-iterator) ≡ members_have_fraction l.place (members_view l.members.entries)
