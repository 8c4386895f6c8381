use Rattle.std.proofs.Common.{◌≡◌, List, ◌++◌, take, map}
use Rattle.serde_json.specs.View.{view, members_view}
use Rattle.serde_json.proofs.Views.{Entry}
use Rattle.fractions.specs.Lines.{members_moved, moved_aside}
use Rattle.fractions.proofs.setting_aside.+asides.Given as goal

abbrev pub invariant-items_moved-loop-item : goal.invariant-items_moved-loop-item
invariant-items_moved-loop-item l = map view l.all.items ≡ map (λ v. moved_aside l.moved l.place (view v)) (take l.item-index l.item-items)

abbrev pub invariant-members_moved-loop-key : goal.invariant-members_moved-loop-key
invariant-members_moved-loop-key l =
    (done : List Entry) × (l.members.entries ≡ done ++ l.key-iterator) × (members_view l.all.entries ≡ members_moved l.moved l.place (members_view done))
