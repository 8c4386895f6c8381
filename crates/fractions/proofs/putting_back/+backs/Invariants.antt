use Rattle.std.proofs.Common.{◌≡◌, List, ◌++◌, take, map}
use Rattle.serde_json.specs.View.{view, members_view}
use Rattle.serde_json.proofs.Views.{Entry}
use Rattle.fractions.specs.Back.{back, members_back}
use Rattle.fractions.proofs.putting_back.+backs.Given as goal

abbrev pub invariant-items_back-loop-item : goal.invariant-items_back-loop-item
invariant-items_back-loop-item l = map view l.all.items ≡ map (λ v. back (view v)) (take l.item-index l.item-items)

abbrev pub invariant-members_back-loop-key : goal.invariant-members_back-loop-key
invariant-members_back-loop-key l =
    (done : List Entry) × (l.members.entries ≡ done ++ l.key-iterator) × (members_view l.all.entries ≡ members_back (members_view done))
