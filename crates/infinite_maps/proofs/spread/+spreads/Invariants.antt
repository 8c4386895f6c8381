use Rattle.std.proofs.Common.{◌≡◌, List, ◌++◌, take, map}
use Rattle.serde_json.specs.View.{view, members_view}
use Rattle.serde_json.proofs.Views.{Entry}
use Rattle.infinite_maps.specs.Infinite.{spread, members_spread}
use Rattle.infinite_maps.proofs.spread.+spreads.Given as goal

abbrev pub invariant-items_spread-loop-item : goal.invariant-items_spread-loop-item
invariant-items_spread-loop-item l = map view l.all.items ≡ map (λ v. spread l.plane l.part (view v)) (take l.item-index l.item-items)

abbrev pub invariant-members_spread-loop-key : goal.invariant-members_spread-loop-key
invariant-members_spread-loop-key l =
    (done : List Entry) × (l.members.entries ≡ done ++ l.key-iterator) × (members_view l.all.entries ≡ members_spread l.plane l.part (members_view done))
