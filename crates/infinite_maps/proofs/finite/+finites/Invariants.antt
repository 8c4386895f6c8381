use Rattle.std.proofs.Common.{◌≡◌, List, ◌++◌, take, drop, map, true}
use Rattle.serde_json.specs.View.{view, items_view, members_view}
use Rattle.serde_json.proofs.Views.{Entry}
use Rattle.infinite_maps.specs.declared.fault.Fault.{Fault}
use Rattle.infinite_maps.specs.Finite.{finite, members_finite, are_blamed, members_blamed}
use Rattle.infinite_maps.proofs.finite.+finites.Given as goal

abbrev pub invariant-finite_items-loop-item : goal.invariant-finite_items-loop-item
invariant-finite_items-loop-item l =
    (map view l.all.items ≡ map (λ v. finite l.plane l.part (view v)) (take l.item-index l.item-items))
    × ((f : Fault) → are_blamed f l.part (items_view (drop l.item-index l.item-items)) ≡ true → are_blamed f l.part (items_view l.item-items) ≡ true)

abbrev pub invariant-finite_members-loop-key : goal.invariant-finite_members-loop-key
invariant-finite_members-loop-key l =
    (done : List Entry) × (l.members.entries ≡ done ++ l.key-iterator) × (members_view l.all.entries ≡ members_finite l.plane l.part (members_view done))
    × ((f : Fault) → members_blamed f l.part (members_view l.key-iterator) ≡ true → members_blamed f l.part (members_view l.members.entries) ≡ true)
