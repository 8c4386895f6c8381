use Rattle.std.proofs.Common.{◌≡◌, drop, true}
use Rattle.serde_json.specs.View.{items_view, members_view}
use Rattle.infinite_maps.specs.Sound.{is_bad, items_some_layer, members_some_layer}
use Rattle.infinite_maps.specs.Survey.{with_each, with_groups}
use Rattle.infinite_maps.proofs.survey.+surveys.Given as goal

abbrev pub invariant-with_each-loop-layer : goal.invariant-with_each-loop-layer
invariant-with_each-loop-layer l =
    (with_each l.all (items_view (drop l.layer-index l.layer-items)) ≡ with_each l.fn.survey (items_view l.layer-items))
    × (items_some_layer is_bad (items_view (drop l.layer-index l.layer-items)) ≡ true → items_some_layer is_bad (items_view l.layer-items) ≡ true)

abbrev pub invariant-with_groups-loop-key : goal.invariant-with_groups-loop-key
invariant-with_groups-loop-key l =
    (with_groups l.all (members_view l.key-iterator) ≡ with_groups l.fn.survey (members_view l.members.entries))
    × (members_some_layer is_bad (members_view l.key-iterator) ≡ true → members_some_layer is_bad (members_view l.members.entries) ≡ true)
