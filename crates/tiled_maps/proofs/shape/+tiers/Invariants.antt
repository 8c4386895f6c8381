use Rattle.std.proofs.Common.{◌≡◌, drop}
use Rattle.std.specs.Prelude.{nat_le}
use Rattle.serde_json.specs.Data.{items_depth, members_depth}
use Rattle.serde_json.specs.View.{items_view, members_view}
use Rattle.tiled_maps.proofs.shape.+tiers.Given as goal

abbrev pub invariant-items_are_within-loop-item : goal.invariant-items_are_within-loop-item
invariant-items_are_within-loop-item l = nat_le (items_depth (items_view (drop l.item-index l.item-items))) l.tiers
    ≡ nat_le (items_depth (items_view l.item-items)) l.tiers

abbrev pub invariant-members_are_within-loop-key : goal.invariant-members_are_within-loop-key
invariant-members_are_within-loop-key l = nat_le (members_depth (members_view l._key-iterator)) l.tiers
    ≡ nat_le (members_depth (members_view l.members.entries)) l.tiers
