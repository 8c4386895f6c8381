use Rattle.std.proofs.Common.{◌≡◌}
use Rattle.map_model.specs.Groups.{drawn}
use Rattle.map_model.proofs.Tiers.{tier_found}
use Rattle.map_model.proofs.groups.+find_tier.Given as goal

abbrev pub decreases-find_tier : goal.decreases-find_tier
decreases-find_tier a = a.groups

abbrev pub invariant-loop-layer : goal.invariant-loop-layer
invariant-loop-layer l = tier_found l.id (drawn l.groups l.tier l.layer-iterator) ≡ tier_found l.id (drawn l.groups l.tier l.fn.layers)
