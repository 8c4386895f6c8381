use Rattle.std.proofs.Common.{◌≡◌, Some, None, sym, ap, ◌∙◌}
use Rattle.std.specs.Option.{option_copied}
use Rattle.map_model.specs.Groups.{drawn, tree}
use Rattle.map_model.proofs.Tiers.{tier_found, tier_found-append, tier-group, tier-no_group, tier-no_groups, tier-own}
use Rattle.map_model.proofs.groups.+find_tier.Goals as goal

pub returns-then-layer-id : goal.returns-then-layer-id
returns-then-layer-id t c =
    let l = c.in-Some.layer.now in
    let split = tier_found-append c.args.id (tree c.args.groups c.args.tier l) (drawn c.args.groups c.args.tier c.next.new.self) in
    let own = tier-own c.args.id c.args.groups c.args.tier l c.if-layer-id.true in
    let all = rw c.in-Some.ensures.steps at c.loop-layer.invariant in
    rw (split, own) at all

pub returns-in-Some-find_tier : goal.returns-in-Some-find_tier
returns-in-Some-find_tier t c =
    let l = c.in-Some.layer.now in
    let split = tier_found-append c.args.id (tree c.args.groups c.args.tier l) (drawn c.args.groups c.args.tier c.next.new.self) in
    let own : tier_found c.args.id (tree c.args.groups c.args.tier l) ≡ Some c.in-Some-find_tier.found =
    tier-group c.args.id c.args.groups c.args.tier l c.in-Some-layers.inside.now c.if-layer-id.false c.if-groups-eq0.false
    (sym c.layers.ensures ∙ ap option_copied c.in-Some-layers.is)
    ∙ sym c.find_tier.ensures ∙ c.in-Some-find_tier.is in
    let all = rw c.in-Some.ensures.steps at c.loop-layer.invariant in
    rw (split, own) at all

pub loop-layer-preserved-then-groups-eq0 : goal.loop-layer-preserved-then-groups-eq0
loop-layer-preserved-then-groups-eq0 t c =
    let l = c.in-Some.layer.now in
    let split = tier_found-append c.args.id (tree c.args.groups c.args.tier l) (drawn c.args.groups c.args.tier c.next.new.self) in
    let none = tier-no_groups c.args.id c.args.groups c.args.tier l c.if-layer-id.false c.if-groups-eq0.true in
    let all = rw c.in-Some.ensures.steps at c.loop-layer.invariant in
    rw (split, none) at all

pub loop-layer-preserved-in_default-find_tier : goal.loop-layer-preserved-in_default-find_tier
loop-layer-preserved-in_default-find_tier t c =
    let l = c.in-Some.layer.now in
    let split = tier_found-append c.args.id (tree c.args.groups c.args.tier l) (drawn c.args.groups c.args.tier c.next.new.self) in
    let none : tier_found c.args.id (tree c.args.groups c.args.tier l) ≡ None =
    tier-group c.args.id c.args.groups c.args.tier l c.in-Some-layers.inside.now c.if-layer-id.false c.if-groups-eq0.false
    (sym c.layers.ensures ∙ ap option_copied c.in-Some-layers.is)
    ∙ sym c.find_tier.ensures ∙ c.in_default-find_tier.is in
    let all = rw c.in-Some.ensures.steps at c.loop-layer.invariant in
    rw (split, none) at all

pub loop-layer-preserved : goal.loop-layer-preserved
loop-layer-preserved t c =
    let l = c.in-Some.layer.now in
    let split = tier_found-append c.args.id (tree c.args.groups c.args.tier l) (drawn c.args.groups c.args.tier c.next.new.self) in
    let none = tier-no_group c.args.id c.args.groups c.args.tier l c.if-layer-id.false (sym c.layers.ensures ∙ ap option_copied c.in_default.is) in
    let all = rw c.in-Some.ensures.steps at c.loop-layer.invariant in
    rw (split, none) at all
