use Rattle.std.proofs.Common.{sym, ap, ◌∙◌, arith}
use Rattle.std.specs.Option.{option_copied}
use Rattle.map_model.specs.Keeping.{layer_tier}
use Rattle.map_model.proofs.Walks.{count-group, count-no_group, count-no_groups}
use Rattle.map_model.proofs.groups.+count.Goals as goal

pub count_under-returns-then-groups-eq0 : goal.count_under-returns-then-groups-eq0
count_under-returns-then-groups-eq0 t c = count-no_groups c.args.groups layer_tier c.args.layer.now c.if-groups-eq0.true

pub count_under-count_in-requires : goal.count_under-count_in-requires
count_under-count_in-requires t c =
    let less = count-group c.args.groups c.args.layer.now c.in-Some.inside.now c.if-groups-eq0.false (sym c.layers.ensures ∙ ap option_copied c.in-Some.is) in
    (omega (arith, c.decreases, c.if-groups-eq0.false), omega (arith, less, c.requires))

pub count_under-overflow_add-result : goal.count_under-overflow_add-result
count_under-overflow_add-result t c =
    let less = count-group c.args.groups c.args.layer.now c.in-Some.inside.now c.if-groups-eq0.false (sym c.layers.ensures ∙ ap option_copied c.in-Some.is) in
    omega (arith, c.count_in.ensures, less, c.requires)

pub count_under-returns-in-Some : goal.count_under-returns-in-Some
count_under-returns-in-Some t c =
    let less = count-group c.args.groups c.args.layer.now c.in-Some.inside.now c.if-groups-eq0.false (sym c.layers.ensures ∙ ap option_copied c.in-Some.is) in
    omega (arith, c.count_in.ensures, less)

pub count_under-returns-in-None : goal.count_under-returns-in-None
count_under-returns-in-None t c = count-no_group c.args.groups layer_tier c.args.layer.now (sym c.layers.ensures ∙ ap option_copied c.in-None.is)
