use Rattle.std.proofs.Common.{sym, ap, ◌∙◌}
use Rattle.std.specs.Option.{option_copied}
use Rattle.map_model.proofs.DrawnHere.{IsDrawnIn-own, IsDrawnIn-inside}
use Rattle.map_model.proofs.here.+innermost_here.Goals as goal

pub returns-then-groups-eq0 : goal.returns-then-groups-eq0
returns-then-groups-eq0 t c = IsDrawnIn-own c.args.groups c.args.layers.now c.in_ok-layer.field-0-0 c.in_ok-layer.layer.now c.in_ok-layer.ensures

pub returns-in-None : goal.returns-in-None
returns-in-None t c = IsDrawnIn-own c.args.groups c.args.layers.now c.in_ok-layer.field-0-0 c.in_ok-layer.layer.now c.in_ok-layer.ensures

pub returns-in-Some : goal.returns-in-Some
returns-in-Some t c =
    IsDrawnIn-inside c.args.groups c.args.layers.now c.in-Some.inside.now c.in_ok-layer.field-0-0 c.in_ok-layer.layer.now
    (λ l. l.now) c.innermost_here.result c.in_ok-layer.ensures c.if-groups-eq0.false
    (sym c.layers.ensures ∙ ap option_copied c.in-Some.is) c.innermost_here.ensures
