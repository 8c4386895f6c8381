use Rattle.std.proofs.Common.{sym}
use Rattle.map_model.proofs.DrawnHere.{IsDrawnIn-own, IsDrawnIn-inside}
use Rattle.map_model.proofs.here.+find_here.Goals as goal

pub returns-then-layer-id-clause-drawn : goal.returns-then-layer-id-clause-drawn
returns-then-layer-id-clause-drawn t c = IsDrawnIn-own c.args.groups c.args.layers.now c.in_ok-layer.field-0-0 c.in_ok-layer.layer.now c.in_ok-layer.ensures

pub returns-clause-drawn : goal.returns-clause-drawn
returns-clause-drawn t c =
    IsDrawnIn-inside c.args.groups c.args.layers.now c.in_ok-layers.field-0.now c.in_ok-layer.field-0-0 c.in_ok-layer.layer.now
    (λ l. l.now) c.find_here.result c.in_ok-layer.ensures c.if-groups-eq0.false
    (sym c.in_ok-layers.ensures) c.find_here.ensures.drawn
