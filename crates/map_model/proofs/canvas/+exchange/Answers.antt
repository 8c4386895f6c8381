use Rattle.std.proofs.Common.{◌≤◌, arith}
use Rattle.map_model.specs.Canvas.{MayBeDrawn}
use Rattle.map_model.proofs.CanvasSteps.{Each-tree_at, alone-canvas, alone-layer, alone-next, inside-canvas, inside-layer, inside-may, inside-next}
use Rattle.map_model.proofs.CanvasSteps.{inside-groups}
use Rattle.map_model.proofs.CanvasSteps.{laid-layer, laid-next, laid-groups, length-laid, own-may, own-groups}
use Rattle.map_model.proofs.canvas.+exchange.Goals as goal

pub exchange_layer-exchange-number-requires-clause-groups : goal.exchange_layer-exchange-number-requires-clause-groups
exchange_layer-exchange-number-requires-clause-groups t c = own-groups c.args.groups c.args.canvas.now c.args.number c.args.layer.now c.requires.count

pub exchange_layer-exchange-number-requires-clause-objects : goal.exchange_layer-exchange-number-requires-clause-objects
exchange_layer-exchange-number-requires-clause-objects t c =
    own-may c.args.groups c.args.canvas.now c.args.number c.args.layer.now c.requires.count c.requires.objects

pub exchange_layer-returns-then-groups-eq0-clause-layer : goal.exchange_layer-returns-then-groups-eq0-clause-layer
exchange_layer-returns-then-groups-eq0-clause-layer t c =
    alone-layer c.args.groups c.args.canvas.now c.args.number c.args.layer.now c.requires.count c.if-groups-eq0.true c.exchange-number.new.self
    c.exchange-number.ensures.body

pub exchange_layer-returns-then-groups-eq0-clause-canvas : goal.exchange_layer-returns-then-groups-eq0-clause-canvas
exchange_layer-returns-then-groups-eq0-clause-canvas t c =
    alone-canvas c.args.groups c.args.canvas.now c.args.number c.args.layer.now c.requires.count c.if-groups-eq0.true c.exchange-number.new.canvas
    c.exchange-number.ensures.canvas

pub exchange_layer-returns-then-groups-eq0-clause-next : goal.exchange_layer-returns-then-groups-eq0-clause-next
exchange_layer-returns-then-groups-eq0-clause-next t c =
    alone-next c.args.groups c.args.canvas.now c.args.number c.args.layer.now c.requires.count c.if-groups-eq0.true c.exchange-number.result
    c.exchange-number.ensures.next

pub exchange_layer-exchange_inside-requires : goal.exchange_layer-exchange_inside-requires
exchange_layer-exchange_inside-requires t c =
    let some : 1 ≤ c.args.groups = omega (arith, c.if-groups-eq0.false) in
    let e = c.exchange-number.ensures in (
      omega (arith, c.decreases, some),
      (
        inside-groups c.args.groups c.args.canvas.now c.args.number c.args.layer.now c.requires.count some c.exchange-number.new.self
            c.exchange-number.new.canvas
            c.exchange-number.result e.body e.canvas e.next,
        inside-may c.args.groups c.args.canvas.now c.args.number c.args.layer.now c.requires.count some c.exchange-number.new.self c.exchange-number.new.canvas
            c.exchange-number.result e.body e.canvas e.next c.requires.objects,
      ),
    )

pub exchange_layer-returns-clause-layer : goal.exchange_layer-returns-clause-layer
exchange_layer-returns-clause-layer t c =
    let some : 1 ≤ c.args.groups = omega (arith, c.if-groups-eq0.false) in
    let e = c.exchange-number.ensures in
    inside-layer c.args.groups c.args.canvas.now c.args.number c.args.layer.now c.requires.count some c.exchange-number.new.self c.exchange-number.new.canvas
    c.exchange-number.result e.body e.canvas e.next c.exchange_inside.new.body c.exchange_inside.ensures.body

pub exchange_layer-returns-clause-canvas : goal.exchange_layer-returns-clause-canvas
exchange_layer-returns-clause-canvas t c =
    let some : 1 ≤ c.args.groups = omega (arith, c.if-groups-eq0.false) in
    let e = c.exchange-number.ensures in
    inside-canvas c.args.groups c.args.canvas.now c.args.number c.args.layer.now c.requires.count some c.exchange-number.new.self c.exchange-number.new.canvas
    c.exchange-number.result e.body e.canvas e.next c.exchange_inside.new.canvas c.exchange_inside.ensures.canvas

pub exchange_layer-returns-clause-next : goal.exchange_layer-returns-clause-next
exchange_layer-returns-clause-next t c =
    let some : 1 ≤ c.args.groups = omega (arith, c.if-groups-eq0.false) in
    let e = c.exchange-number.ensures in
    inside-next c.args.groups c.args.canvas.now c.args.number c.args.layer.now c.requires.count some c.exchange-number.new.self c.exchange-number.new.canvas
    c.exchange-number.result e.body e.canvas e.next c.exchange_inside.result c.exchange_inside.ensures.next

pub exchange_layers-get_mut-requires : goal.exchange_layers-get_mut-requires
exchange_layers-get_mut-requires t c =
    omega (
      arith,
      length-laid c.args.groups c.args.canvas.now c.args.number c.args.layers.now c.loop-at.layers c.loop-at.canvas c.loop-at.at c.loop-at.number
          c.loop-at.invariant,
    )

pub exchange_layers-exchange_layer-number-requires : goal.exchange_layers-exchange_layer-number-requires
exchange_layers-exchange_layer-number-requires t c =
    let l = c.get_mut.result.now in
    let there = laid-layer c.args.groups c.args.canvas.now c.args.number c.args.layers.now c.loop-at.layers c.loop-at.canvas c.loop-at.at c.loop-at.number l
    c.loop-at.invariant c.get_mut.ensures.value c.requires.count in (
      omega (arith, c.decreases),
      (
        laid-groups c.args.groups c.args.canvas.now c.args.number c.args.layers.now c.loop-at.layers c.loop-at.canvas c.loop-at.at c.loop-at.number l
            c.loop-at.invariant c.get_mut.ensures.value c.requires.count,
        rw c.loop-at.invariant.canvas (Each-tree_at (MayBeDrawn c.args.canvas.now.right c.args.canvas.now.down) c.args.groups c.args.layers.now c.loop-at.at l
            there c.requires.objects),
      ),
    )

pub exchange_layers-loop-at-preserved : goal.exchange_layers-loop-at-preserved
exchange_layers-loop-at-preserved t c =
    let e = c.exchange_layer-number.ensures in
    laid-next c.args.groups c.args.canvas.now c.args.number c.args.layers.now c.loop-at.layers c.loop-at.canvas c.loop-at.at c.loop-at.number
    c.get_mut.result.now
    c.loop-at.invariant c.get_mut.ensures.value c.requires.count
    c.exchange_layer-number.new.layer c.exchange_layer-number.new.canvas c.exchange_layer-number.result e.layer e.canvas e.next
