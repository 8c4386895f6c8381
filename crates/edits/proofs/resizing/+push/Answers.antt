use Rattle.std.proofs.Common.{sym, ap, ◌∙◌, ◌*◌, ◌-◌, arith}
use Rattle.std.specs.List.{flat_map}
use Rattle.std.specs.Option.{option_copied}
use Rattle.map_model.specs.Canvas.{lists_in, lists_of, lists_under, AreCells}
use Rattle.map_model.specs.Groups.{drawn}
use Rattle.map_model.specs.Keeping.{layer_tier}
use Rattle.map_model.proofs.CanvasTrees.{lists_under-list}
use Rattle.edits.specs.Resizing.{resized_values}
use Rattle.edits.proofs.ResizedTrees.{group-each, list-each, on_then, own-each, pushed-first, pushed-two, under-group, under-no_group, under-no_groups}
use Rattle.edits.proofs.resizing.+push.Goals as goal

pub push_layer-push_cells-requires-clause-cells : goal.push_layer-push_cells-requires-clause-cells
push_layer-push_cells-requires-clause-cells t c =
    own-each (AreCells (c.args.parts.now.width * c.args.parts.now.height)) c.args.groups c.args.layer.now c.requires.cells

pub push_layer-returns-then-groups-eq0 : goal.push_layer-returns-then-groups-eq0
push_layer-returns-then-groups-eq0 t c = rw (under-no_groups c.args.groups c.args.layer.now c.if-groups-eq0.true) c.in_ok-push_cells.ensures

pub push_layer-push_layers-requires : goal.push_layer-push_layers-requires
push_layer-push_layers-requires t c =
    let group = sym c.layers.ensures ∙ ap option_copied c.in-Some.is in
    let cells = group-each (AreCells (c.args.parts.now.width * c.args.parts.now.height)) c.args.groups c.args.layer.now c.in-Some.inside.now
    c.if-groups-eq0.false
    group c.requires.cells in
    (omega (arith, c.decreases, c.if-groups-eq0.false), (cells, (c.requires.width, c.requires.height)))

pub push_layer-returns-in-Some : goal.push_layer-returns-in-Some
push_layer-returns-in-Some t c =
    let l = c.args.layer.now in
    let ks = c.in-Some.inside.now in
    let to = c.args.to in
    let group = sym c.layers.ensures ∙ ap option_copied c.in-Some.is in
    on_then c.push_layers.result c.push_layers.ensures (λ e.
    pushed-two (resized_values c.args.parts.now to.width to.height to.dx to.dy) c.args.lists.now.items c.push_cells.new.lists.items
    c.push_layers.new.lists.items
    (lists_in l.body) (flat_map lists_of (drawn (c.args.groups - 1) layer_tier ks)) (lists_under c.args.groups l) c.in_ok-push_cells.ensures e
    (under-group c.args.groups l ks c.if-groups-eq0.false group))

pub push_layer-returns-in-None : goal.push_layer-returns-in-None
push_layer-returns-in-None t c =
    let none = sym c.layers.ensures ∙ ap option_copied c.in-None.is in
    rw (under-no_group c.args.groups c.args.layer.now none) c.in_ok-push_cells.ensures

pub push_layers-push_layer-requires : goal.push_layers-push_layer-requires
push_layers-push_layer-requires t c =
    let cells = list-each (AreCells (c.args.parts.now.width * c.args.parts.now.height)) c.args.groups c.in-Some.layer.now _
    (rw c.in-Some.ensures.steps at c.loop-layer.invariant.cells) in
    (omega (arith, c.decreases), (cells.0, (c.requires.width, c.requires.height)))

pub push_layers-loop-layer-preserved : goal.push_layers-loop-layer-preserved
push_layers-loop-layer-preserved t c =
    let to = c.args.to in
    let cells = list-each (AreCells (c.args.parts.now.width * c.args.parts.now.height)) c.args.groups c.in-Some.layer.now _
    (rw c.in-Some.ensures.steps at c.loop-layer.invariant.cells) in
    record {
      lists = pushed-first (resized_values c.args.parts.now to.width to.height to.dx to.dy) c.loop-layer.lists.items c.push_layer.new.lists.items _
          (lists_under c.args.groups c.in-Some.layer.now) _ _
          c.in_ok-push_layer.ensures (rw c.in-Some.ensures.steps at c.loop-layer.invariant.lists) (lists_under-list c.args.groups c.in-Some.layer.now _);
      cells = cells.1;
    }
