use Rattle.std.proofs.Common.{sym, ap, ◌∙◌, ◌-◌}
use Rattle.std.specs.List.{flat_map}
use Rattle.std.specs.Option.{option_copied}
use Rattle.map_model.specs.Groups.{drawn, tree}
use Rattle.map_model.specs.Keeping.{layer_tier}
use Rattle.edits.proofs.ResizedTrees.{on_then}
use Rattle.layer_commands.specs.Extending.{layer_notes}
use Rattle.layer_commands.proofs.NotedTrees.{notes-group, notes-list, notes-no_group, notes-no_groups, pushed-both, pushed-next}
use Rattle.layer_commands.proofs.notes.+push.Goals as goal

pub push_layer-returns-then-groups-eq0 : goal.push_layer-returns-then-groups-eq0
push_layer-returns-then-groups-eq0 t c = rw (notes-no_groups c.args.by c.args.groups c.args.layer.now c.if-groups-eq0.true) c.in_ok-push_note.ensures

pub push_layer-returns-in-Some : goal.push_layer-returns-in-Some
push_layer-returns-in-Some t c =
    let l = c.args.layer.now in
    let ks = c.in-Some.inside.now in
    let by = c.args.by in
    let group = sym c.layers.ensures ∙ ap option_copied c.in-Some.is in
    on_then c.push_layers.result c.push_layers.ensures (λ e.
    pushed-both c.args.notes.now.items c.push_note.new.notes.items c.push_layers.new.notes.items (layer_notes by (layer_tier, l))
    (flat_map (layer_notes by) (drawn (c.args.groups - 1) layer_tier ks)) (flat_map (layer_notes by) (tree c.args.groups layer_tier l))
    c.in_ok-push_note.ensures e
    (notes-group by c.args.groups l ks c.if-groups-eq0.false group))

pub push_layer-returns-in-None : goal.push_layer-returns-in-None
push_layer-returns-in-None t c =
    let none = sym c.layers.ensures ∙ ap option_copied c.in-None.is in
    rw (notes-no_group c.args.by c.args.groups c.args.layer.now none) c.in_ok-push_note.ensures

pub push_layers-loop-layer-preserved : goal.push_layers-loop-layer-preserved
push_layers-loop-layer-preserved t c =
    let by = c.args.by in
    pushed-next c.loop-layer.notes.items c.push_layer.new.notes.items _ (flat_map (layer_notes by) (tree c.args.groups layer_tier c.in-Some.layer.now)) _ _
    c.in_ok-push_layer.ensures (rw c.in-Some.ensures.steps at c.loop-layer.invariant) (notes-list by c.args.groups c.in-Some.layer.now _)
