use Rattle.std.proofs.Common.{sym, ap, ◌∙◌}
use mathlib.Core.List.{reverse}
use Rattle.std.specs.Option.{option_copied}
use Rattle.map_model.specs.Ways.{ArrivesAt}
use Rattle.map_model.proofs.Ways.{arrives-group, arrives-own, arrives-pushed}
use Rattle.map_model.proofs.groups.+near.Goals.{then-layer-id+in-Some-layers+else-groups-eq0+else-not-find_way_here, else-layer-id}
use Rattle.map_model.proofs.groups.+near.Goals as goal

pub returns-clause-way : goal.returns-clause-way
returns-clause-way t c done =
    let l = c.in-Some.layer.now in
    let arrives : ArrivesAt c.args.id (reverse c.if-layer-id.way'.items) l =
    elim c.if-layer-id.branch [
      | then-layer-id+in-Some-layers+else-groups-eq0+else-not-find_way_here w ↦
          rw w.way'-is (arrives-group c.args.id l w.in-Some-layers.inside.now _ (sym w.layers.ensures ∙ ap option_copied w.in-Some-layers.is)
          (w.find_way_here.ensures.way w.if-not-find_way_here.false))
      | else-layer-id w ↦ rw w.way'-is (arrives-own c.args.id l c.args.way.now.items c.requires.empty w.if-layer-id.false)
    ] in
    rw c.push.ensures.items (arrives-pushed c.args.id c.args.layers.now l c.if-layer-id.way'.items c.in-Some.at c.in-Some.ensures arrives)
