use Rattle.std.proofs.Common.{◌≡◌, Some, sym, ◌∙◌}
use Rattle.map_model.specs.Layers.{layer_place}
use Rattle.layer_commands.proofs.Moving.{move_asked}
use Rattle.layer_commands.proofs.move_layer.MoveLayer.new.Goals as goal

pub returns-clause-command : goal.returns-clause-command
returns-clause-command c =
    let d = c.args.document.now in
    let there : layer_place d.map c.args.layer ≡ Some c.in-Some.from = rw c.map-map.ensures at (sym c.layer_place.ensures.place ∙ c.in-Some.is) in
    rw c.sibling.ensures (
    move_asked d c.args.layer c.args.place c.in-Some.from there (rw (c.sibling_count.ensures, c.map-map.ensures) at c.if-at-sibling_count.false)
    (rw c.map-map.ensures at c.layer_place.ensures.well_formed)
    )
