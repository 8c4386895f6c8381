use Rattle.std.proofs.Common.{◌≡◌, ◌∙◌}
use Rattle.layer_commands.proofs.Adding.{add_more_made, room-next}
use Rattle.layer_commands.proofs.add.AddLayer.new_more.Goals as goal

pub numbered-requires : goal.numbered-requires
numbered-requires c =
    let d = c.args.document.now in
    rw c.map-map.ensures (room-next d.map (rw (c.has_room.ensures, c.map-map.ensures) at c.if-not-has_room.false))

pub returns-in-Ok-clause-command : goal.returns-in-Ok-clause-command
returns-in-Ok-clause-command c =
    let d = c.args.document.now in
    let same : c.parts.result.now ≡ d.map = c.parts.ensures.value ∙ c.map-map.ensures in
    rw (c.numbered.ensures, c.map-map.ensures) (
    add_more_made d c.args.kind c.args.name.now c.in-Ok.layer c.utf8.name (rw same at c.in-Ok.ensures)
    (rw (c.has_room.ensures, c.map-map.ensures) at c.if-not-has_room.false)
    (rw c.map-map.ensures at c.parts.ensures.well_formed)
    )
