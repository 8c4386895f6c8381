use Rattle.std.proofs.Common.{◌≡◌, ◌≤◌, length, true, false, Ok, sym, ◌∙◌, arith}
use Rattle.map_model.specs.Moving.{layer_fits, tier_in}
use Rattle.edits.specs.LayerEdits.{has_room_for, siblings_or_fault}
use Rattle.layer_commands.proofs.Putting.{full-refused, put-IsOk, put_made, room-is}
use Rattle.layer_commands.proofs.add.AddLayer.put.Goals as goal

pub returns-then-not-has_room_for-clause-refusal : goal.returns-then-not-has_room_for-clause-refusal
returns-then-not-has_room_for-clause-refusal c =
    let d = c.args.document.now in
    let l = c.args.given.layer in
    let ls = c.in_ok-layers.layers.now in
    let are : siblings_or_fault d.map c.args.parent ≡ Ok ls = rw c.map-map.ensures at c.in_ok-layers.ensures in
    let low : c.args.place ≤ length ls = omega (arith, c.if-at-len.false, c.len.ensures.value) in
    let fits : layer_fits (tier_in d.map c.args.parent) l ≡ true = rw c.map-map.ensures at (sym c.layer_fits.ensures ∙ c.if-not-layer_fits.false) in
    let same = room-is d.map l c.args.given.ids.layers.items c.requires.layers in
    let full : has_room_for d.map l ≡ false = sym same ∙ rw c.map-map.ensures at (sym c.has_room_for.ensures ∙ c.if-not-has_room_for.true) in
    full-refused d c.args.parent c.args.place l ls are low fits full

pub returns-in-Ok-clause-command : goal.returns-in-Ok-clause-command
returns-in-Ok-clause-command c =
    let d = c.args.document.now in
    let l = c.args.given.layer in
    let ls = c.in_ok-layers.layers.now in
    let are : siblings_or_fault d.map c.args.parent ≡ Ok ls = rw c.map-map.ensures at c.in_ok-layers.ensures in
    let low : c.args.place ≤ length ls = omega (arith, c.if-at-len.false, c.len.ensures.value) in
    let fits : layer_fits (tier_in d.map c.args.parent) l ≡ true = rw c.map-map.ensures at (sym c.layer_fits.ensures ∙ c.if-not-layer_fits.false) in
    let same = room-is d.map l c.args.given.ids.layers.items c.requires.layers in
    let room : has_room_for d.map l ≡ true = sym same ∙ rw c.map-map.ensures at (sym c.has_room_for.ensures ∙ c.if-not-has_room_for.false) in
    rw (c.next_ids-next.ensures.ids, c.map-map.ensures) (
    put_made d c.args.parent c.args.place l ls c.above_all-raised.result c.in-Ok.layer c.in-Ok.ensures.ok are low fits room c.requires.new
    (rw (c.requires.layers, c.next_ids-next.ensures.ids, c.map-map.ensures) at c.above_all-raised.ensures.layer)
    (rw (c.requires.objects, c.next_ids-next.ensures.ids, c.map-map.ensures) at c.above_all-raised.ensures.object)
    (rw c.map-map.ensures at c.next_ids-next.ensures.well_formed)
    )

pub returns-clause-refusal : goal.returns-clause-refusal
returns-clause-refusal c =
    let d = c.args.document.now in
    let l = c.args.given.layer in
    let ls = c.in_ok-layers.layers.now in
    let are : siblings_or_fault d.map c.args.parent ≡ Ok ls = rw c.map-map.ensures at c.in_ok-layers.ensures in
    let low : c.args.place ≤ length ls = omega (arith, c.if-at-len.false, c.len.ensures.value) in
    let fits : layer_fits (tier_in d.map c.args.parent) l ≡ true = rw c.map-map.ensures at (sym c.layer_fits.ensures ∙ c.if-not-layer_fits.false) in
    let same = room-is d.map l c.args.given.ids.layers.items c.requires.layers in
    let room : has_room_for d.map l ≡ true = sym same ∙ rw c.map-map.ensures at (sym c.has_room_for.ensures ∙ c.if-not-has_room_for.false) in
    put-IsOk d c.args.parent c.args.place l ls are low fits room
