use Rattle.std.proofs.Common.{◌≡◌, Err, rules, ◌∙◌, arith}
use Rattle.map_values.specs.Presence.{Fails}
use Rattle.map_json.specs.Maps.{parts_of}
use Rattle.json_members.proofs.MembersLemmas.{get_member-without}
use Rattle.map_json.proofs.Parts.{next_object_refused, plain_taken, parts_of-with, layers_refused, tilesets_refused, properties_refused, parts_read}
use Rattle.map_json.proofs.reading.parts_of.Goals as goal

pub returns-in_err-next_object_id : goal.returns-in_err-next_object_id
returns-in_err-next_object_id g c =
    let f = c.in_err-next_object_id.field-0.0 in
    let is : parts_of c.args.members ≡ Err f
    = next_object_refused c.args.members c.required_whole.new.members c.required_whole-2.new.members c.required_whole-3.new.members
    c.required_whole-4.new.members c.truth_or.new.members c.required_next_id.new.members
    c.in_ok-width.width c.in_ok-height.height c.in_ok-tile_width.tile_width c.in_ok-tile_height.tile_height c.in_ok-next_layer_id.next_layer_id
    c.in_ok-truth_or.field-0
    c.required_whole.ensures.left c.required_whole-2.ensures.left c.required_whole-3.ensures.left c.required_whole-4.ensures.left c.truth_or.ensures.left
    c.required_next_id.ensures.left
    c.in_ok-width.ensures.value c.in_ok-height.ensures.value c.if-width-height-gt-MAX_CELLS.false c.in_ok-tile_width.ensures.value
    c.in_ok-tile_height.ensures.value
    c.in_ok-truth_or.ensures.value c.if-branch.false c.in_ok-next_layer_id.ensures.value
    f c.in_err-next_object_id.ensures.value in
    search rules

pub returns-in_err-layers : goal.returns-in_err-layers
returns-in_err-layers g c =
    let taken = plain_taken c.args.members c.required_whole.new.members c.required_whole-2.new.members c.required_whole-3.new.members
    c.required_whole-4.new.members c.truth_or.new.members c.required_next_id.new.members
    c.in_ok-width.width c.in_ok-height.height c.in_ok-tile_width.tile_width c.in_ok-tile_height.tile_height c.in_ok-next_layer_id.next_layer_id
    c.in_ok-truth_or.field-0
    c.required_whole.ensures.left c.required_whole-2.ensures.left c.required_whole-3.ensures.left c.required_whole-4.ensures.left c.truth_or.ensures.left
    c.required_next_id.ensures.left
    c.in_ok-width.ensures.value c.in_ok-height.ensures.value c.if-width-height-gt-MAX_CELLS.false c.in_ok-tile_width.ensures.value
    c.in_ok-tile_height.ensures.value
    c.in_ok-truth_or.ensures.value c.if-branch.false c.in_ok-next_layer_id.ensures.value
    c.required_next_id-2.new.members c.in_ok-next_object_id.next_object_id c.required_next_id-2.ensures.left c.in_ok-next_object_id.ensures.value in
    let whole = parts_of-with c.args.members c.required_whole.new.members c.required_whole-2.new.members c.required_whole-3.new.members
    c.required_whole-4.new.members c.truth_or.new.members c.required_next_id.new.members
    c.in_ok-width.width c.in_ok-height.height c.in_ok-tile_width.tile_width c.in_ok-tile_height.tile_height c.in_ok-next_layer_id.next_layer_id
    c.in_ok-truth_or.field-0
    c.required_whole.ensures.left c.required_whole-2.ensures.left c.required_whole-3.ensures.left c.required_whole-4.ensures.left c.truth_or.ensures.left
    c.required_next_id.ensures.left
    c.in_ok-width.ensures.value c.in_ok-height.ensures.value c.if-width-height-gt-MAX_CELLS.false c.in_ok-tile_width.ensures.value
    c.in_ok-tile_height.ensures.value
    c.in_ok-truth_or.ensures.value c.if-branch.false c.in_ok-next_layer_id.ensures.value
    c.required_next_id-2.new.members c.in_ok-next_object_id.next_object_id c.required_next_id-2.ensures.left c.in_ok-next_object_id.ensures.value in
    let f = c.in_err-layers.field-0.0 in
    let is : Fails f (parts_of c.args.members) = rw whole (layers_refused c.args.members c.required_next_id-2.new.members c.in_ok-width.width
    c.in_ok-height.height c.in_ok-tile_width.tile_width c.in_ok-tile_height.tile_height c.in_ok-next_layer_id.next_layer_id
    c.in_ok-next_object_id.next_object_id taken
    f c.in_err-layers.ensures.value) in
    search rules

pub returns-in_err-tilesets : goal.returns-in_err-tilesets
returns-in_err-tilesets g c =
    let taken = plain_taken c.args.members c.required_whole.new.members c.required_whole-2.new.members c.required_whole-3.new.members
    c.required_whole-4.new.members c.truth_or.new.members c.required_next_id.new.members
    c.in_ok-width.width c.in_ok-height.height c.in_ok-tile_width.tile_width c.in_ok-tile_height.tile_height c.in_ok-next_layer_id.next_layer_id
    c.in_ok-truth_or.field-0
    c.required_whole.ensures.left c.required_whole-2.ensures.left c.required_whole-3.ensures.left c.required_whole-4.ensures.left c.truth_or.ensures.left
    c.required_next_id.ensures.left
    c.in_ok-width.ensures.value c.in_ok-height.ensures.value c.if-width-height-gt-MAX_CELLS.false c.in_ok-tile_width.ensures.value
    c.in_ok-tile_height.ensures.value
    c.in_ok-truth_or.ensures.value c.if-branch.false c.in_ok-next_layer_id.ensures.value
    c.required_next_id-2.new.members c.in_ok-next_object_id.next_object_id c.required_next_id-2.ensures.left c.in_ok-next_object_id.ensures.value in
    let whole = parts_of-with c.args.members c.required_whole.new.members c.required_whole-2.new.members c.required_whole-3.new.members
    c.required_whole-4.new.members c.truth_or.new.members c.required_next_id.new.members
    c.in_ok-width.width c.in_ok-height.height c.in_ok-tile_width.tile_width c.in_ok-tile_height.tile_height c.in_ok-next_layer_id.next_layer_id
    c.in_ok-truth_or.field-0
    c.required_whole.ensures.left c.required_whole-2.ensures.left c.required_whole-3.ensures.left c.required_whole-4.ensures.left c.truth_or.ensures.left
    c.required_next_id.ensures.left
    c.in_ok-width.ensures.value c.in_ok-height.ensures.value c.if-width-height-gt-MAX_CELLS.false c.in_ok-tile_width.ensures.value
    c.in_ok-tile_height.ensures.value
    c.in_ok-truth_or.ensures.value c.if-branch.false c.in_ok-next_layer_id.ensures.value
    c.required_next_id-2.new.members c.in_ok-next_object_id.next_object_id c.required_next_id-2.ensures.left c.in_ok-next_object_id.ensures.value in
    let f = c.in_err-tilesets.field-0.0 in
    let is : Fails f (parts_of c.args.members) = rw whole (tilesets_refused c.args.members c.required_next_id-2.new.members c.in_ok-width.width
    c.in_ok-height.height c.in_ok-tile_width.tile_width c.in_ok-tile_height.tile_height c.in_ok-next_layer_id.next_layer_id
    c.in_ok-next_object_id.next_object_id taken
    c.map_layers.new.members c.in_ok-layers.layers c.map_layers.ensures.left c.in_ok-layers.ensures.value f c.in_err-tilesets.ensures.value) in
    search rules

pub returns-in_err-properties : goal.returns-in_err-properties
returns-in_err-properties g c =
    let taken = plain_taken c.args.members c.required_whole.new.members c.required_whole-2.new.members c.required_whole-3.new.members
    c.required_whole-4.new.members c.truth_or.new.members c.required_next_id.new.members
    c.in_ok-width.width c.in_ok-height.height c.in_ok-tile_width.tile_width c.in_ok-tile_height.tile_height c.in_ok-next_layer_id.next_layer_id
    c.in_ok-truth_or.field-0
    c.required_whole.ensures.left c.required_whole-2.ensures.left c.required_whole-3.ensures.left c.required_whole-4.ensures.left c.truth_or.ensures.left
    c.required_next_id.ensures.left
    c.in_ok-width.ensures.value c.in_ok-height.ensures.value c.if-width-height-gt-MAX_CELLS.false c.in_ok-tile_width.ensures.value
    c.in_ok-tile_height.ensures.value
    c.in_ok-truth_or.ensures.value c.if-branch.false c.in_ok-next_layer_id.ensures.value
    c.required_next_id-2.new.members c.in_ok-next_object_id.next_object_id c.required_next_id-2.ensures.left c.in_ok-next_object_id.ensures.value in
    let whole = parts_of-with c.args.members c.required_whole.new.members c.required_whole-2.new.members c.required_whole-3.new.members
    c.required_whole-4.new.members c.truth_or.new.members c.required_next_id.new.members
    c.in_ok-width.width c.in_ok-height.height c.in_ok-tile_width.tile_width c.in_ok-tile_height.tile_height c.in_ok-next_layer_id.next_layer_id
    c.in_ok-truth_or.field-0
    c.required_whole.ensures.left c.required_whole-2.ensures.left c.required_whole-3.ensures.left c.required_whole-4.ensures.left c.truth_or.ensures.left
    c.required_next_id.ensures.left
    c.in_ok-width.ensures.value c.in_ok-height.ensures.value c.if-width-height-gt-MAX_CELLS.false c.in_ok-tile_width.ensures.value
    c.in_ok-tile_height.ensures.value
    c.in_ok-truth_or.ensures.value c.if-branch.false c.in_ok-next_layer_id.ensures.value
    c.required_next_id-2.new.members c.in_ok-next_object_id.next_object_id c.required_next_id-2.ensures.left c.in_ok-next_object_id.ensures.value in
    let f = c.in_err-properties.field-0.0 in
    let is : Fails f (parts_of c.args.members) = rw whole (properties_refused c.args.members c.required_next_id-2.new.members c.in_ok-width.width
    c.in_ok-height.height c.in_ok-tile_width.tile_width c.in_ok-tile_height.tile_height c.in_ok-next_layer_id.next_layer_id
    c.in_ok-next_object_id.next_object_id taken
    c.map_layers.new.members c.in_ok-layers.layers c.map_layers.ensures.left c.in_ok-layers.ensures.value
    c.required_tilesets.new.members c.in_ok-tilesets.tilesets c.required_tilesets.ensures.left c.in_ok-tilesets.ensures.value f
    c.in_err-properties.ensures.value) in
    search rules

pub returns : goal.returns
returns g c =
    let taken = plain_taken c.args.members c.required_whole.new.members c.required_whole-2.new.members c.required_whole-3.new.members
    c.required_whole-4.new.members c.truth_or.new.members c.required_next_id.new.members
    c.in_ok-width.width c.in_ok-height.height c.in_ok-tile_width.tile_width c.in_ok-tile_height.tile_height c.in_ok-next_layer_id.next_layer_id
    c.in_ok-truth_or.field-0
    c.required_whole.ensures.left c.required_whole-2.ensures.left c.required_whole-3.ensures.left c.required_whole-4.ensures.left c.truth_or.ensures.left
    c.required_next_id.ensures.left
    c.in_ok-width.ensures.value c.in_ok-height.ensures.value c.if-width-height-gt-MAX_CELLS.false c.in_ok-tile_width.ensures.value
    c.in_ok-tile_height.ensures.value
    c.in_ok-truth_or.ensures.value c.if-branch.false c.in_ok-next_layer_id.ensures.value
    c.required_next_id-2.new.members c.in_ok-next_object_id.next_object_id c.required_next_id-2.ensures.left c.in_ok-next_object_id.ensures.value in
    let whole = parts_of-with c.args.members c.required_whole.new.members c.required_whole-2.new.members c.required_whole-3.new.members
    c.required_whole-4.new.members c.truth_or.new.members c.required_next_id.new.members
    c.in_ok-width.width c.in_ok-height.height c.in_ok-tile_width.tile_width c.in_ok-tile_height.tile_height c.in_ok-next_layer_id.next_layer_id
    c.in_ok-truth_or.field-0
    c.required_whole.ensures.left c.required_whole-2.ensures.left c.required_whole-3.ensures.left c.required_whole-4.ensures.left c.truth_or.ensures.left
    c.required_next_id.ensures.left
    c.in_ok-width.ensures.value c.in_ok-height.ensures.value c.if-width-height-gt-MAX_CELLS.false c.in_ok-tile_width.ensures.value
    c.in_ok-tile_height.ensures.value
    c.in_ok-truth_or.ensures.value c.if-branch.false c.in_ok-next_layer_id.ensures.value
    c.required_next_id-2.new.members c.in_ok-next_object_id.next_object_id c.required_next_id-2.ensures.left c.in_ok-next_object_id.ensures.value in
    whole ∙ parts_read c.args.members c.required_next_id-2.new.members c.in_ok-width.width c.in_ok-height.height c.in_ok-tile_width.tile_width
    c.in_ok-tile_height.tile_height c.in_ok-next_layer_id.next_layer_id
    c.in_ok-next_object_id.next_object_id taken
    c.map_layers.new.members c.in_ok-layers.layers c.map_layers.ensures.left c.in_ok-layers.ensures.value
    c.required_tilesets.new.members c.in_ok-tilesets.tilesets c.required_tilesets.ensures.left c.in_ok-tilesets.ensures.value
    c.properties_or_none.new.members c.remove.new.self c.into_kept.result c.in_ok-properties.properties c.properties_or_none.ensures.left
    c.in_ok-properties.ensures.value c.remove.ensures
    (c.into_kept.ensures ∙ c.remove-2.ensures)

pub returns-in_err-height : goal.returns-in_err-height
unfolding parts_of
returns-in_err-height g c = grind (arith, get_member-without)

pub returns-then-width-height-gt-MAX_CELLS : goal.returns-then-width-height-gt-MAX_CELLS
unfolding parts_of
returns-then-width-height-gt-MAX_CELLS g c = grind (arith, get_member-without)

pub returns-in_err-tile_width : goal.returns-in_err-tile_width
unfolding parts_of
returns-in_err-tile_width g c = grind (arith, get_member-without)

pub returns-in_err-tile_height : goal.returns-in_err-tile_height
unfolding parts_of
returns-in_err-tile_height g c = grind (arith, get_member-without)

pub returns-in_err-truth_or : goal.returns-in_err-truth_or
unfolding parts_of
returns-in_err-truth_or g c = grind (arith, get_member-without)

pub returns-then-branch : goal.returns-then-branch
unfolding parts_of
returns-then-branch g c = grind (arith, get_member-without)

pub returns-in_err-next_layer_id : goal.returns-in_err-next_layer_id
unfolding parts_of
returns-in_err-next_layer_id g c = grind (arith, get_member-without)
