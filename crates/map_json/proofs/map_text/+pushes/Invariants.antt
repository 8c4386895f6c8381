use Rattle.std.proofs.Common.{◌≡◌, ◌+◌, ◌*◌, ◌++◌, false}
use Rattle.serde_json.specs.Written.{items_text}
use Rattle.map_model.specs.declared.names.TheConstants.{LAYERS}
use Rattle.map_json.specs.Appending.{AreWritten}
use Rattle.map_json.specs.Details.{layer_in, layers_in}
use Rattle.map_values.specs.Arrays.{items_by}
use Rattle.map_json.proofs.PutMembers.{ArePut}
use Rattle.map_values.proofs.Returning.{ItemsReturn}
use Rattle.map_json.proofs.map_text.+pushes.Given as goal

abbrev pub decreases-push_layer : goal.decreases-push_layer
decreases-push_layer l = 4 * l.groups

abbrev pub decreases-push_layers : goal.decreases-push_layers
decreases-push_layers l = 4 * l.groups + 1

abbrev pub decreases-push_member : goal.decreases-push_member
decreases-push_member l = 4 * l.groups + 2

abbrev pub decreases-push_framed : goal.decreases-push_framed
decreases-push_framed l = 4 * l.groups + 3

abbrev pub invariant-push_layers-loop-layer : goal.invariant-push_layers-loop-layer
invariant-push_layers-loop-layer l =
    let f = layer_in l.writing.detail l.groups l.writing.size.width l.writing.size.height in
    let left = items_by f l.layer-iterator in
    let all = items_by f l.layers in
    (l.text.items ++ items_text l.later left ≡ l.initial.text.items ++ items_text false all)
    × (ItemsReturn left → ItemsReturn all)
    × AreWritten l.groups (l.writing.size.width * l.writing.size.height) l.layer-iterator

abbrev pub invariant-push_framed-loop-name : goal.invariant-push_framed-loop-name
invariant-push_framed-loop-name l =
    ArePut LAYERS.now (layers_in l.writing.detail l.groups l.writing.size.width l.writing.size.height l.layers) l.frame l.initial.text.items
    l.initial.name-iterator l.name-iterator l.later l.text.items
