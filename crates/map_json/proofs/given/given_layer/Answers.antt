use Rattle.serde_json.specs.View.{view as data_of}
use Rattle.map_json.proofs.NewLayers.{layer_given}
use Rattle.map_json.proofs.given.given_layer.Goals as goal

pub returns-clause-sound : goal.returns-clause-sound
returns-clause-sound c =
    layer_given c.args.map.now (data_of c.in_ok-tree.tree) c.in_ok-layer.layer c.new_layer.result c.in_ok-tree.ensures.readable
    c.in_ok-tree.ensures.whole c.in_ok-tree.ensures.shallow
    (rw (c.of_map.ensures.width, c.of_map.ensures.height, c.parts.ensures.value) at c.in_ok-layer.ensures) c.new_layer.ensures.layer
