use Rattle.std.proofs.Common.{rules}
use Rattle.map_model.proofs.Keeps.{siblings_of-groups}
use Rattle.map_model.proofs.document.Document.insert_layer.Goals as goal

pub insert_layer_in-requires-clause-few : goal.insert_layer_in-requires-clause-few
insert_layer_in-requires-clause-few c = siblings_of-groups c.self-inside.inside.0.0.parts c.args.place (search rules) c.self-inside.invariant
