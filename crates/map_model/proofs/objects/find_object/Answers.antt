use Rattle.std.proofs.Common.{rules}
use Rattle.map_model.specs.Objects.{has_object_id}
use Rattle.map_model.proofs.Passed.{find_is}
use Rattle.map_model.proofs.objects.find_object.Goals as goal

pub returns-clause-place : goal.returns-clause-place
returns-clause-place c = find_is _ _ (has_object_id c.args.id) (λ x b answers. search rules) c.find.result c.args.objects.now c.find.ensures.first
