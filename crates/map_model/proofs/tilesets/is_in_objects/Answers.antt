use Rattle.std.proofs.Common.{rules}
use Rattle.std.specs.List.{list_any}
use Rattle.map_model.specs.Tilesets.{gids_of}
use Rattle.map_model.specs.Uses.{is_between}
use Rattle.map_model.proofs.Passed.{any_is}
use Rattle.map_model.proofs.tilesets.is_in_objects.Goals as goal

pub returns : goal.returns
returns c =
    any_is _ _ (λ o. list_any (is_between c.args.low c.args.end) (gids_of o)) (λ x b answers. search rules) c.any.result c.args.objects.now c.any.ensures
