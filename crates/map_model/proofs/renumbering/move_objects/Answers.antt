use Rattle.std.proofs.Common.{rules}
use Rattle.map_model.specs.Lists.{Each}
use Rattle.map_model.specs.Renumbering.{KeepsTileset, object_with_value, value_moved}
use Rattle.map_model.specs.Tilesets.{gids_of}
use Rattle.map_model.proofs.CanvasSteps.{by_each, mapped-by}
use Rattle.map_model.proofs.RenumberedTrees.{Each-of}
use Rattle.map_model.proofs.renumbering.move_objects.Goals as goal

pub change_each-requires : goal.change_each-requires
change_each-requires c =
    by_each (λ o. Each (KeepsTileset c.args.by.low c.args.by.end c.args.by.to) (gids_of o)) _ c.args.objects.now (λ o fits p is. search rules)
    (Each-of (KeepsTileset c.args.by.low c.args.by.end c.args.by.to) gids_of c.args.objects.now c.requires.keep)

pub returns : goal.returns
returns c =
    mapped-by _ (object_with_value (value_moved c.args.by.low c.args.by.end c.args.by.to)) c.args.objects.now _ (λ o left call. search rules) c.change_each.ensures
