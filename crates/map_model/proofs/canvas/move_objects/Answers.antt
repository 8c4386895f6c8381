use Rattle.std.proofs.Common.{rules}
use Rattle.map_model.specs.Canvas.{MayBeMoved}
use Rattle.map_model.specs.Objects.{object_moved}
use Rattle.map_model.proofs.CanvasSteps.{by_each, mapped-by}
use Rattle.map_model.proofs.canvas.move_objects.Goals as goal

pub change_each-requires : goal.change_each-requires
change_each-requires c = by_each (MayBeMoved c.args.right c.args.down) _ c.args.objects.now (λ o fits p is. search rules) c.requires

pub returns : goal.returns
returns c = mapped-by _ (object_moved c.args.right c.args.down) c.args.objects.now _ (λ o left call. search rules) c.change_each.ensures
