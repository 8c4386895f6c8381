use Rattle.object_commands.specs.Names.{resize_object_names}
use Rattle.document_lines.specs.declared.planned.Edit.TheVariants.{PlaceObject}
use Rattle.document_lines.proofs.Edits.{exact-PlansEdit}
use Rattle.document_lines.proofs.planning.edit_plans.plan_resize_object.Goals as goal

pub returns : goal.returns
returns c =
    rw c.planned.ensures (exact-PlansEdit PlaceObject resize_object_names c.args.document.now _ c.resized.result c.map.result c.resized.ensures.command
    c.resized.ensures.refusal c.map.ensures.cases)
