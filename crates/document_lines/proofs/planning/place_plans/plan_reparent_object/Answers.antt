use Rattle.edits.specs.ObjectEdits.{after_object_into}
use Rattle.object_commands.specs.Names.{reparent_object_names}
use Rattle.document_lines.specs.declared.planned.Edit.TheVariants.{ReparentObject}
use Rattle.document_lines.proofs.Edits.{exact-PlansEdit}
use Rattle.document_lines.proofs.MoreEdits.{edit-answer}
use Rattle.document_lines.proofs.planning.place_plans.plan_reparent_object.Goals as goal

pub returns : goal.returns
returns c =
    let after = after_object_into c.args.document.now c.args.object c.args.layer c.args.place in
    rw (c.planned.ensures, edit-answer reparent_object_names after)
    (exact-PlansEdit ReparentObject reparent_object_names c.args.document.now after c.new.result c.map.result c.new.ensures.command c.new.ensures.refusal
    c.map.ensures.cases)
