use Rattle.layer_commands.specs.Names.{rename_names}
use Rattle.document_lines.specs.declared.planned.Edit.TheVariants.{RenameLayer}
use Rattle.document_lines.proofs.Edits.{mapped-PlansEdit}
use Rattle.document_lines.proofs.planning.edit_plans.plan_rename_layer.Goals as goal

pub returns : goal.returns
returns c =
    let command = rw c.as_str.ensures at c.new.ensures.command in
    let refusal = rw c.as_str.ensures at c.new.ensures.refusal in
    rw c.planned.ensures (mapped-PlansEdit RenameLayer rename_names c.args.document.now _ c.new.result c.map.result command refusal c.map.ensures.cases)
