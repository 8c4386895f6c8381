use Rattle.property_commands.specs.Names.{remove_property_names}
use Rattle.document_lines.specs.declared.planned.Edit.TheVariants.{RemoveProperty}
use Rattle.document_lines.proofs.Edits.{exact-PlansEdit}
use Rattle.document_lines.proofs.planning.edit_plans.plan_remove_property.Goals as goal

pub returns : goal.returns
returns c =
    let command = rw c.as_str.ensures at c.new.ensures.command in
    let refusal = rw c.as_str.ensures at c.new.ensures.refusal in
    rw c.planned.ensures (exact-PlansEdit RemoveProperty remove_property_names c.args.document.now _ c.new.result c.map.result command refusal
    c.map.ensures.cases)
