use Rattle.std.proofs.Common.{false}
use Rattle.property_commands.specs.Names.{put_property_names}
use Rattle.document_lines.specs.declared.planned.Edit.TheVariants.{PutProperty}
use Rattle.document_lines.proofs.MoreEdits.{mapped-PlansEdit}
use Rattle.document_lines.proofs.planning.given_plans.plan_put_property.Goals as goal

pub returns : goal.returns
returns c =
    let command = rw c.as_str.ensures at c.put_property.ensures.command in
    let refusal = rw c.as_str.ensures at c.put_property.ensures.refusal in
    rw c.planned_more.ensures (
    mapped-PlansEdit PutProperty put_property_names c.args.document.now (λ fault. false) _ c.put_property.result c.map.result command refusal
    c.map.ensures.cases
    )
