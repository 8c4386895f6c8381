use Rattle.member_commands.specs.Changes.{set_head_change}
use Rattle.member_commands.specs.Edits.{after_remove_member, is_early_named}
use Rattle.member_commands.specs.Names.{remove_member_names}
use Rattle.document_lines.proofs.MoreEdits.{made-PlansEdit}
use Rattle.document_lines.proofs.planning.member_plans.plan_remove.Goals as goal

pub returns : goal.returns
returns g c =
    let p = g.H.Head.parts in
    let command = rw (c.as_str.ensures) at c.remove-command.ensures.command in
    let refusal = rw (c.as_str.ensures) at c.remove-command.ensures.refusal in
    made-PlansEdit (set_head_change p) remove_member_names c.args.document.now is_early_named
    (after_remove_member p c.args.fractions c.args.document.now c.args.id c.args.name.now) c.remove-command.result c.planned.result command refusal
    c.planned.ensures
