use Rattle.member_commands.specs.Changes.{set_head_change}
use Rattle.member_commands.specs.Edits.{after_set_member, is_early_named}
use Rattle.member_commands.specs.Names.{set_member_names}
use Rattle.document_lines.proofs.MoreEdits.{made-PlansEdit}
use Rattle.document_lines.proofs.planning.member_plans.plan_set.Goals as goal

pub returns : goal.returns
returns g c =
    let p = g.H.Head.parts in
    let command = rw (c.as_str-name.ensures, c.as_str-json.ensures) at c.set-command.ensures.command in
    let refusal = rw (c.as_str-name.ensures, c.as_str-json.ensures) at c.set-command.ensures.refusal in
    made-PlansEdit (set_head_change p) (set_member_names (p.owner c.args.id) c.args.name.now c.args.follows) c.args.document.now is_early_named
    (after_set_member p c.args.fractions c.args.document.now c.args.id c.args.name.now c.args.json.now) c.set-command.result c.planned.result command
    refusal c.planned.ensures
