use Rattle.member_commands.specs.Changes.{set_head_change}
use Rattle.member_commands.specs.Edits.{after_put_members, is_early}
use Rattle.member_commands.specs.Names.{put_members_names}
use Rattle.document_lines.proofs.MoreEdits.{made-PlansEdit}
use Rattle.document_lines.proofs.planning.member_plans.plan_put.Goals as goal

pub returns : goal.returns
returns g c =
    let p = g.H.Head.parts in
    let command = rw (c.as_str.ensures) at c.put-command.ensures.command in
    let refusal = rw (c.as_str.ensures) at c.put-command.ensures.refusal in
    made-PlansEdit (set_head_change p) (put_members_names (p.owner c.args.id) c.args.follows) c.args.document.now is_early
    (after_put_members p c.args.fractions c.args.document.now c.args.id c.args.json.now) c.put-command.result c.planned.result command refusal c.planned.ensures
