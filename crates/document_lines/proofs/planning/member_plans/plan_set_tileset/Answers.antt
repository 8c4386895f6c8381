use Rattle.map_model.specs.declared.owner.MemberOwner.TheVariants as owners
use Rattle.member_commands.specs.Changes.{set_tileset_change}
use Rattle.member_commands.specs.Edits.{after_set_member, is_early_named}
use Rattle.member_commands.specs.Names.{set_member_names}
use Rattle.member_commands.specs.Tilesets.{tileset_heads}
use Rattle.document_lines.proofs.MoreEdits.{made-PlansEdit}
use Rattle.document_lines.proofs.planning.member_plans.plan_set_tileset.Goals as goal

pub returns : goal.returns
returns c =
    let command = rw (c.as_str-name.ensures, c.as_str-json.ensures) at c.set_tileset_member-command.ensures.command in
    let refusal = rw (c.as_str-name.ensures, c.as_str-json.ensures) at c.set_tileset_member-command.ensures.refusal in
    made-PlansEdit set_tileset_change (set_member_names (owners.Tileset c.args.first_id) c.args.name.now c.args.follows) c.args.document.now is_early_named
    (after_set_member tileset_heads c.args.fractions c.args.document.now c.args.first_id c.args.name.now c.args.json.now) c.set_tileset_member-command.result
    c.planned_tileset.result command refusal c.planned_tileset.ensures
