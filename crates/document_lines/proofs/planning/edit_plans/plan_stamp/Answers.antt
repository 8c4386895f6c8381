use Rattle.std.proofs.Common.{rules}
use Rattle.std.proofs.lemmas.Int.{to_z-of_z}
use mir.Syntax.{w32}
use mir.Val.{SFits}
use Rattle.paint_commands.specs.Names.{stamp_names}
use Rattle.document_lines.specs.declared.planned.Edit.TheVariants.{Paint}
use Rattle.document_lines.proofs.Edits.{mapped-PlansEdit, stamp-IsBlock}
use Rattle.document_lines.proofs.planning.edit_plans.plan_stamp.Goals as goal

pub stamp-requires : goal.stamp-requires
stamp-requires c =
    let x : SFits w32 c.args.block.now.x = search rules in
    let y : SFits w32 c.args.block.now.y = search rules in
    rw (c.as_slice.ensures, c.in-Ok.ensures, to_z-of_z w32 c.args.block.now.x x, to_z-of_z w32 c.args.block.now.y y)
    (stamp-IsBlock c.args.layer c.args.block.now.x c.args.block.now.y c.args.block.now.width c.args.block.now.values.now c.args.follows c.requires)

pub returns : goal.returns
returns c =
    let x : SFits w32 c.args.block.now.x = search rules in
    let y : SFits w32 c.args.block.now.y = search rules in
    let command = rw (c.as_slice.ensures, c.in-Ok.ensures, to_z-of_z w32 c.args.block.now.x x, to_z-of_z w32 c.args.block.now.y y) at c.stamp.ensures.command in
    let refusal = rw (c.as_slice.ensures, c.in-Ok.ensures, to_z-of_z w32 c.args.block.now.x x, to_z-of_z w32 c.args.block.now.y y) at c.stamp.ensures.refusal in
    rw c.planned.ensures
    (mapped-PlansEdit Paint (stamp_names c.args.layer c.args.follows) c.args.document.now _ c.stamp.result c.map.result command refusal c.map.ensures.cases)
