use Rattle.std.proofs.Common.{rules}
use Rattle.std.proofs.lemmas.Int.{to_z-of_z}
use mir.Syntax.{w32}
use mir.Val.{SFits}
use Rattle.paint_commands.specs.Names.{fill_names}
use Rattle.document_lines.specs.declared.planned.Edit.TheVariants.{Paint}
use Rattle.document_lines.proofs.Edits.{mapped-PlansEdit}
use Rattle.document_lines.proofs.planning.edit_plans.plan_fill.Goals as goal

pub returns : goal.returns
returns c =
    let x : SFits w32 c.args.x = search rules in
    let y : SFits w32 c.args.y = search rules in
    let command = rw (to_z-of_z w32 c.args.x x, to_z-of_z w32 c.args.y y) at c.fill.ensures.command in
    let refusal = rw (to_z-of_z w32 c.args.x x, to_z-of_z w32 c.args.y y) at c.fill.ensures.refusal in
    rw c.planned.ensures (mapped-PlansEdit Paint fill_names c.args.document.now _ c.fill.result c.map.result command refusal c.map.ensures.cases)
