use Rattle.std.proofs.Common.{rules}
use Rattle.std.proofs.lemmas.Int.{to_z-of_z}
use mir.Syntax.{w32}
use mir.Val.{SFits}
use Rattle.layer_commands.specs.Names.{resize_names}
use Rattle.document_lines.specs.declared.planned.Edit.TheVariants.{ResizeMap}
use Rattle.document_lines.proofs.Edits.{mapped-PlansEdit}
use Rattle.document_lines.proofs.planning.edit_plans.plan_resize.Goals as goal

pub returns : goal.returns
returns c =
    let dx : SFits w32 c.args.dx = search rules in
    let dy : SFits w32 c.args.dy = search rules in
    let command = rw (to_z-of_z w32 c.args.dx dx, to_z-of_z w32 c.args.dy dy) at c.new.ensures.command in
    let refusal = rw (to_z-of_z w32 c.args.dx dx, to_z-of_z w32 c.args.dy dy) at c.new.ensures.refusal in
    rw c.planned.ensures (mapped-PlansEdit ResizeMap resize_names c.args.document.now _ c.new.result c.map.result command refusal c.map.ensures.cases)
