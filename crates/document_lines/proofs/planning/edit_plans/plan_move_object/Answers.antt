use Rattle.std.proofs.Common.{rules}
use Rattle.std.proofs.lemmas.Int.{to_z-of_z}
use mir.Syntax.{w32}
use mir.Val.{SFits}
use Rattle.object_commands.specs.Names.{move_object_names}
use Rattle.document_lines.specs.declared.planned.Edit.TheVariants.{PlaceObject}
use Rattle.document_lines.proofs.Edits.{exact-PlansEdit}
use Rattle.document_lines.proofs.planning.edit_plans.plan_move_object.Goals as goal

pub returns : goal.returns
returns c =
    let x : SFits w32 c.args.x = search rules in
    let y : SFits w32 c.args.y = search rules in
    let command = rw (to_z-of_z w32 c.args.x x, to_z-of_z w32 c.args.y y) at c.moved.ensures.command in
    let refusal = rw (to_z-of_z w32 c.args.x x, to_z-of_z w32 c.args.y y) at c.moved.ensures.refusal in
    rw c.planned.ensures (exact-PlansEdit PlaceObject (move_object_names c.args.object c.args.follows) c.args.document.now _ c.moved.result c.map.result command
    refusal c.map.ensures.cases)
