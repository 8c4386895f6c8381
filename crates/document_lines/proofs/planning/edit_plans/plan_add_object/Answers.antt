use Rattle.std.proofs.Common.{rules}
use Rattle.std.proofs.lemmas.Int.{to_z-of_z}
use mir.Syntax.{w32}
use mir.Val.{SFits}
use Rattle.object_commands.specs.Names.{add_object_names}
use Rattle.document_lines.specs.declared.planned.Edit.TheVariants.{AddObject}
use Rattle.document_lines.proofs.Edits.{mapped-PlansEdit}
use Rattle.document_lines.proofs.planning.edit_plans.plan_add_object.Goals as goal

pub returns : goal.returns
returns c =
    let a = c.args.area.now in
    let x : SFits w32 a.x = search rules in
    let y : SFits w32 a.y = search rules in
    let command = rw (c.as_str-name.ensures, to_z-of_z w32 a.x x, to_z-of_z w32 a.y y) at c.new.ensures.command in
    let refusal = rw (c.as_str-name.ensures, to_z-of_z w32 a.x x, to_z-of_z w32 a.y y) at c.new.ensures.refusal in
    rw c.planned.ensures (mapped-PlansEdit AddObject add_object_names c.args.document.now _ c.new.result c.map.result command refusal c.map.ensures.cases)
