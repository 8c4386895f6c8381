use Rattle.std.proofs.Common.{rules, sym, ap, ◌∙◌}
use Rattle.std.proofs.lemmas.Int.{to_z-of_z}
use mir.Syntax.{w32}
use mir.Val.{SFits}
use Rattle.undo_stack.specs.History.{current}
use Rattle.document_lines.proofs.planning.on_stamp.Goals as goal

pub returns-clause-plans : goal.returns-clause-plans
returns-clause-plans g c =
    let x : SFits w32 c.in-Stamp.x = search rules in
    let y : SFits w32 c.in-Stamp.y = search rules in
    let is = c.document.ensures ∙ ap current c.seek_layer.ensures.same in
    rw (c.in-Stamp.is, sym is) (rw (to_z-of_z w32 c.in-Stamp.x x, to_z-of_z w32 c.in-Stamp.y y) at c.plan_stamp.ensures, c.seek_layer.ensures.same)
