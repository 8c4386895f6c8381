use Rattle.std.proofs.Common.{rules, sym, ap, ◌∙◌}
use Rattle.std.proofs.lemmas.Int.{to_z-of_z}
use mir.Syntax.{w32}
use mir.Val.{SFits}
use Rattle.undo_stack.specs.History.{current}
use Rattle.document_lines.proofs.planning.on_cells.Goals as goal

pub returns-in-Erase-clause-plans : goal.returns-in-Erase-clause-plans
returns-in-Erase-clause-plans g c =
    let x : SFits w32 c.in-Erase.x = search rules in
    let y : SFits w32 c.in-Erase.y = search rules in
    let is = c.document.ensures ∙ ap current c.seek_layer.ensures.same in
    let plans = rw (c.area-area.ensures, to_z-of_z w32 c.in-Erase.x x, to_z-of_z w32 c.in-Erase.y y) at c.plan_erase.ensures in
    rw (c.in-Erase.is, sym is) (plans, c.seek_layer.ensures.same)

pub returns-in-Fill-clause-plans : goal.returns-in-Fill-clause-plans
returns-in-Fill-clause-plans g c =
    let x : SFits w32 c.in-Fill.x = search rules in
    let y : SFits w32 c.in-Fill.y = search rules in
    let is = c.document-in-Fill.ensures ∙ ap current c.seek_layer-in-Fill.ensures.same in
    rw (c.in-Fill.is, sym is) (rw (to_z-of_z w32 c.in-Fill.x x, to_z-of_z w32 c.in-Fill.y y) at c.plan_fill.ensures, c.seek_layer-in-Fill.ensures.same)
