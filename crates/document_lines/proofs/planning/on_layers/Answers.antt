use Rattle.std.proofs.Common.{refl, rules, sym}
use Rattle.std.proofs.lemmas.Int.{to_z-of_z}
use mir.Syntax.{w32}
use mir.Val.{SFits}
use Rattle.document_lines.proofs.planning.on_layers.Goals as goal

pub returns-in-Resize-clause-plans : goal.returns-in-Resize-clause-plans
returns-in-Resize-clause-plans g c =
    let dx : SFits w32 c.in-Resize.dx = search rules in
    let dy : SFits w32 c.in-Resize.dy = search rules in
    rw (c.in-Resize.is, sym c.document-in-Resize.ensures) (rw (to_z-of_z w32 c.in-Resize.dx dx, to_z-of_z w32 c.in-Resize.dy dy) at c.plan_resize.ensures, refl)
