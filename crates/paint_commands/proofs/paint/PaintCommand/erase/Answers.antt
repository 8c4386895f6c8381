use Rattle.std.proofs.Common.{refl, ap}
use Rattle.edits.specs.Stamping.{after_erase}
use Rattle.paint_commands.specs.declared.paint.PaintKind.TheVariants.{Erase}
use Rattle.paint_commands.specs.Names.{erase_names}
use Rattle.paint_commands.proofs.Paints.{paint_made}
use Rattle.paint_commands.proofs.paint.PaintCommand.erase.Goals as goal

pub returns-clause-command : goal.returns-clause-command
returns-clause-command c =
    let is = c.in_ok-change.ensures.change in
    rw c.of_change.ensures (paint_made c.args.document.now c.args.layer (after_erase c.args.document.now c.args.layer c.args.area.now) c.in_ok-change.change is
    Erase c.args.follows (erase_names c.args.layer c.args.follows) (ap (λ id. erase_names id c.args.follows) is.exact.layer) refl)
