use Rattle.std.proofs.Common.{refl, false, rules}
use Rattle.edits.specs.Filling.{after_fill}
use Rattle.edits.specs.Painting.{IsPainted}
use Rattle.paint_commands.specs.declared.paint.PaintKind.TheVariants.{Fill}
use Rattle.paint_commands.specs.Names.{fill_names}
use Rattle.paint_commands.proofs.Paints.{paint_made}
use Rattle.paint_commands.proofs.paint.PaintCommand.fill.Goals as goal

pub returns-clause-command : goal.returns-clause-command
returns-clause-command c =
    let d = c.args.document.now in
    let after = after_fill d c.args.layer c.args.x c.args.y c.args.value in
    let is : IsPainted d c.args.layer after c.in_ok-change.change = search rules in
    rw c.of_change.ensures (paint_made d c.args.layer after c.in_ok-change.change is Fill false fill_names refl refl)
