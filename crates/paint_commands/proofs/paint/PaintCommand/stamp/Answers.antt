use Rattle.std.proofs.Common.{refl, ap}
use Rattle.edits.specs.Blocks.{block_of}
use Rattle.edits.specs.Stamping.{after_stamp}
use Rattle.paint_commands.specs.declared.paint.PaintKind.TheVariants.{Stamp}
use Rattle.paint_commands.specs.Names.{stamp_names}
use Rattle.paint_commands.proofs.Paints.{paint_made}
use Rattle.paint_commands.proofs.paint.PaintCommand.stamp.Goals as goal

pub returns-clause-command : goal.returns-clause-command
returns-clause-command c =
    let is = c.in_ok-change.ensures.change in
    rw c.of_change.ensures (paint_made c.args.document.now c.args.layer (after_stamp c.args.document.now c.args.layer (block_of c.args.block.now))
    c.in_ok-change.change is
    Stamp c.args.follows (stamp_names c.args.layer c.args.follows) (ap (λ id. stamp_names id c.args.follows) is.exact.layer) refl)
