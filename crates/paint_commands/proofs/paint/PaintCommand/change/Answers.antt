use Rattle.std.proofs.Common.{◌∙◌}
use Rattle.paint_commands.proofs.Paints.{difference-after, difference-before}
use Rattle.paint_commands.proofs.paint.PaintCommand.change.Goals as goal

pub returns-clause-redo : goal.returns-clause-redo
returns-clause-redo c =
    let p = c.args.self.now in
    λ d fits. c.as_slice.ensures.cells ∙ difference-after p.is_made p.layer p.cells d fits.0 fits.1.fits

pub returns-clause-undo : goal.returns-clause-undo
returns-clause-undo c =
    let p = c.args.self.now in
    λ d fits. c.as_slice.ensures.cells ∙ difference-before p.is_made p.layer p.cells d fits.0 fits.1.fits
