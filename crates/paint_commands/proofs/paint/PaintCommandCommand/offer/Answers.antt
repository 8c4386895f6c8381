use Rattle.paint_commands.proofs.Merges.{paint-offered}
use Rattle.paint_commands.proofs.paint.PaintCommandCommand.offer.Goals as goal

pub returns-in-Stamp-clause-law : goal.returns-in-Stamp-clause-law
returns-in-Stamp-clause-law c =
    let p = c.args.self.now in
    paint-offered p.kind p.layer p.follows p.is_made p.cells

pub returns-in-Erase-clause-law : goal.returns-in-Erase-clause-law
returns-in-Erase-clause-law c =
    let p = c.args.self.now in
    paint-offered p.kind p.layer p.follows p.is_made p.cells
