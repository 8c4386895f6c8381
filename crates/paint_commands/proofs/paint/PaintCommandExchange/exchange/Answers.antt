use Rattle.std.proofs.Common.{◌≡◌, refl, ◌∙◌}
use Rattle.map_model.specs.Document.{painted}
use Rattle.paint_commands.specs.Painting.{side_of}
use Rattle.paint_commands.proofs.Paints.{cells-within, painted-painted, painted-IsDifference}
use Rattle.paint_commands.proofs.paint.PaintCommandExchange.exchange.Goals as goal

pub put-requires-clause-inside : goal.put-requires-clause-inside
put-requires-clause-inside c =
    let p = c.args.self.now in
    cells-within p.is_made p.layer p.cells c.args.document.now c.requires.fits

pub returns : goal.returns
returns c =
    let p = c.args.self.now in
    let d = c.args.document.now in
    let turned : c.put.new.document ≡ painted p.layer p.cells (side_of p.is_made) d =
    c.put.ensures.document ∙ rw c.side_to_put-side.ensures refl in
    record {
      document = turned;
      fits = rw turned (painted-IsDifference p.is_made p.layer p.cells d (rw turned at c.put.ensures.well_formed.map) c.requires.fits);
      back = rw turned (painted-painted p.is_made p.layer p.cells d c.requires.fits);
      names = refl;
      obsolete = refl;
      made = refl;
    }
