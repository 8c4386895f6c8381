use Rattle.std.proofs.Common.{◌≡◌, refl, ◌∙◌}
use Rattle.map_model.specs.Document.{painted}
use Rattle.paint_commands.specs.Painting.{side_of}
use Rattle.paint_commands.proofs.Paints.{cells-within, painted-painted, painted-IsDifference}
use Rattle.own_commands.proofs.frame.FrameExchange.exchange.Goals as goal

pub put_edits-requires-clause-inside : goal.put_edits-requires-clause-inside
put_edits-requires-clause-inside c =
    let f = c.args.self.now in
    rw c.as_slice.ensures.cells (cells-within f.is_made f.layer f.cells c.args.document.now c.requires.fits)

pub returns : goal.returns
returns c =
    let f = c.args.self.now in
    let d = c.args.document.now in
    let turned : c.put_edits.new.self ≡ painted f.layer f.cells (side_of f.is_made) d =
    c.put_edits.ensures.document ∙ rw (c.as_slice.ensures.cells, c.side_to_put-side.ensures) refl in
    record {
      document = turned;
      fits = rw turned (painted-IsDifference f.is_made f.layer f.cells d (rw turned at c.put_edits.ensures.well_formed.map) c.requires.fits);
      back = rw turned (painted-painted f.is_made f.layer f.cells d c.requires.fits);
      names = refl;
      obsolete = refl;
      made = refl;
    }
