use Rattle.std.proofs.Common.{refl}
use Rattle.map_model.proofs.Renumbered.{renumbered-IsWellFormed, renumbered-back, renumbered-fits}
use Rattle.property_commands.proofs.number.NumberTilesetExchange.exchange.Goals as goal

pub returns : goal.returns
returns c =
    let own = c.args.self.now in
    let map = c.args.document.now.map in
    let fits = c.requires.fits in
    rw (c.swap.ensures.x_after, c.swap.ensures.y_after, c.renumber_tileset.ensures.document) (record {
      document = refl;
      fits = (renumbered-fits own.from own.to map fits.0 fits.1, renumbered-IsWellFormed own.from own.to map fits.0 fits.1);
      back = λ i. record c.args.document.now { map = renumbered-back own.from own.to map fits.0 fits.1 i };
      names = refl;
      obsolete = refl;
      made = refl;
    })
