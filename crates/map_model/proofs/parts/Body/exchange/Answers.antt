use Rattle.std.proofs.Common.{sym, ap}
use Rattle.std.proofs.lemmas.Option.{get_or_from_slice_get}
use Rattle.map_model.specs.declared.parts.Body.TheVariants.{Tiles}
use Rattle.map_model.specs.declared.parts.Body.TheViews.{outs-Tiles}
use Rattle.map_model.proofs.parts.Body.exchange.Goals as goal

pub returns-in-Tiles-clause-body : goal.returns-in-Tiles-clause-body
returns-in-Tiles-clause-body c =
    rw (c.in-Tiles.is, outs-Tiles c.in-Tiles.field-0 c.in-Tiles.cells)
    (ap (Tiles c.in-Tiles.field-0) (sym
    (get_or_from_slice_get c.args.canvas.now.layers c.args.number c.swap.new.cells c.in-Tiles.cells c.swap.ensures.given)))
