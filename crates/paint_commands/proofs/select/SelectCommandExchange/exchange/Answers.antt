use Rattle.std.proofs.Common.{Some, ap, sym}
use Rattle.map_model.specs.Document.{IsSelectionOf}
use Rattle.map_model.proofs.LensLaws.{selection-laws}
use Rattle.command_api.proofs.Swaps.{swapped_where}
use Rattle.paint_commands.proofs.select.SelectCommandExchange.exchange.Goals as goal

pub returns : goal.returns
returns c =
    swapped_where (λ d cells. IsSelectionOf d.map cells) selection-laws
    (ap Some (sym c.swap_selection.ensures.given)) c.swap_selection.ensures.document c.swap_selection.ensures.back
