use Rattle.std.proofs.Common.{rules, refl}
use Rattle.map_model.specs.Document.{IsSelectionOf}
use Rattle.map_model.proofs.LensLaws.{selection-laws}
use Rattle.command_api.proofs.Swaps.{swap_where_made}
use Rattle.paint_commands.proofs.select.SelectCommand.new.Goals as goal

pub returns-in-Ok-clause-command : goal.returns-in-Ok-clause-command
returns-in-Ok-clause-command c =
    swap_where_made (λ d cells. IsSelectionOf d.map cells) selection-laws refl c.args.document.now.selection refl (search rules)
    (search rules) c.in-Ok.ensures.within (search rules)
