-- What a select command is and does.
use Rattle.map_model.specs.Document.{IsSelectionOf}
use Rattle.map_model.specs.Lens.{selection}
use Rattle.command_api.specs.Exchange.{Exchange, change_of}
use Rattle.command_api.specs.Law.{Change}
use Rattle.command_api.specs.Swap.{swap_where}
use Rattle.paint_commands.specs.declared.select.SelectCommand.{SelectCommand}
use Rattle.paint_commands.specs.Names.{select_names}

-- the selection and the one that is held, which lies within the map, change places
abbrev pub select_exchange : SelectCommand → Exchange
select_exchange c = swap_where select_names selection (λ d cells. IsSelectionOf d.map cells) c.is_same c.selection

abbrev pub select_change : SelectCommand → Change
select_change c = change_of (select_exchange c)
