use Rattle.std.proofs.Common.{rules, refl}
use Rattle.command_api.proofs.Swaps.{swap_made}
use Rattle.map_model.proofs.LensLaws.{name-laws}
use Rattle.layer_commands.proofs.rename.RenameLayer.new.Goals as goal

pub returns-in-Ok-clause-command : goal.returns-in-Ok-clause-command
returns-in-Ok-clause-command c =
    swap_made (name-laws c.args.layer) refl c.in-Some.renamed.now.name (search rules) (search rules) (search rules) (search rules)
