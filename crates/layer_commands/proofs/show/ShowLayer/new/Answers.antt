use Rattle.std.proofs.Common.{rules, refl}
use Rattle.command_api.proofs.Swaps.{swap_made}
use Rattle.map_model.proofs.LensLaws.{visible-laws}
use Rattle.layer_commands.proofs.show.ShowLayer.new.Goals as goal

pub returns-in-Some-clause-command : goal.returns-in-Some-clause-command
returns-in-Some-clause-command c =
    swap_made (visible-laws c.args.layer) refl c.in-Some.shown.now.visible (search rules) (search rules) (search rules) (search rules)
