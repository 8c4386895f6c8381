use Rattle.map_model.specs.Layers.{layer_name}
use Rattle.map_model.proofs.LensLaws.{mapped}
use Rattle.command_api.proofs.Swaps.{swapped}
use Rattle.map_model.proofs.LensLaws.{name-laws}
use Rattle.layer_commands.proofs.rename.RenameLayerExchange.exchange.Goals as goal

pub returns : goal.returns
returns c = swapped (name-laws c.args.self.now.layer) (mapped layer_name _ _ c.swap_layer_name.ensures.given) c.swap_layer_name.ensures.document
