use Rattle.map_model.specs.Layers.{layer_visible}
use Rattle.command_api.proofs.Swaps.{swapped}
use Rattle.map_model.proofs.LensLaws.{mapped, visible-laws}
use Rattle.layer_commands.proofs.show.ShowLayerExchange.exchange.Goals as goal

pub returns : goal.returns
returns c = swapped (visible-laws c.args.self.now.layer) (mapped layer_visible _ _ c.set_visible-self.ensures.given) c.set_visible-self.ensures.document
